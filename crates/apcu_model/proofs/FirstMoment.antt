-- An insertion at the moment 0, when no row expires, where a gap is there as soon as the removed
-- rows are swept: it makes no other room, and places its row.
use Rattle.std.proofs.Common.{◌≡◌, ℕ, ◌+◌, ◌-◌, ◌≤◌, ◌&&◌, ◌||◌, Bool, true, false, if◌then◌else◌, List, [], ◌++◌, length, filter, Option, Some, refl, ap, ◌∙◌, arith}
use Rattle.std.proofs.Math.Nat as nat
use Rattle.std.specs.Prelude.{◌/◌, ◌==◌, nat_lt, is_some}
use Rattle.std.proofs.lemmas.Bool.{false_from_ne_true, ltb-true}
use Rattle.std.proofs.lemmas.List.{append-nil}
use Rattle.seg_words.specs.Members.{filter_none}
use Rattle.php_graph.specs.declared.kind.Kind.{Kind}
use Rattle.php_graph.specs.Size.{block_size}
use Rattle.apcu_model.specs.declared.conf.Conf.{Conf}
use Rattle.apcu_model.specs.Conf.{piece_of, most_of}
use Rattle.apcu_model.specs.declared.request.StoreAnswer.TheVariants as answers
use Rattle.apcu_model.specs.Cache.{Row, Cache, risen, has_key, gap_of}
use Rattle.apcu_model.specs.Change.{is_held, dropped, expired_in, left_of, removed_with, swept, expired_dropped, expunged, has_gap, with_room, with_row, placed, put_in, inserted}
use Rattle.apcu_model.specs.Expiry.{is_expired}
use Rattle.apcu_model.specs.Facts.{dated, left_all}
use Rattle.apcu_model.specs.SlotOrder.{is_in_slot, slot_of}

-- the words of the only segment, and of the largest block
pub piece_one : (conf : Conf) → conf.segments ≡ 1 → piece_of conf ≡ conf.words
unfolding piece_of
piece_one conf one = ap (λ n. conf.words / n) one ∙ nat.div-one conf.words

pub most_one : (conf : Conf) → conf.segments ≡ 1 → most_of conf ≡ conf.words - conf.slots
most_one conf one = ap (λ n. if n == 1 then conf.words - conf.slots else piece_of conf) one

pub none_before : (a : ℕ) → nat_lt a 0 ≡ false
none_before a = false_from_ne_true (nat_lt a 0) (λ t. omega (arith, ltb-true a 0 t))

pub never_expired : (conf : Conf) (row : Row) → is_expired conf 0 row ≡ false
never_expired conf row = rw (none_before (row.ctime + row.ttl), none_before (row.atime + conf.ttl)) (both (nat_lt 0 row.ttl) (row.ttl == 0 && nat_lt 0 conf.ttl))
  where
    both : (a b : Bool) → ((a && false) || (b && false)) ≡ false
    both true true = refl
    both true false = refl
    both false true = refl
    both false false = refl

pub placed_at_once : (held key : List ℕ) (graph : List Kind) (c : Cache) (place : ℕ) → let n = block_size (length key) graph in
    n ≤ most_of c.conf → gap_of (swept held c) n ≡ Some place → inserted held key graph 0 false 0 c ≡ put_in held key graph 0 0 n (swept held c) (Some place)
placed_at_once held key graph c place fits is =
    ap (λ b. if b then record { answer = answers.TooLarge; cache = c } else put_in held key graph 0 0 n (with_room held n 0 c) (gap_of (with_room held n 0 c) n)) fitting
    ∙ (ap (λ (d : Cache). put_in held key graph 0 0 n d (gap_of d n)) enough ∙ ap (λ (o : Option ℕ). put_in held key graph 0 0 n first o) is)
  where
    n : ℕ
    n = block_size (length key) graph

    first : Cache
    first = swept held c

    enough : with_room held n 0 c ≡ first
    enough = ap (λ (o : Option ℕ). if is_some o then first else if has_gap n (expired_dropped held 0 first) then expired_dropped held 0 first else expunged held 0 (expired_dropped held 0 first)) is

    fitting : nat_lt (most_of c.conf) n ≡ false
    fitting = false_from_ne_true (nat_lt (most_of c.conf) n) (λ t. omega (arith, ltb-true (most_of c.conf) n t, fits))

-- the old row of the key, if it is held
abbrev pub replaced_rows : List ℕ → List ℕ → List Row → List Row
replaced_rows held key rows = dated 0 (filter (is_held held) (filter (has_key key) rows))

-- the parts of the cache after an insertion
pub record Placed (held : List ℕ) (new : Row) (c d : Cache) : Type 0 where
  pub shape : d.conf ≡ c.conf
  pub rows : d.rows ≡ with_row new c.rows
  pub removed : d.removed ≡ c.removed ++ replaced_rows held new.key c.rows
  pub next : d.next_number ≡ risen c.next_number

abbrev pub new_row : List ℕ → List Kind → ℕ → ℕ → ℕ → Row
new_row key graph n place number = record { key = key; graph = graph; ttl = 0; ctime = 0; mtime = 0; atime = 0; dtime = 0; hits = 0; place = place; size = n; number = number }

pub placed_parts : (held key : List ℕ) (graph : List Kind) (n : ℕ) (c : Cache) (place : ℕ) → Placed held (new_row key graph n place c.next_number) c (placed held key graph 0 0 n c place)
placed_parts held key graph n c place = record {
  shape = refl;
  rows = ap (λ (l : List Row). with_row (new_row key graph n place c.next_number) l) kept;
  removed = removed;
  next = refl;
}
  where
    here : List Row
    here = filter (is_in_slot c.conf (slot_of c.conf key)) c.rows

    -- none expires
    none : expired_in c.conf 0 (slot_of c.conf key) c.rows ≡ []
    none = filter_none (is_expired c.conf 0) here (λ row h. never_expired c.conf row)

    after_sweep : Cache
    after_sweep = dropped held 0 (expired_in c.conf 0 (slot_of c.conf key) c.rows) c

    kept : after_sweep.rows ≡ c.rows
    kept = ap (λ (l : List Row). left_of l c.rows) none ∙ left_all c.rows

    same : after_sweep.removed ≡ c.removed
    same = ap (λ (l : List Row). removed_with held 0 l c.removed) none ∙ append-nil c.removed

    removed : (dropped held 0 (filter (has_key key) after_sweep.rows) after_sweep).removed ≡ c.removed ++ replaced_rows held key c.rows
    removed = ap (λ (l : List Row). l ++ replaced_rows held key after_sweep.rows) same ∙ ap (λ (l : List Row). c.removed ++ replaced_rows held key l) kept
