-- Rows of the plain cache that are dropped and placed, where nothing is held.
use Rattle.std.proofs.Common.{◌≡◌, ℕ, zero, suc, ◌<◌, ◌≤◌, inl, inr, ap₂, Bool, true, false, cond, not, ◌&&◌, List, [], ◌∷◌, ◌++◌, length, get_or, set, map, filter, refl, sym, ap, ◌∙◌, subst, arith}
use Rattle.std.specs.List.{Contains, list_any}
use Rattle.std.proofs.lemmas.Bool.{cases_Bool, and_parts, and_from, not-true, not_from_false, false≢true, false_from_ne_true, or_parts, or_from}
use Rattle.std.proofs.lemmas.List.Folds.{list_any-append, list_any_at}
use Rattle.std.proofs.lemmas.Slice.Eq.{bytes_eq-Decides}
use Rattle.plain_cache.specs.declared.state.State.{State}
use Rattle.php_graph.specs.declared.kind.Kind.{Kind}
use Rattle.apcu_model.specs.Cache.{Row, Cache, risen, has_key}
use Rattle.apcu_model.specs.Change.{expired_in, is_among, is_held, dropped, leaving, left_of, with_row, placed}
use Rattle.apcu_model.specs.Facts.{among_from, among_there, leaving_from, leaving_there, one_by_key}
use Rattle.apcu_model.specs.Expiry.{is_expired}
use Rattle.apcu_model.specs.Lookups.{touched}
use Rattle.apcu_model.specs.SlotOrder.{is_in_slot, slot_of}
use Rattle.apcu_model.specs.declared.conf.Conf.{Conf}
use Rattle.seg_words.specs.Members.{Contains-filter, Contains-kept, filter_alike, filter_none, filter_then}
use Rattle.apcu_model.specs.Rows.{are_apart, touched_at}
use Rattle.plain_cache.specs.States.{cache_in}
use Rattle.apcu_model.proofs.RowsApart.{dropped_in, left_passing}

pub dropped_of : (t : ℕ) (gone left : List Row) (s : State) → left_of gone s.rows.items ≡ left → dropped [] t gone (cache_in s) ≡ record (cache_in s) { rows = left }
dropped_of t gone left s are = dropped_in t gone left (cache_in s) are

-- the rows that are left where expired rows of a slot are dropped
abbrev pub swept_rows : State → ℕ → ℕ → List Row
swept_rows s slot t = filter (λ row. not (is_in_slot s.conf slot row && is_expired s.conf t row)) s.rows.items

abbrev pub new_row : State → List ℕ → List Kind → ℕ → ℕ → ℕ → ℕ → Row
new_row s key graph ttl t n place = record {
  key = key;
  graph = graph;
  ttl = ttl;
  ctime = t;
  mtime = t;
  atime = t;
  dtime = 0;
  hits = 0;
  place = place;
  size = n;
  number = s.next_number;
}

-- they are those that are left where the expired ones of the slot have gone
left_swept : (slot t : ℕ) (s : State) → are_apart s.rows.items ≡ true → left_of (expired_in s.conf t slot s.rows.items) s.rows.items ≡ swept_rows s slot t
left_swept slot t s apart =
    let pass : Row → Bool = λ row. is_in_slot s.conf slot row && is_expired s.conf t row in
    ap (λ gone. left_of gone s.rows.items) (filter_then (is_in_slot s.conf slot) (is_expired s.conf t) s.rows.items) ∙ left_passing pass s.rows.items apart

pub placed_of : (key : List ℕ) (graph : List Kind) (ttl t n place : ℕ) (s : State) → are_apart s.rows.items ≡ true → placed [] key graph ttl t n (cache_in s) place ≡ record (cache_in s) { rows = with_row (new_row s key graph ttl t n place) (swept_rows s (slot_of s.conf key) t); next_number = risen s.next_number; inserts = risen s.inserts }
placed_of key graph ttl t n place s apart =
    let new = new_row s key graph ttl t n place in
    let slot = slot_of s.conf key in
    let after_sweep = swept_rows s slot t in
    let old = filter (has_key key) after_sweep in
    ap
    (λ (f : Cache). let c : Cache = record (dropped [] t (filter (has_key key) f.rows) f) { rows = with_row new f.rows; next_number = risen s.next_number; inserts = risen s.inserts } in c)
    (dropped_of t (expired_in s.conf t slot s.rows.items) after_sweep s (left_swept slot t s apart))
    ∙ ap
    (λ (d : Cache). let c : Cache = record d { rows = with_row new after_sweep; next_number = risen s.next_number; inserts = risen s.inserts } in c)
    (dropped_in t old (left_of old after_sweep) (record (cache_in s) { rows = after_sweep }) refl)
