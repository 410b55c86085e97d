-- The numbers of rows are all different, and one that is gone never comes back.
use Rattle.std.proofs.Common.{◌≡◌, ℕ, ◌+◌, ◌-◌, ◌*◌, ◌^◌, ◌<◌, ◌≤◌, ◌⊎◌, inl, inr, Bool, true, not, if◌then◌else◌, List, [], ◌∷◌, ◌++◌, length, map, filter, Option, Some, None, refl, ap, sym, ◌∙◌, subst, arith, false}
use Rattle.std.specs.Prelude.{ℤ, Contains}
use Rattle.std.specs.List.{list_any}
use Rattle.std.proofs.lemmas.Bool.{and_parts}
use Rattle.std.proofs.lemmas.List.Elements.{Contains-append_left, Contains-append_right, Contains-append_cases}
use Rattle.php_graph.specs.declared.kind.Kind.{Kind}
use Rattle.php_graph.specs.declared.kind.Kind.TheVariants as kinds
use Rattle.php_graph.specs.Size.{block_size}
use Rattle.apcu_model.specs.declared.conf.Conf.{Conf}
use Rattle.apcu_model.specs.declared.request.Event.{Event}
use Rattle.apcu_model.specs.declared.journal.TheConstants.{MOST_EVENTS}
use Rattle.apcu_model.specs.declared.request.Request.{Request}
use Rattle.apcu_model.specs.Cache.{Row, Cache, risen, has_key}
use Rattle.apcu_model.specs.Expiry.{is_expired, live_row}
use Rattle.apcu_model.specs.SlotOrder.{is_in_slot, slot_of}
use Rattle.apcu_model.specs.Change.{dropped, expired_in, is_among, left_of, swept, expunged, cleared, with_row, placed}
use Rattle.apcu_model.specs.Counters.{integer_in, with_integer, with_integer_at, integer_set}
use Rattle.apcu_model.specs.Rows.{are_apart, touched_at}
use Rattle.apcu_model.specs.Lookups.{looked_up, touched}
use Rattle.apcu_model.specs.Sequential.{cache_after}
use Rattle.apcu_model.specs.History.{Stage, start_of, is_scalar, is_shallow, are_shallow, held_places, after_event, after_events, stage_of}
use Rattle.apcu_model.proofs.RequestSteps.{Steps, along, few_new, most_new}
use Rattle.apcu_model.proofs.RowsApart.{are_apart-filter, are_apart-map, are_apart-with_row, touched_key}
use Rattle.apcu_model.proofs.Scalars.{set_key}
use Rattle.apcu_model.proofs.KeyLookups.{one_of_key}
use Rattle.apcu_model.specs.Numbers.{AreBelow, IsIn, IsStill, KeepsNumbers}
use Rattle.apcu_model.proofs.RowOrigins.{Sub, Was, still, still_on, still_back, sub_map, sub_refl, sub_trans, sub_swept, sub_dropped, sub_expunged, sub_cleared}
use Rattle.seg_words.specs.Members.{Contains-cases, Contains-filter, none_in_nil, map_there}

pub record Numbers (c : Cache) : Type 0 where
  pub below : AreBelow c
  pub apart : (p q : Row) → IsIn c p → IsIn c q → p.number ≡ q.number → IsStill p q
  pub keys : are_apart c.rows ≡ true

numbers_sub : (c c' : Cache) → Sub c c' → Numbers c → Numbers c'
numbers_sub c c' s n = record {
  below = λ r h. let p = s.from r h in let b = n.below p.0 p.1 in omega (arith, b, p.2.number, s.next);
  apart = λ r q h k e.
      let a = s.from r h in
      let b = s.from q k in
      let same = n.apart a.0 b.0 a.1 b.1 (a.2.number ∙ (e ∙ sym b.2.number)) in
      still_on (still_back a.2) (still_on same b.2);
  keys = s.keys n.keys;
}

-- a row of the list with a new one
with_there : (new : Row) (rows : List Row) (r : Row) → Contains (with_row new rows) r → (new ≡ r) ⊎ Contains rows r
with_there new rows r h = go (list_any (has_key new.key) rows) h
  where
    picked : (row : Row) → (b : Bool) → (if b then new else row) ≡ r → Contains rows row → (new ≡ r) ⊎ Contains rows r
    picked row true e c = inl e
    picked row false e c = inr (subst (Contains rows) e c)

    go : (b : Bool) → Contains (if b then map {A = Row} (λ row. if has_key new.key row then new else row) rows else rows ++ new ∷ []) r → (new ≡ r) ⊎ Contains rows r
    go true q = let f : Row → Row = λ row. if has_key new.key row then new else row in let x = map_there f rows r q in picked x.0 (has_key new.key x.0) x.2 x.1
    go false q = elim (Contains-append_cases rows (new ∷ []) r q) [
      | inl l ↦ inr l
      | inr l ↦ elim (Contains-cases new [] r l) [ inl e ↦ inl e | inr m ↦ absurd (none_in_nil r m) ]
    ]

abbrev pub new_row : List ℕ → List Kind → ℕ → ℕ → ℕ → Cache → ℕ → Row
new_row key graph ttl t n c place = record { key = key; graph = graph; ttl = ttl; ctime = t; mtime = t; atime = t; dtime = 0; hits = 0; place = place; size = n; number = c.next_number }

-- a row of the cache that a new one came into: the new one, or one that was there
placed_cases : (held key : List ℕ) (graph : List Kind) (ttl t n : ℕ) (c : Cache) (place : ℕ) (r : Row) → IsIn (placed held key graph ttl t n c place) r
    → IsStill (new_row key graph ttl t n c place) r ⊎ Was c r
placed_cases held key graph ttl t n c place r h =
    let slot = slot_of c.conf key in
    let f : Cache = dropped held t (expired_in c.conf t slot c.rows) c in
    let old = filter (has_key key) f.rows in
    let new = new_row key graph ttl t n c place in
    let s1 = sub_dropped held t (expired_in c.conf t slot c.rows) c (λ row h. (Contains-filter (is_in_slot c.conf slot) c.rows row (Contains-filter (is_expired c.conf t) (filter (is_in_slot c.conf slot) c.rows) row h).0).0) in
    let s2 = sub_trans c f (dropped held t old f) s1 (sub_dropped held t old f (λ row h. (Contains-filter (has_key key) f.rows row h).0)) in
    elim (Contains-append_cases (with_row new f.rows) (dropped held t old f).removed r h) [
      | inl l ↦ elim (with_there new f.rows r l) [
        | inl e ↦ inl (subst (IsStill new) e (still new))
        | inr m ↦ inr (s1.from r (Contains-append_left f.rows f.removed r m))
      ]
      | inr l ↦ inr (s2.from r (Contains-append_right (dropped held t old f).rows (dropped held t old f).removed r l))
    ]

numbers_placed : (held key : List ℕ) (graph : List Kind) (ttl t n : ℕ) (c : Cache) (place : ℕ) → Numbers c → c.next_number < 2 ^ 64 - 1 → Numbers (placed held key graph ttl t n c place)
numbers_placed held key graph ttl t n c place num small = record { below = below; apart = apart; keys = keys }
  where
    new : Row
    new = new_row key graph ttl t n c place

    cases : (r : Row) → IsIn (placed held key graph ttl t n c place) r → IsStill new r ⊎ Was c r
    cases r h = placed_cases held key graph ttl t n c place r h

    below : (r : Row) → IsIn (placed held key graph ttl t n c place) r → r.number < risen c.next_number
    below r h = elim (cases r h) [
      | inl e ↦ omega (arith, e.number, small)
      | inr p ↦ let b = num.below p.0 p.1 in omega (arith, b, p.2.number, small)
    ]

    -- a row that was there has not the new one's number
    other : (r x : Row) → Was c r → IsStill new x → r.number ≡ x.number → ⊥
    other r x w s e = let l = num.below w.0 w.1 in omega (arith, l, w.2.number, s.number, e)

    apart : (p q : Row) → IsIn (placed held key graph ttl t n c place) p → IsIn (placed held key graph ttl t n c place) q → p.number ≡ q.number → IsStill p q
    apart p q h k e = elim (cases p h) [
      | inl a ↦ elim (cases q k) [
        | inl b ↦ still_on (still_back a) b
        | inr b ↦ absurd (other q p b a (sym e))
      ]
      | inr a ↦ elim (cases q k) [
        | inl b ↦ absurd (other p q a b e)
        | inr b ↦
            let same = num.apart a.0 b.0 a.1 b.1 (a.2.number ∙ (e ∙ sym b.2.number)) in
            still_on (still_back a.2) (still_on same b.2)
      ]
    ]

    keys : are_apart (placed held key graph ttl t n c place).rows ≡ true
    keys =
        let gone = expired_in c.conf t (slot_of c.conf key) c.rows in
        are_apart-with_row new (left_of gone c.rows) (are_apart-filter (λ row. not (is_among gone row)) c.rows num.keys)

-- the cache after at most this many insertions
pub record Grown (most : ℕ) (c c' : Cache) : Type 0 where
  pub numbers : Numbers c'
  pub next : c'.next_number ≤ c.next_number + most
  pub more : c.next_number ≤ c'.next_number
  -- a row that is not new was there
  pub old : (r : Row) → IsIn c' r → r.number < c.next_number → Was c r

-- no insertion was made
sub_grown : (most : ℕ) (c c' : Cache) → Sub c c' → Numbers c → Grown most c c'
sub_grown most c c' s n = record {
  numbers = numbers_sub c c' s n;
  next = omega (arith, s.next);
  more = omega (arith, s.next);
  old = λ r h l. s.from r h;
}

-- one was
grown_placed : (held key : List ℕ) (graph : List Kind) (ttl t n : ℕ) (c : Cache) (place : ℕ) → Numbers c → c.next_number < 2 ^ 64 - 1 → Grown 1 c (placed held key graph ttl t n c place)
grown_placed held key graph ttl t n c place num small = record {
  numbers = numbers_placed held key graph ttl t n c place num small;
  next = omega arith;
  more = omega (arith, small);
  old = λ r h l. elim (placed_cases held key graph ttl t n c place r h) [ inl e ↦ absurd (omega (arith, e.number, l)) | inr q ↦ q ];
}

sub_looked : (key : List ℕ) (t : ℕ) (o : Option Row) (c : Cache) → Sub c (looked_up key t o c)
sub_looked key t None c = record { from = λ r h. (r, h, still r); next = refl; keys = λ k. k }
sub_looked key t (Some row) c = record {
  from = sub_map c (λ x. if has_key key x then touched t x else x) (λ x there. same x (has_key key x));
  next = refl;
  keys = λ k. are_apart-map (touched_at key t) (touched_key key t) c.rows ∙ k;
}
  where
    same : (x : Row) (b : Bool) → IsStill x (if b then touched t x else x)
    same x true = record { number = refl; key = refl; place = refl; size = refl; ttl = refl; ctime = refl; scalar = refl }
    same x false = still x

-- an integer is set if there is one
sub_set : (key : List ℕ) (n : ℤ) (t : ℕ) (c : Cache) (row : Row) → live_row key t c ≡ Some row → is_scalar row.graph ≡ true → are_apart c.rows ≡ true → Sub c (integer_set key n t c)
sub_set key n t c row live scalar keys = record {
  from = sub_map c (with_integer_at key n t) (λ x there. same x there (has_key key x) refl);
  next = refl;
  keys = λ k. are_apart-map (with_integer_at key n t) (set_key key n t) c.rows ∙ k;
}
  where
    same : (x : Row) → Contains c.rows x → (b : Bool) → has_key key x ≡ b → IsStill x (if b then with_integer n t x else x)
    same x there true e = record {
      number = refl;
      key = refl;
      place = refl;
      size = refl;
      ttl = refl;
      ctime = refl;
      scalar = ap (λ (q : Row). is_scalar q.graph) (one_of_key key t c keys row live x there e) ∙ scalar;
    }
    same x there false e = still x

-- a value that is an integer is a scalar
int_scalar : (g : List Kind) (n : ℤ) → integer_in g ≡ Some n → is_scalar g ≡ true
int_scalar (kinds.Int m ∷ ks) n e = refl
int_scalar _ n e = absurd (cc e)

-- more insertions after some
grown_on : (m n : ℕ) (c d e : Cache) → Grown m c d → Grown n d e → Grown (m + n) c e
grown_on m n c d e f g = record {
  numbers = g.numbers;
  next = omega (arith, f.next, g.next);
  more = omega (arith, f.more, g.more);
  old = λ r h l.
      let p = g.old r h (omega (arith, l, f.more)) in
      let q = f.old p.0 p.1 (omega (arith, p.2.number, l)) in
      (q.0, q.1, still_on q.2 p.2);
}

grown_most : (m n : ℕ) (c d : Cache) → m ≤ n → Grown m c d → Grown n c d
grown_most m n c d l f = record { numbers = f.numbers; next = omega (arith, l, f.next); more = f.more; old = f.old }

-- as far as the numbers last
abbrev Grows : ℕ → Cache → Cache → Type 0
Grows n c d = Numbers c → c.next_number + n < 2 ^ 64 → Grown n c d

grown_steps : (held : List ℕ) (t : ℕ) (r : Request) → Steps held t r Grows
grown_steps held t r = record {
  same = λ c num small. sub_grown 0 c c (sub_refl c) num;
  onward = λ m n a b c f g num small. let x = f num (omega (arith, small)) in grown_on m n a b c x (g x.numbers (omega (arith, small, x.next)));
  wider = λ m n c d l f num small. grown_most m n c d l (f num (omega (arith, small, l)));
  sweep = λ c num small. sub_grown 0 c (swept held c) (sub_swept held c) num;
  drop = λ gone c why num small. sub_grown 0 c (dropped held t gone c) (sub_dropped held t gone c (λ row h. (why row h).there)) num;
  expunge = λ c num small. sub_grown 0 c (expunged held t c) (sub_expunged held t c) num;
  clear = λ c is num small. sub_grown 0 c (cleared held t c) (sub_cleared held t c) num;
  place = λ key graph ttl c place may fits num small. grown_placed held key graph ttl t (block_size (length key) graph) c place num (omega (arith, small));
  look = λ key o c num small. sub_grown 0 c (looked_up key t o c) (sub_looked key t o c) num;
  set = λ key n was c row may live is num small. sub_grown 0 c (integer_set key n t c) (sub_set key n t c row live (int_scalar row.graph was is) num.keys) num;
}

-- at most eight insertions are made in one event
pub grown_after : (held : List ℕ) (t : ℕ) (r : Request) (c : Cache) → Numbers c → c.next_number + 8 < 2 ^ 64 → is_shallow r ≡ true → Grown 8 c (cache_after held t r c)
grown_after held t r c num small shallow =
    let few = few_new r shallow in
    grown_most (most_new r) 8 c (cache_after held t r c) few (along held t r Grows (grown_steps held t r) c num (omega (arith, small, few)))

-- from any stage on, for as many events as the numbers last
pub grown_events : (m : Stage) (h : List Event) → Numbers m.cache → m.cache.next_number + 8 * length h < 2 ^ 64 → are_shallow h ≡ true → Grown (8 * length h) m.cache (after_events m h).cache
grown_events m [] num small shallow = sub_grown 0 m.cache m.cache (sub_refl m.cache) num
grown_events m (e ∷ h) num small shallow =
    let few = and_parts (is_shallow e.request) (are_shallow h) shallow in
    let one = grown_after (held_places m e.mask) e.t e.request m.cache num (omega (arith, small)) few.0 in
    let rest = grown_events (after_event m e) h one.numbers (omega (arith, small, one.next)) few.1 in
    grown_most (8 + 8 * length h) (8 * length (e ∷ h)) m.cache (after_events m (e ∷ h)).cache (omega arith)
    (grown_on 8 (8 * length h) m.cache (after_event m e).cache (after_events m (e ∷ h)).cache one rest)

pub numbers_start : (conf : Conf) → Numbers (start_of conf).cache
numbers_start conf = record { below = λ p c. absurd (none_in_nil p c); apart = λ p q c. absurd (none_in_nil p c); keys = refl }

pub grown_stage : (conf : Conf) (h : List Event) → length h ≤ MOST_EVENTS → are_shallow h ≡ true → Grown (8 * length h) (start_of conf).cache (stage_of conf h).cache
grown_stage conf h short shallow = grown_events (start_of conf) h (numbers_start conf) (omega (arith, short)) shallow

-- and after some events for as many more
pub grown_later : (conf : Conf) (before between : List Event) → length before + length between ≤ MOST_EVENTS → are_shallow before ≡ true → are_shallow between ≡ true
    → Grown (8 * length between) (stage_of conf before).cache (after_events (stage_of conf before) between).cache
grown_later conf before between short early late =
    let g = grown_stage conf before (omega (arith, short)) early in
    grown_events (stage_of conf before) between g.numbers (omega (arith, short, g.next)) late

pub below : (conf : Conf) (h : List Event) → length h ≤ MOST_EVENTS → are_shallow h ≡ true → AreBelow (stage_of conf h).cache
below conf h short shallow = (grown_stage conf h short shallow).numbers.below

pub later : (conf : Conf) (before between : List Event) → length before + length between ≤ MOST_EVENTS → are_shallow before ≡ true → are_shallow between ≡ true
    → KeepsNumbers (stage_of conf before).cache (after_events (stage_of conf before) between).cache
later conf before between short early late =
    let g = grown_later conf before between short early late in record { next = g.more; rows = g.old }

pub one_row : (conf : Conf) (before between : List Event) → length before + length between ≤ MOST_EVENTS → are_shallow before ≡ true → are_shallow between ≡ true
    → (was row : Row) → IsIn (stage_of conf before).cache was → IsIn (after_events (stage_of conf before) between).cache row → was.number ≡ row.number → IsStill was row
one_row conf before between short early late was row there now e =
    let num = (grown_stage conf before (omega (arith, short)) early).numbers in
    let g = grown_later conf before between short early late in
    let p = g.old row now (omega (arith, num.below was there, e)) in
    still_on (num.apart was p.0 there p.1 (e ∙ sym p.2.number)) p.2
