-- Integers count on: the row of a key after an event, and after all events.
use Rattle.std.proofs.Common.{◌≡◌, ℕ, ◌+◌, ◌-◌, ◌*◌, ◌^◌, ◌<◌, ◌≤◌, ◌&&◌, inl, inr, Bool, true, false, not, if◌then◌else◌, List, [], ◌∷◌, ◌++◌, length, Option, Some, None, refl, ap, sym, ◌∙◌, subst, arith}
use Rattle.std.specs.Prelude.{ℤ, Contains, nat_lt, is_some}
use Rattle.std.specs.Str.{bytes_eq}
use Rattle.std.proofs.lemmas.Bool.{and_parts, ltb-true, false≢true, not-true}
use Rattle.std.proofs.lemmas.List.{length-append}
use Rattle.std.proofs.lemmas.Slice.Eq.{bytes_eq-Decides}
use Rattle.seg_words.specs.Members.{map_there, none_in_nil}
use Rattle.php_graph.specs.declared.kind.Kind.TheVariants as kinds
use Rattle.php_graph.specs.Size.{block_size}
use Rattle.apcu_model.specs.declared.conf.Conf.{Conf}
use Rattle.apcu_model.specs.declared.request.Event.{Event}
use Rattle.apcu_model.specs.declared.request.Request.{Request}
use Rattle.apcu_model.specs.declared.request.Request.TheVariants as request
use Rattle.apcu_model.specs.declared.request.StoreAnswer.TheVariants as answers
use Rattle.apcu_model.specs.Laws.{RowsStayApart}
use Rattle.apcu_model.specs.Conf.{most_of}
use Rattle.apcu_model.specs.Cache.{Row, Cache, has_key, gap_of}
use Rattle.apcu_model.specs.Change.{with_room, put_in, inserted}
use Rattle.apcu_model.specs.Counters.{integer_in, with_integer, with_integer_at, integer_set, sum_of, counted_on, counted_at, is_expected}
use Rattle.apcu_model.specs.Expiry.{live_row}
use Rattle.apcu_model.specs.History.{Stage, start_of, stage_of, is_shallow, are_shallow, held_places, after_event, after_events}
use Rattle.apcu_model.specs.Sequential.{cache_after}
use Rattle.apcu_model.proofs.RequestSteps.{Sets, room_made}
use Rattle.play_laws.specs.Counting.{increments_in, steps_on, counted_up, is_swap, none_swaps}
use Rattle.play_laws.proofs.RowFacts.{key_is, is_key, one_of_key, live_there}
use Rattle.play_laws.proofs.RowNumbers.{Sound, Older, Grown, Grows, grown_steps, grown_after, placed_cases, no_row}

-- ---- where the row of a key comes from

-- no key
abbrev None_of : List ℕ → Type 0
None_of key = ⊥

-- the row of the cache before, whose integer has counted on by the steps
record From (own : List ℕ) (steps : List ℤ) (c : Cache) (r : Row) : Type 0 where
  pub row : Row
  pub there : Contains c.rows row
  pub number : row.number ≡ r.number
  pub key : row.key ≡ r.key
  pub on : (n : ℤ) → integer_in row.graph ≡ Some n → integer_in r.graph ≡ Some (counted_up n steps)

from_old : (key : List ℕ) (c : Cache) (r : Row) → r.key ≡ key → Older (λ k. k ≡ key) c r → From key [] c r
from_old key c r own p = record { row = p.0; there = p.1; number = p.2.number; key = p.2.key; on = λ n e. sym (p.2.value own) ∙ e }

from_same : (key : List ℕ) (c : Cache) (r : Row) → Contains c.rows r → From key [] c r
from_same key c r h = record { row = r; there = h; number = refl; key = refl; on = λ n e. e }

equal : (k key : List ℕ) → bytes_eq k key ≡ true → k ≡ key
equal k key h = (bytes_eq-Decides k key).0 h

-- a live row that is counted on
from_counted_on : (key : List ℕ) (step : ℤ) (t : ℕ) (c : Cache) (row : Row) → live_row key t c ≡ Some row → Sound c → (r : Row)
    → Contains (counted_on key step t c (integer_in row.graph)).cache.rows r → r.key ≡ key → From key (step ∷ []) c r
from_counted_on key step t c row live sound r h own = go (integer_in row.graph) refl h
  where
    found : (p : Row) → Contains c.rows p → p.key ≡ key → p ≡ row
    found p there e = let l = live_there key t c row live in one_of_key key c.rows sound.apart p row there l.0 e l.1

    at : (n : ℤ) → integer_in row.graph ≡ Some n → (p : Row) → Contains c.rows p → (b : Bool) → has_key key p ≡ b → (if b then with_integer (sum_of n step) t p else p) ≡ r → From key (step ∷ []) c r
    at n e p there true has f = record {
      row = p;
      there = there;
      number = ap (λ (q : Row). q.number) f;
      key = ap (λ (q : Row). q.key) f;
      on = λ v i.
          let was : integer_in row.graph ≡ Some v = ap (λ (q : Row). integer_in q.graph) (sym (found p there (key_is key p has))) ∙ i in
          let value : n ≡ v = cc in
          sym (ap (λ (q : Row). integer_in q.graph) f) ∙ ap (λ (z : ℤ). Some (sum_of z step)) value;
    }
    at n e p there false has f = absurd (false≢true (sym has ∙ is_key key p (ap (λ (q : Row). q.key) f ∙ own)))

    go : (o : Option ℤ) → integer_in row.graph ≡ o → Contains (counted_on key step t c o).cache.rows r → From key (step ∷ []) c r
    go None e h = record {
      row = r;
      there = h;
      number = refl;
      key = refl;
      on = λ n i. let was : integer_in r.graph ≡ integer_in row.graph = ap (λ (q : Row). integer_in q.graph) (found r h own) in absurd (cc (was, e, i));
    }
    go (Some n) e h = let x = map_there (with_integer_at key (sum_of n step) t) c.rows r h in at n e x.0 x.1 (has_key key x.0) refl x.2

-- a counter that begins is new, and where it finds no place no row of its key is left
from_begun : RowsStayApart → (held key : List ℕ) (step : ℤ) (ttl t : ℕ) (c : Cache) → Sound c → c.next_number < 2 ^ 64 - 1 → (r : Row)
    → Contains (inserted held key (kinds.Int step ∷ []) ttl false t c).cache.rows r → r.number < c.next_number → r.key ≡ key → From key (step ∷ []) c r
from_begun law held key step ttl t c sound few r h old own = go (nat_lt (most_of c.conf) n) refl h
  where
    n : ℕ
    n = block_size (length key) (kinds.Int step ∷ [])

    room : Cache
    room = with_room held n t c

    made : Grown None_of 0 c room
    made = room_made held t request.Clear (Grows None_of) (grown_steps law None_of held t request.Clear (λ k sets own. sets)) n c sound (omega (arith, few))

    at : (o : Option ℕ) → gap_of room n ≡ o → Contains (put_in held key (kinds.Int step ∷ []) ttl t n room o).cache.rows r → From key (step ∷ []) c r
    at None none h = absurd (none_in_nil r (subst (λ (l : List Row). Contains l r) (no_row held n t c sound.slots none) h))
    at (Some place) there h = elim (placed_cases law held key (kinds.Int step ∷ []) ttl t n room place r h) [
      | inl e ↦ absurd (omega (arith, e.0, old, made.more))
      | inr e ↦ absurd (false≢true (sym e.1 ∙ is_key key r own))
    ]

    go : (a : Bool) → nat_lt (most_of c.conf) n ≡ a → Contains (if a then record { answer = answers.TooLarge; cache = c } else put_in held key (kinds.Int step ∷ []) ttl t n room (gap_of room n)).cache.rows r → From key (step ∷ []) c r
    go true large h = record {
      row = r;
      there = h;
      number = refl;
      key = refl;
      on = λ v e.
          let fits : block_size (length r.key) (kinds.Int step ∷ []) ≤ most_of c.conf = sound.room r h (ap (λ (o : Option ℤ). is_some o) e) step in
          let fits' : n ≤ most_of c.conf = subst (λ k. block_size (length k) (kinds.Int step ∷ []) ≤ most_of c.conf) own fits in
          absurd (omega (arith, fits', ltb-true (most_of c.conf) n large));
    }
    go false small h = at (gap_of room n) refl h

from_counted : RowsStayApart → (held key : List ℕ) (step : ℤ) (ttl t : ℕ) (c : Cache) → Sound c → c.next_number < 2 ^ 64 - 1 → (r : Row) → r.number < c.next_number → r.key ≡ key
    → (o : Option Row) → live_row key t c ≡ o → Contains (counted_at held key step ttl t c o).cache.rows r → From key (step ∷ []) c r
from_counted law held key step ttl t c sound few r old own (Some row) live h = from_counted_on key step t c row live sound r h own
from_counted law held key step ttl t c sound few r old own None live h = from_begun law held key step ttl t c sound few r h old own

from_after : RowsStayApart → (key held : List ℕ) (t : ℕ) (q : Request) (c : Cache) → Sound c → c.next_number + 8 < 2 ^ 64 → is_shallow q ≡ true → is_swap key t q c ≡ false
    → (r : Row) → Contains (cache_after held t q c).rows r → r.number < c.next_number → r.key ≡ key → From key (increments_in key q) c r
from_after law key held t q c sound few shallow kept r h old own = go q shallow kept h
  where
    -- no integer of the key is set
    quiet : (q : Request) → is_shallow q ≡ true → ((k : List ℕ) → Sets q k → k ≡ key → ⊥) → Contains (cache_after held t q c).rows r → From key [] c r
    quiet q flat other h = from_old key c r own ((grown_after law (λ k. k ≡ key) held t q c other sound few flat).from r h old)

    differ : (k : List ℕ) → bytes_eq k key ≡ false → (x : List ℕ) → k ≡ x → x ≡ key → ⊥
    differ k other x e f = false≢true (sym other ∙ (bytes_eq-Decides k key).1 (e ∙ f))

    counts : (k : List ℕ) (step : ℤ) (ttl : ℕ) (b : Bool) → bytes_eq k key ≡ b → Contains (cache_after held t (request.Inc k step ttl) c).rows r → From key (if b then step ∷ [] else []) c r
    counts k step ttl false other h = quiet (request.Inc k step ttl) refl (differ k other) h
    counts k step ttl true same h = let e = equal k key same in from_key (from_counted law held k step ttl t c sound (omega (arith, few)) r old (own ∙ sym e) (live_row k t c) refl h)
      where
        from_key : From k (step ∷ []) c r → From key (step ∷ []) c r
        from_key f = record { row = f.row; there = f.there; number = f.number; key = f.key; on = f.on }

    swaps : (k : List ℕ) (expect n : ℤ) (own b : Bool) → bytes_eq k key ≡ own → is_expected expect (live_row k t c) ≡ b → (own && b) ≡ false → Contains (cache_after held t (request.Cas k expect n) c).rows r → From key [] c r
    swaps k expect n false b other is none h = quiet (request.Cas k expect n) refl (differ k other) h
    swaps k expect n true true same is none h = absurd (false≢true (sym none))
    swaps k expect n true false same is none h = from_same key c r (subst (λ b. Contains (if b then integer_set k n t c else c).rows r) is h)

    go : (q : Request) → is_shallow q ≡ true → is_swap key t q c ≡ false → Contains (cache_after held t q c).rows r → From key (increments_in key q) c r
    go (request.Inc k step ttl) flat none h = counts k step ttl (bytes_eq k key) refl h
    go (request.Cas k expect n) flat none h = swaps k expect n (bytes_eq k key) (is_expected expect (live_row k t c)) refl refl none h
    go (request.Entry g) flat none h = quiet (request.Entry g) flat (λ k sets e. sets) h
    go q flat none h = quiet q refl (λ k sets e. sets) h

-- ---- all events

counted-append : (n : ℤ) (first second : List ℤ) → counted_up (counted_up n first) second ≡ counted_up n (first ++ second)
counted-append n [] second = refl
counted-append n (step ∷ first) second = counted-append (sum_of n step) first second

sound_events : RowsStayApart → (m : Stage) (es : List Event) → Sound m.cache → m.cache.next_number + 8 * length es < 2 ^ 64 → are_shallow es ≡ true
    → Sound (after_events m es).cache × ((after_events m es).cache.next_number ≤ m.cache.next_number + 8 * length es)
sound_events law m [] sound few deep = (sound, omega arith)
sound_events law m (e ∷ es) sound few deep =
    let parts = and_parts (is_shallow e.request) (are_shallow es) deep in
    let k = grown_after law None_of (held_places m e.mask) e.t e.request m.cache (λ k sets own. own) sound (omega (arith, few)) parts.0 in
    let rest = sound_events law (after_event m e) es k.sound (omega (arith, few, k.next)) parts.1 in
    (rest.0, omega (arith, rest.1, k.next))

from_then : (key : List ℕ) (first second : List ℤ) (c d : Cache) (r : Row) (late : From key second d r) → From key first c late.row → From key (first ++ second) c r
from_then key first second c d r late early = record {
  row = early.row;
  there = early.there;
  number = early.number ∙ late.number;
  key = early.key ∙ late.key;
  on = λ n i. late.on (counted_up n first) (early.on n i) ∙ ap (λ (z : ℤ). Some z) (counted-append n first second);
}

from_events : RowsStayApart → (key : List ℕ) (m : Stage) (es : List Event) → Sound m.cache → m.cache.next_number + 8 * length es < 2 ^ 64 → are_shallow es ≡ true → none_swaps key m es ≡ true
    → (r : Row) → Contains (after_events m es).cache.rows r → r.number < m.cache.next_number → r.key ≡ key → From key (steps_on key es) m.cache r
from_events law key m [] sound few deep kept r h old own = from_same key m.cache r h
from_events law key m (e ∷ es) sound few deep kept r h old own =
    let parts = and_parts (is_shallow e.request) (are_shallow es) deep in
    let none = and_parts (not (is_swap key e.t e.request m.cache)) (none_swaps key (after_event m e) es) kept in
    let k = grown_after law None_of (held_places m e.mask) e.t e.request m.cache (λ k sets own. own) sound (omega (arith, few)) parts.0 in
    let late = from_events law key (after_event m e) es k.sound (omega (arith, few, k.next)) parts.1 none.1 r h (omega (arith, old, k.more)) own in
    let early = from_after law key (held_places m e.mask) e.t e.request m.cache sound (omega (arith, few)) parts.0 (not-true (is_swap key e.t e.request m.cache) none.0) late.row late.there (omega (arith, old, late.number)) (late.key ∙ own) in
    from_then key (increments_in key e.request) (steps_on key es) m.cache (after_event m e).cache r late early

shallow_parts : (before between : List Event) → are_shallow (before ++ between) ≡ true → (are_shallow before ≡ true) × (are_shallow between ≡ true)
shallow_parts [] between h = (refl, h)
shallow_parts (e ∷ before) between h =
    let parts = and_parts (is_shallow e.request) (are_shallow (before ++ between)) h in
    let rest = shallow_parts before between parts.1 in
    (subst (λ b. (b && are_shallow before) ≡ true) (sym parts.0) rest.0, rest.1)

after-joined : (m : Stage) (before between : List Event) → after_events m (before ++ between) ≡ after_events (after_events m before) between
after-joined m [] between = refl
after-joined m (e ∷ before) between = after-joined (after_event m e) before between

pub counted : RowsStayApart → (conf : Conf) (before between : List Event) (first second : Row) (n : ℤ) → 1 ≤ conf.slots → length (before ++ between) ≤ 4194304 → are_shallow (before ++ between) ≡ true
    → Contains (stage_of conf before).cache.rows first → Contains (stage_of conf (before ++ between)).cache.rows second → first.key ≡ second.key → first.number ≡ second.number → integer_in first.graph ≡ Some n
    → none_swaps first.key (stage_of conf before) between ≡ true → integer_in second.graph ≡ Some (counted_up n (steps_on first.key between))
counted law conf before between first second n some short deep a b same number is none =
    let deep' = shallow_parts before between deep in
    let count = length-append before between in
    let start : Sound (start_of conf).cache = record { slots = some; apart = refl; below = λ p h. absurd (none_in_nil p h); one = λ p q h. absurd (none_in_nil p h); room = λ p h. absurd (none_in_nil p h) } in
    let s = sound_events law (start_of conf) before start (omega (arith, short, count)) deep'.0 in
    let m = stage_of conf before in
    let there : Contains (after_events m between).cache.rows second = subst (λ (x : Stage). Contains x.cache.rows second) (after-joined (start_of conf) before between) b in
    let f = from_events law first.key m between s.0 (omega (arith, short, count, s.1)) deep'.1 none second there (omega (arith, number, s.0.below first a)) (sym same) in
    let row : f.row ≡ first = one_of_key first.key m.cache.rows s.0.apart f.row first f.there a (f.key ∙ sym same) refl in
    f.on n (ap (λ (q : Row). integer_in q.graph) row ∙ is)
