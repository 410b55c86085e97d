-- What the look-ups of several keys leave, and what storing under the first of them does.
use Rattle.std.proofs.Common.{◌≡◌, ◌≢◌, ℕ, zero, suc, ◌+◌, ◌-◌, ◌≤◌, true, List, [], ◌∷◌, length, take, Option, Some, None, refl, sym, ap, ◌∙◌, arith}
use Rattle.std.specs.Prelude.{is_some, option_map, if◌then◌else◌}
use Rattle.php_graph.specs.declared.kind.Kind.{Kind}
use Rattle.apcu_model.specs.declared.request.StoreAnswer.{StoreAnswer}
use Rattle.apcu_model.specs.Cache.{Row, Cache}
use Rattle.apcu_model.specs.Change.{inserted}
use Rattle.apcu_model.specs.Expiry.{live_row}
use Rattle.apcu_model.specs.Generators.{given_by, missed_levels, looked_for, Filling, filling_of, filled, entered}
use Rattle.apcu_model.specs.Levels.{EntryLevel, Generator}
use Rattle.apcu_model.specs.Sequential.{looked_up}
use Rattle.cache_core.specs.Counting.{with_misses}
use Rattle.counter_entry.specs.Generating.{first_row, row_under, place_under}

-- the row is the first that is found, under this key
pub record IsUnder (levels : List EntryLevel) (t : ℕ) (c : Cache) (row : Row) : Type 0 where
  pub key : List ℕ
  pub live : live_row key t c ≡ Some row
  pub looked : (n m : ℕ) → m ≡ n + length (missed_levels levels t c) → looked_for levels t (with_misses n c) ≡ looked_up key t (Some row) (with_misses m c)

-- the first key has a live row, or none has
missed_found : (level : EntryLevel) (levels : List EntryLevel) (t : ℕ) (c : Cache) (row : Row) → live_row level.key t c ≡ Some row → missed_levels (level ∷ levels) t c ≡ []
missed_found level levels t c row e = ap (λ (o : Option Row). if is_some o then [] else level ∷ missed_levels levels t c) e

missed_next : (level : EntryLevel) (levels : List EntryLevel) (t : ℕ) (c : Cache) → live_row level.key t c ≡ None → missed_levels (level ∷ levels) t c ≡ level ∷ missed_levels levels t c
missed_next level levels t c e = ap (λ (o : Option Row). if is_some o then [] else level ∷ missed_levels levels t c) e

looked_at : (level : EntryLevel) (levels : List EntryLevel) (t n : ℕ) (c : Cache) (o : Option Row) → live_row level.key t c ≡ o
    → looked_for (level ∷ levels) t (with_misses n c) ≡ (if is_some o then looked_up level.key t o (with_misses n c) else looked_for levels t (with_misses (suc n) c))
looked_at level levels t n c o e = ap (λ (r : Option Row). if is_some r then looked_up level.key t r (with_misses n c) else looked_for levels t (with_misses (suc n) c)) e

pub row_is : (levels : List EntryLevel) (t : ℕ) (c : Cache) (row : Row) → row_under levels t c ≡ Some row → IsUnder levels t c row
row_is [] t c row h = absurd (cc h)
row_is (level ∷ levels) t c row h = go (live_row level.key t c) refl (row_is levels t c row)
  where
    go : (o : Option Row) → live_row level.key t c ≡ o → (row_under levels t c ≡ Some row → IsUnder levels t c row) → IsUnder (level ∷ levels) t c row
    go (Some r) e on =
        let same : r ≡ row = cc (sym (ap (λ o. first_row o (row_under levels t c)) e) ∙ h) in
        let live : live_row level.key t c ≡ Some row = e ∙ ap (λ (x : Row). Some x) same in
        record {
          key = level.key;
          live = live;
          looked = λ n m q.
              let none : length (missed_levels (level ∷ levels) t c) ≡ 0 = ap (λ (l : List EntryLevel). length l) (missed_found level levels t c row live) in
              let even : n ≡ m = omega (arith, q, none) in
              looked_at level levels t n c (Some row) live ∙ ap (λ k. looked_up level.key t (Some row) (with_misses k c)) even;
        }
    go None e on =
        let u = on (sym (ap (λ o. first_row o (row_under levels t c)) e) ∙ h) in
        record {
          key = u.key;
          live = u.live;
          looked = λ n m q.
              let more : length (missed_levels (level ∷ levels) t c) ≡ suc (length (missed_levels levels t c)) = ap (λ (l : List EntryLevel). length l) (missed_next level levels t c e) in
              looked_at level levels t n c None e ∙ u.looked (suc n) m (omega (arith, q, more));
        }

-- no key has a live row
pub none_is : (levels : List EntryLevel) (t : ℕ) (c : Cache) → row_under levels t c ≡ None → (n m : ℕ) → m ≡ n + length (missed_levels levels t c) → looked_for levels t (with_misses n c) ≡ with_misses m c
none_is [] t c h n m q = let even : n ≡ m = omega (arith, q) in ap (λ k. with_misses k c) even
none_is (level ∷ levels) t c h n m q = go (live_row level.key t c) refl (none_is levels t c)
  where
    go : (o : Option Row) → live_row level.key t c ≡ o → (row_under levels t c ≡ None → (n m : ℕ) → m ≡ n + length (missed_levels levels t c) → looked_for levels t (with_misses n c) ≡ with_misses m c)
        → looked_for (level ∷ levels) t (with_misses n c) ≡ with_misses m c
    go (Some r) e on = let no : Some r ≡ None = sym (ap (λ o. first_row o (row_under levels t c)) e) ∙ h in absurd (cc no)
    go None e on =
        let more : length (missed_levels (level ∷ levels) t c) ≡ suc (length (missed_levels levels t c)) = ap (λ (l : List EntryLevel). length l) (missed_next level levels t c e) in
        looked_at level levels t n c None e ∙ on (sym (ap (λ o. first_row o (row_under levels t c)) e) ∙ h) (suc n) m (omega (arith, q, more))

-- what is found at a place
pub record IsPlaced (levels : List EntryLevel) (t : ℕ) (c : Cache) (at : ℕ) : Type 0 where
  pub row : Row
  pub first : row_under levels t c ≡ Some row
  pub place : row.place ≡ at

pub placed_is : (levels : List EntryLevel) (t : ℕ) (c : Cache) (at : ℕ) → Some at ≡ place_under levels t c → IsPlaced levels t c at
placed_is levels t c at h = go (row_under levels t c) refl h
  where
    go : (o : Option Row) → row_under levels t c ≡ o → Some at ≡ option_map (λ (row : Row). row.place) o → IsPlaced levels t c at
    go None e q = absurd (cc q)
    go (Some row) e q = let place : at ≡ row.place = cc q in record { row = row; first = e; place = sym place }

pub none_placed : (levels : List EntryLevel) (t : ℕ) (c : Cache) → None ≡ place_under levels t c → row_under levels t c ≡ None
none_placed levels t c h = go (row_under levels t c) h
  where
    go : (o : Option Row) → None ≡ option_map (λ (row : Row). row.place) o → o ≡ None
    go None q = refl
    go (Some row) q = absurd (cc q)

-- the keys that missed come first
pub taken_missed : (levels : List EntryLevel) (t : ℕ) (c : Cache) → take (length (missed_levels levels t c)) levels ≡ missed_levels levels t c
taken_missed [] t c = refl
taken_missed (level ∷ levels) t c = go (live_row level.key t c) refl (taken_missed levels t c)
  where
    go : (o : Option Row) → live_row level.key t c ≡ o → take (length (missed_levels levels t c)) levels ≡ missed_levels levels t c
        → take (length (missed_levels (level ∷ levels) t c)) (level ∷ levels) ≡ missed_levels (level ∷ levels) t c
    go (Some row) e on = let none = missed_found level levels t c row e in ap (λ (l : List EntryLevel). take (length l) (level ∷ levels)) none ∙ sym none
    go None e on = let more = missed_next level levels t c e in ap (λ (l : List EntryLevel). take (length l) (level ∷ levels)) more ∙ (ap (λ (l : List EntryLevel). level ∷ l) on ∙ sym more)

pub few_missed : (levels : List EntryLevel) (t : ℕ) (c : Cache) → length (missed_levels levels t c) ≤ length levels
few_missed [] t c = omega arith
few_missed (level ∷ levels) t c = go (live_row level.key t c) refl (few_missed levels t c)
  where
    go : (o : Option Row) → live_row level.key t c ≡ o → length (missed_levels levels t c) ≤ length levels → length (missed_levels (level ∷ levels) t c) ≤ length (level ∷ levels)
    go (Some row) e on = let none : length (missed_levels (level ∷ levels) t c) ≡ 0 = ap (λ (l : List EntryLevel). length l) (missed_found level levels t c row e) in omega (arith, none)
    go None e on =
        let more : length (missed_levels (level ∷ levels) t c) ≡ suc (length (missed_levels levels t c)) = ap (λ (l : List EntryLevel). length l) (missed_next level levels t c e) in
        omega (arith, more, on)

-- several keys, the first and the others
pub take_first : (n : ℕ) (level : EntryLevel) (levels : List EntryLevel) → n ≢ 0 → take n (level ∷ levels) ≡ level ∷ take (n - 1) levels
take_first zero level levels some = absurd (some refl)
take_first (suc n) level levels some = let e : n ≡ suc n - 1 = omega arith in ap (λ k. level ∷ take k levels) e

-- the value is stored under the others, and then under the first
pub filled_first : (held : List ℕ) (value : List Kind) (t n : ℕ) (level : EntryLevel) (levels : List EntryLevel) (c mid new : Cache) (last : Option StoreAnswer) (answer : StoreAnswer) → n ≢ 0
    → filled held value t (take (n - 1) levels) c ≡ record { outermost = last; cache = mid } → inserted held level.key value level.ttl true t mid ≡ record { answer = answer; cache = new }
    → filled held value t (take n (level ∷ levels)) c ≡ record { outermost = Some answer; cache = new }
filled_first held value t n level levels c mid new last answer some inner outer =
    ap (λ (l : List EntryLevel). filled held value t l c) (take_first n level levels some)
    ∙ (ap (λ (f : Filling). filling_of (inserted held level.key value level.ttl true t f.cache)) inner ∙ ap filling_of outer)

-- the value is stored under the keys that missed
pub filled_missed : (held : List ℕ) (g : Generator) (t : ℕ) (c looked : Cache) (value : List Kind) (missing : ℕ) → value ≡ given_by g t c → missing ≡ length (missed_levels g.levels t c) → looked ≡ looked_for g.levels t c
    → entered held g t c ≡ filled held value t (take missing g.levels) looked
filled_missed held g t c looked value missing value_is missing_is looked_is =
    let missed : missed_levels g.levels t c ≡ take missing g.levels = sym (ap (λ k. take k g.levels) missing_is ∙ taken_missed g.levels t c) in
    ap (λ (v : List Kind). filled held v t (missed_levels g.levels t c) (looked_for g.levels t c)) (sym value_is)
    ∙ (ap (λ (l : List EntryLevel). filled held value t l (looked_for g.levels t c)) missed ∙ ap (λ (x : Cache). filled held value t (take missing g.levels) x) (sym looked_is))
