-- Counts and look-ups in a list with a new row.
use Rattle.std.proofs.Common.{◌≡◌, ℕ, ◌+◌, ◌≤◌, ◌&&◌, ◌||◌, Bool, true, false, not, cond, if◌then◌else◌, List, [], ◌∷◌, ◌++◌, map, filter, Option, Some, refl, sym, ap, ◌∙◌, arith}
use Rattle.std.specs.Prelude.{find, option_map, nat_lt}
use Rattle.std.specs.Str.{bytes_eq}
use Rattle.std.specs.List.{count_by, list_any}
use Rattle.std.proofs.lemmas.Bool.{false≢true, false_from_ne_true, or_parts}
use Rattle.seg_words.specs.Members.{count-cons, count-append, filter_none, any_from}
use Rattle.php_graph.specs.declared.kind.Kind.{Kind}
use Rattle.apcu_model.specs.Cache.{Row, Cache, has_key}
use Rattle.apcu_model.specs.Change.{with_row}
use Rattle.apcu_model.specs.Expiry.{is_hard_expired, live_row}
use Rattle.apcu_model.proofs.FirstMoment.{none_before}
use Rattle.play_laws.proofs.RowFacts.{key_is, is_key}
use Rattle.play_laws.proofs.CountLemmas.{count_both}

-- ---- counts

abbrev pub renewed : Row → Row → Row
renewed new row = if has_key new.key row then new else row

counted_new : (p : Row → Bool) (new : Row) (rows : List Row) → count_by p (map (renewed new) rows) ≤ cond {A = ℕ} (p new) (count_by (has_key new.key) rows) 0 + count_by p (filter (λ row. not (has_key new.key row)) rows)
counted_new p new [] = omega arith
counted_new p new (row ∷ rows) = go (has_key new.key row) refl (p new) refl (counted_new p new rows)
  where
    others : List Row
    others = filter (λ row. not (has_key new.key row)) rows

    go : (h : Bool) → has_key new.key row ≡ h → (b : Bool) → p new ≡ b
        → count_by p (map (renewed new) rows) ≤ cond {A = ℕ} b (count_by (has_key new.key) rows) 0 + count_by p others
        → count_by p ((if h then new else row) ∷ map (renewed new) rows) ≤ cond {A = ℕ} b (count_by (has_key new.key) (row ∷ rows)) 0 + count_by p (cond (not h) (row ∷ others) others)
    go true e true f rest =
        let one : cond {A = ℕ} (has_key new.key row) 1 0 ≡ 1 = ap (λ b. cond {A = ℕ} b 1 0) e in
        let is : cond {A = ℕ} (p new) 1 0 ≡ 1 = ap (λ b. cond {A = ℕ} b 1 0) f in
        omega (arith, rest, one, is, count-cons p new (map (renewed new) rows), count-cons (has_key new.key) row rows)
    go true e false f rest =
        let is : cond {A = ℕ} (p new) 1 0 ≡ 0 = ap (λ b. cond {A = ℕ} b 1 0) f in
        omega (arith, rest, is, count-cons p new (map (renewed new) rows))
    go false e true f rest =
        let one : cond {A = ℕ} (has_key new.key row) 1 0 ≡ 0 = ap (λ b. cond {A = ℕ} b 1 0) e in
        omega (arith, rest, one, count-cons p row (map (renewed new) rows), count-cons p row others, count-cons (has_key new.key) row rows)
    go false e false f rest =
        omega (arith, rest, count-cons p row (map (renewed new) rows), count-cons p row others)

-- the new row counts once, and the one of its key no more
pub with_counted : (p : Row → Bool) (new : Row) (rows : List Row) → count_by (has_key new.key) rows ≤ 1 → count_by p (with_row new rows) ≤ cond {A = ℕ} (p new) 1 0 + count_by p (filter (λ row. not (has_key new.key row)) rows)
with_counted p new rows single = go (list_any (has_key new.key) rows) refl
  where
    go : (b : Bool) → list_any (has_key new.key) rows ≡ b → count_by p (if b then map {A = Row} (renewed new) rows else rows ++ new ∷ []) ≤ cond {A = ℕ} (p new) 1 0 + count_by p (filter (λ row. not (has_key new.key row)) rows)
    go true e = less (p new) (counted_new p new rows)
      where
        less : (b : Bool) → count_by p (map (renewed new) rows) ≤ cond {A = ℕ} b (count_by (has_key new.key) rows) 0 + count_by p (filter (λ row. not (has_key new.key row)) rows)
            → count_by p (map (renewed new) rows) ≤ cond {A = ℕ} b 1 0 + count_by p (filter (λ row. not (has_key new.key row)) rows)
        less true h = omega (arith, h, single)
        less false h = h
    go false e =
        let none : filter (has_key new.key) rows ≡ [] = filter_none (has_key new.key) rows (λ x c. false_from_ne_true (has_key new.key x) (λ t. false≢true (sym e ∙ any_from (has_key new.key) rows x c t))) in
        let zero_of : count_by p (filter (has_key new.key) rows) ≡ 0 = ap (λ (l : List Row). count_by p l) none in
        omega (arith, count-append p rows (new ∷ []), count-cons p new [], count_both p (has_key new.key) rows, zero_of)

-- ---- look-ups

-- the value under a key
abbrev pub value_at : List ℕ → List Row → Option (List Kind)
value_at key rows = option_map (λ (row : Row). row.graph) (find (has_key key) rows)

find_alike : {X : Type 0} (p q : X → Bool) (xs : List X) → ((x : X) → p x ≡ q x) → find p xs ≡ find q xs
find_alike {X = X} p q [] same = refl
find_alike {X = X} p q (x ∷ xs) same =
    ap (λ b. cond b (Some x) (find p xs)) (same x) ∙ ap (λ (o : Option X). cond (q x) (Some x) o) (find_alike p q xs same)

-- at the moment 0 every row is live
pub live_is : (key : List ℕ) (c : Cache) → live_row key 0 c ≡ find (has_key key) c.rows
live_is key c = find_alike (λ row. has_key key row && not (is_hard_expired 0 row)) (has_key key) c.rows (λ row. go (has_key key row) (nat_lt 0 row.ttl) (nat_lt (row.ctime + row.ttl) 0) (none_before (row.ctime + row.ttl)))
  where
    go : (a b d : Bool) → d ≡ false → (a && not (b && d)) ≡ a
    go a b true e = absurd (cc e)
    go true true false e = refl
    go true false false e = refl
    go false true false e = refl
    go false false false e = refl

-- the new row is found under its key
pub finds_own : (new : Row) (rows : List Row) → find (has_key new.key) (with_row new rows) ≡ Some new
finds_own new rows = go (list_any (has_key new.key) rows) refl
  where
    here : (rest : List Row) → cond (has_key new.key new) (Some new) (find (has_key new.key) rest) ≡ Some new
    here rest = ap (λ b. cond b (Some new) (find (has_key new.key) rest)) (is_key new.key new refl)

    mapped : (rows : List Row) → list_any (has_key new.key) rows ≡ true → find (has_key new.key) (map (renewed new) rows) ≡ Some new
    mapped [] e = absurd (cc e)
    mapped (row ∷ rows) e = at (has_key new.key row) refl e (mapped rows)
      where
        at : (b : Bool) → has_key new.key row ≡ b → (b || list_any (has_key new.key) rows) ≡ true → (list_any (has_key new.key) rows ≡ true → find (has_key new.key) (map (renewed new) rows) ≡ Some new)
            → find (has_key new.key) ((if b then new else row) ∷ map (renewed new) rows) ≡ Some new
        at true is e later = here (map (renewed new) rows)
        at false is e later = ap (λ b. cond b (Some row) (find (has_key new.key) (map (renewed new) rows))) is ∙ later e

    joined : (rows : List Row) → list_any (has_key new.key) rows ≡ false → find (has_key new.key) (rows ++ new ∷ []) ≡ Some new
    joined [] e = here []
    joined (row ∷ rows) e =
        let parts = or_parts (has_key new.key row) (list_any (has_key new.key) rows) e in
        ap (λ b. cond b (Some row) (find (has_key new.key) (rows ++ new ∷ []))) parts.0 ∙ joined rows parts.1

    go : (b : Bool) → list_any (has_key new.key) rows ≡ b → find (has_key new.key) (if b then map {A = Row} (renewed new) rows else rows ++ new ∷ []) ≡ Some new
    go true e = mapped rows e
    go false e = joined rows e

-- and under other keys the same rows as before
pub finds_other : (key : List ℕ) (new : Row) (rows : List Row) → has_key key new ≡ false → find (has_key key) (with_row new rows) ≡ find (has_key key) rows
finds_other key new rows other = go (list_any (has_key new.key) rows)
  where
    differs : (row : Row) → has_key new.key row ≡ true → has_key key row ≡ false
    differs row h = false_from_ne_true (has_key key row) (λ t. false≢true (sym other ∙ is_key key new (sym (key_is new.key row h) ∙ key_is key row t)))

    mapped : (rows : List Row) → find (has_key key) (map (renewed new) rows) ≡ find (has_key key) rows
    mapped [] = refl
    mapped (row ∷ rows) = at (has_key new.key row) refl (mapped rows)
      where
        at : (b : Bool) → has_key new.key row ≡ b → find (has_key key) (map (renewed new) rows) ≡ find (has_key key) rows
            → find (has_key key) ((if b then new else row) ∷ map (renewed new) rows) ≡ find (has_key key) (row ∷ rows)
        at true is later =
            ap (λ b. cond b (Some new) (find (has_key key) (map (renewed new) rows))) other ∙ (later ∙ sym (ap (λ b. cond b (Some row) (find (has_key key) rows)) (differs row is)))
        at false is later = ap (λ (o : Option Row). cond (has_key key row) (Some row) o) later

    joined : (rows : List Row) → find (has_key key) (rows ++ new ∷ []) ≡ find (has_key key) rows
    joined [] = ap (λ b. cond b (Some new) (find (has_key key) [])) other
    joined (row ∷ rows) = ap (λ (o : Option Row). cond (has_key key row) (Some row) o) (joined rows)

    go : (b : Bool) → find (has_key key) (if b then map {A = Row} (renewed new) rows else rows ++ new ∷ []) ≡ find (has_key key) rows
    go true = mapped rows
    go false = joined rows

-- a change that keeps keys
pub finds_changed : (key : List ℕ) (f : Row → Row) (rows : List Row) → ((row : Row) → (f row).key ≡ row.key) → find (has_key key) (map f rows) ≡ option_map f (find (has_key key) rows)
finds_changed key f [] keeps = refl
finds_changed key f (row ∷ rows) keeps = go (has_key key (f row)) (has_key key row) same (finds_changed key f rows keeps)
  where
    same : has_key key (f row) ≡ has_key key row
    same = ap (λ k. bytes_eq k key) (keeps row)

    go : (a b : Bool) → a ≡ b → find (has_key key) (map f rows) ≡ option_map f (find (has_key key) rows) → cond a (Some (f row)) (find (has_key key) (map f rows)) ≡ option_map f (cond b (Some row) (find (has_key key) rows))
    go true true e later = refl
    go true false e later = absurd (cc e)
    go false true e later = absurd (cc e)
    go false false e later = later
