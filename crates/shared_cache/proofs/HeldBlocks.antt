-- The blocks that the segment holds are those that the history holds.
use Rattle.std.proofs.Common.{◌≡◌, ℕ, ◌<◌, ◌==◌, ◌&&◌, ◌||◌, Bool, true, false, cond, List, [], ◌∷◌, ◌++◌, map, filter, Some, refl, ap, sym, ◌∙◌, subst}
use Rattle.std.specs.Prelude.{Contains}
use Rattle.std.specs.Int.{bit_at}
use Rattle.std.specs.List.{list_any}
use Rattle.std.specs.Map.{lookup}
use Rattle.std.proofs.lemmas.Bool.{and_parts, and_from, or_left, or_right, eqb-true, eq-eqb, false≢true}
use Rattle.seg_words.specs.Members.{Contains-map, Contains-filter, Contains-kept, any_there, any_from}
use Rattle.seg_words.specs.Windows.{has, held_by}
use Rattle.apcu_model.specs.Cache.{Row}
use Rattle.apcu_model.specs.Change.{AreAlike}
use Rattle.apcu_model.specs.History.{Stage, IsNumbered, is_in_mask, is_copied, held_places}
use Rattle.pin_table.specs.declared.views.Known.{Known}
use Rattle.pin_table.specs.declared.views.WriterState.{WriterState}
use Rattle.shared_cache.specs.Laws.{LockLaws}
use Rattle.shared_cache.specs.TiedWindows.{AreTied}
use Rattle.shared_cache.proofs.Windows.{Running, from_before, same_there}

copied_from : (mask v n : ℕ) (ws : List (ℕ × ℕ)) → lookup (λ y. y == v) ws ≡ Some n → is_in_mask mask v ≡ true → list_any (λ w. is_in_mask mask w.0 && w.1 == n) ws ≡ true
copied_from mask v n [] h bit = absurd (cc h)
copied_from mask v n (w ∷ ws) h bit = go (w.0 == v) refl (λ q. copied_from mask v n ws q bit) h
  where
    go : (b : Bool) → (w.0 == v) ≡ b → (lookup (λ y. y == v) ws ≡ Some n → list_any (λ w. is_in_mask mask w.0 && w.1 == n) ws ≡ true) → cond b (Some w.1) (lookup (λ y. y == v) ws) ≡ Some n
        → ((is_in_mask mask w.0 && w.1 == n) || list_any (λ w. is_in_mask mask w.0 && w.1 == n) ws) ≡ true
    go true is later q =
        let e : w.1 ≡ n = cc q in
        or_left (is_in_mask mask w.0 && w.1 == n) (list_any (λ w. is_in_mask mask w.0 && w.1 == n) ws)
        (and_from (is_in_mask mask w.0) (w.1 == n) (ap (is_in_mask mask) (eqb-true w.0 v is) ∙ bit) (eq-eqb w.1 n e))
    go false is later q = or_right (is_in_mask mask w.0 && w.1 == n) (list_any (λ w. is_in_mask mask w.0 && w.1 == n) ws) (later q)

any_has : (x : ℕ) (l : List ℕ) → list_any (λ p. p == x) l ≡ has x l
any_has x [] = refl
any_has x (y ∷ ys) = go (y == x) refl (x == y) refl (any_has x ys)
  where
    go : (b : Bool) → (y == x) ≡ b → (c : Bool) → (x == y) ≡ c → list_any (λ p. p == x) ys ≡ has x ys → (b || list_any (λ p. p == x) ys) ≡ (c || has x ys)
    go true i true j r = refl
    go false i false j r = r
    go true i false j r = absurd (false≢true (sym j ∙ eq-eqb x y (sym (eqb-true y x i))))
    go false i true j r = absurd (false≢true (sym i ∙ eq-eqb y x (sym (eqb-true x y j))))

both : (a b : Bool) → (a ≡ true → b ≡ true) → (b ≡ true → a ≡ true) → a ≡ b
both true true f g = refl
both false false f g = refl
both true false f g = sym (f refl)
both false true f g = g refl

flip : (a b : ℕ) → (a == b) ≡ (b == a)
flip a b = both (a == b) (b == a) (λ e. eq-eqb b a (sym (eqb-true a b e))) (λ e. eq-eqb a b (sym (eqb-true b a e)))

mapped : (x : ℕ) (rows : List Row) → list_any (λ (row : Row). row.place == x) rows ≡ has x (map {A = Row} {B = ℕ} (λ row. row.place) rows)
mapped x [] = refl
mapped x (r ∷ rs) = ap (λ b. b || list_any (λ (row : Row). row.place == x) rs) (flip r.place x) ∙ ap (λ b. (x == r.place) || b) (mapped x rs)

-- what the windows of the mask's workers name, the history holds, and the other way round
pub held_alike : LockLaws → (m : Stage) (d : WriterState) (p : Known) (old : List ℕ) → IsNumbered m → Running d p old → AreTied m old
    → AreAlike (held_by d.mask d.windows) (held_places m d.mask)
held_alike laws m d p old numbered run tied x = any_has x (held_by d.mask d.windows) ∙ (both (has x (held_by d.mask d.windows)) (has x (held_places m d.mask)) there here ∙ sym (any_has x (held_places m d.mask)))
  where
    there : has x (held_by d.mask d.windows) ≡ true → has x (held_places m d.mask) ≡ true
    there h =
        let t = laws.rule.held d.mask d.windows x h in
        let k = run.order.masked t.0 t.1 in
        let pos : 0 < x = subst (λ y. 0 < y) (same_there d.windows t.0 k.0 x k.1 t.2) k.2 in
        let o = from_before d p old run t.0 x t.2 pos in
        let r = tied t.0 x o.1 pos in
        let c : is_copied d.mask m r.row.number ≡ true = copied_from d.mask t.0 r.row.number m.windows r.window (eq-eqb (bit_at d.mask t.0) 1 t.1) in
        let kept = Contains-kept (λ (row : Row). is_copied d.mask m row.number) (m.cache.rows ++ m.cache.removed) r.row r.there c in
        let placed = Contains-map {X = Row} {Y = ℕ} (λ row. row.place) (filter (λ (row : Row). is_copied d.mask m row.number) (m.cache.rows ++ m.cache.removed)) r.row kept in
        sym (any_has x (held_places m d.mask)) ∙ any_from (λ y. y == x) (held_places m d.mask) r.row.place placed (eq-eqb r.row.place x r.place)

    here : has x (held_places m d.mask) ≡ true → has x (held_by d.mask d.windows) ≡ true
    here h =
        let a = any_row (filter (λ (row : Row). is_copied d.mask m row.number) (m.cache.rows ++ m.cache.removed)) h in
        let f = Contains-filter (λ (row : Row). is_copied d.mask m row.number) (m.cache.rows ++ m.cache.removed) a.0 a.1 in
        let w = any_there (λ (w : ℕ × ℕ). is_in_mask d.mask w.0 && w.1 == a.0.number) m.windows f.1 in
        let parts = and_parts (is_in_mask d.mask w.0.0) (w.0.1 == a.0.number) w.2 in
        let bit : bit_at d.mask w.0.0 ≡ 1 = eqb-true (bit_at d.mask w.0.0) 1 parts.0 in
        let k = run.order.masked w.0.0 bit in
        let o = from_before d p old run w.0.0 k.0 k.1 k.2 in
        let r = tied w.0.0 k.0 o.1 k.2 in
        let n : r.row.number ≡ a.0.number = cc (r.window, numbered.one w.0 w.1) ∙ eqb-true w.0.1 a.0.number parts.1 in
        let place : k.0 ≡ x = sym r.place ∙ (numbered.numbers r.row a.0 r.there f.0 n ∙ a.2) in
        subst (λ y. has y (held_by d.mask d.windows) ≡ true) place (laws.rule.holds d.mask d.windows w.0.0 k.0 bit k.1 k.2)
      where
        any_row : (rows : List Row) → has x (map {A = Row} {B = ℕ} (λ row. row.place) rows) ≡ true → (row : Row) × Contains rows row × (row.place ≡ x)
        any_row rows q = let t = any_there (λ (row : Row). row.place == x) rows (mapped x rows ∙ q) in (t.0, t.1, eqb-true t.0.place x t.2)
