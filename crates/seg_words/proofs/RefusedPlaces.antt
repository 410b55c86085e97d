-- Places that are refused among those that windows name.
use Rattle.std.proofs.Common.{◌≡◌, inl, inr, ℕ, ◌+◌, ◌-◌, ◌<◌, ◌≤◌, Bool, true, false, cond, eqb, ltb, ◌||◌, List, [], ◌∷◌, length, drop, set, refl, sym, ap, ◌∙◌, subst, arith}
use Rattle.std.specs.List.{list_any, count_by, sum_by}
use Rattle.std.proofs.lemmas.Bool.{and_parts, and_from, or_left, eqb-true, eq-eqb, lt-ltb, ltb-true, ltb-false, cases_Bool, false≢true, false_from_ne_true}
use Rattle.std.proofs.lemmas.List.{drop-set}
use Rattle.std.proofs.lemmas.List.Sums.{count_by-le-length, sum_by-cons, sum_by-le-sum_by}
use Rattle.seg_words.specs.Windows.{Aside, has, is_named, closed_on, Frees}
use Rattle.seg_words.specs.Probing.{held_unnamed}

flip : (a b : ℕ) → eqb a b ≡ eqb b a
flip a b = elim (cases_Bool (eqb a b)) [
  | inl t ↦ t ∙ sym (eq-eqb b a (sym (eqb-true a b t)))
  | inr f ↦ f ∙ sym (false_from_ne_true (eqb b a) (λ t. false≢true (sym f ∙ eq-eqb a b (sym (eqb-true b a t)))))
]

-- whether a place is among some, as std's search tells it
pub any_has : (x : ℕ) (l : List ℕ) → list_any (λ y. eqb y x) l ≡ has x l
any_has x [] = refl
any_has x (y ∷ ys) = ap (λ b. b || list_any (λ z. eqb z x) ys) (flip y x) ∙ ap (λ b. eqb x y || b) (any_has x ys)

closed_same : (at : ℕ) (ws : List ℕ) → (0 < at → has at ws ≡ false) → closed_on at ws ≡ ws
closed_same at [] none = refl
closed_same at (w ∷ ws) none = go (eqb w at) refl (closed_same at ws (λ some. later (eqb at w) (none some)))
  where
    later : (t : Bool) → (t || has at ws) ≡ false → has at ws ≡ false
    later true q = absurd (false≢true (sym q))
    later false q = q

    go : (t : Bool) → eqb w at ≡ t → closed_on at ws ≡ ws → cond t 0 w ∷ closed_on at ws ≡ w ∷ ws
    go false e rest = ap (λ xs. w ∷ xs) rest
    go true e rest =
        let same : w ≡ at = eqb-true w at e in
        let zero_is : 0 ≡ w = elim (cases_Bool (ltb 0 at)) [
          | inl some ↦ absurd (false≢true (sym (none (ltb-true 0 at some)) ∙ or_left (eqb at w) (has at ws) (eq-eqb at w (sym same))))
          | inr z ↦ omega (arith, same, not_above z)
        ] in
        ap (λ x. x ∷ closed_on at ws) zero_is ∙ ap (λ xs. w ∷ xs) rest
      where
        not_above : ltb 0 at ≡ false → at ≡ 0
        not_above z = omega (arith, ltb-false 0 at z)

-- a probe that finds no window changes nothing
pub frees_none : (aside : Aside) (at : ℕ) → is_named aside.windows at ≡ false → Frees aside aside at
frees_none aside at none = record {
  not_held = held_unnamed aside at none;
  unnamed = none;
  windows = sym (closed_same at aside.windows (λ some. false_from_ne_true (has at aside.windows) (λ t.
      false≢true (sym none ∙ and_from (ltb 0 at) (has at aside.windows) (lt-ltb 0 at some) t))));
  mask = refl;
  refused = refl;
}

-- a place that a window names and that is new among the refused ones takes one of the windows
pub one_more : (at : ℕ) (marks ws : List ℕ) → has at marks ≡ false → has at ws ≡ true
    → count_by (λ w. has w marks) ws + 1 ≤ count_by (λ w. has w (at ∷ marks)) ws
one_more at marks ws unrefused = go ws
  where
    before : ℕ → ℕ
    before w = cond (has w marks) 1 0

    after : ℕ → ℕ
    after w = cond (has w (at ∷ marks)) 1 0

    step : (t m : Bool) → cond m 1 0 ≤ cond {A = ℕ} (t || m) 1 0
    step true true = omega arith
    step true false = omega arith
    step false true = omega arith
    step false false = omega arith

    grows : (xs : List ℕ) → sum_by before xs ≤ sum_by after xs
    grows xs = sum_by-le-sum_by before after xs (λ w. step (eqb w at) (has w marks))

    go : (xs : List ℕ) → has at xs ≡ true → sum_by before xs + 1 ≤ sum_by after xs
    go [] h = absurd (false≢true h)
    go (x ∷ xs) h = omega (arith, sum_by-cons before x xs, sum_by-cons after x xs, each (eqb x at) refl (go xs))
      where
        tail : (t : Bool) → t ≡ false → (t || has at xs) ≡ true → has at xs ≡ true
        tail true q r = absurd (false≢true (sym q))
        tail false q r = r

        new : eqb x at ≡ true → (before x ≡ 0) × (after x ≡ 1)
        new e = (ap (λ b. cond {A = ℕ} b 1 0) (subst (λ y. has y marks ≡ false) (sym (eqb-true x at e)) unrefused), ap (λ b. cond {A = ℕ} (b || has x marks) 1 0) e)

        each : (t : Bool) → eqb x at ≡ t → (has at xs ≡ true → sum_by before xs + 1 ≤ sum_by after xs)
            → before x + sum_by before xs + 1 ≤ after x + sum_by after xs
        each true e rest = let n = new e in omega (arith, n.0, n.1, grows xs)
        each false e rest = omega (arith, step (eqb x at) (has x marks), rest (tail (eqb at x) (flip at x ∙ e) h))

-- there is room for one refused place more
pub room_left : (n left at : ℕ) (marks ws : List ℕ) → length ws ≡ n → n ≤ left + count_by (λ w. has w marks) ws
    → has at marks ≡ false → is_named ws at ≡ true → 1 ≤ left
room_left n left at marks ws len room unrefused named =
    omega (arith, room, len, one_more at marks ws unrefused (and_parts (ltb 0 at) (has at ws) named).1, count_by-le-length (λ w. has w (at ∷ marks)) ws)

-- the refused places with one more in front
pub marked : (n left at : ℕ) (marks : List ℕ) → length marks ≡ n → left ≤ n → 1 ≤ left → drop (left - 1) (set marks (left - 1) at) ≡ at ∷ drop left marks
marked n left at marks len within some =
    drop-set marks (left - 1) at (omega (arith, len, within, some)) ∙ ap (λ k. at ∷ drop k marks) (omega (arith, some))
