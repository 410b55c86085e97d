-- The places from one number up to another, and how many values they have.
use Rattle.std.proofs.Common.{◌≡◌, ℕ, zero, suc, ◌+◌, ◌-◌, ◌<◌, ◌≤◌, List, [], ◌∷◌, ◌++◌, length, take, drop, Some, refl, sym, ap, ◌∙◌, arith}
use Rattle.std.specs.List.{slice_get}
use Rattle.std.proofs.lemmas.List.{length-append, length-drop, length-take-le, drop-drop, take_all}
use Rattle.std.proofs.lemmas.List.Sums.{sum_by-cons, sum_by-append}
use Rattle.std.proofs.Math.Seq.{take-add}
use Rattle.php_graph.specs.declared.kind.Kind.{Kind}
use Rattle.php_graph.specs.Graph.{kind_at, values_in}
use Rattle.php_graph.proofs.DraftAfterItem.{backs}

-- the places from a up to b, which is not among them
abbrev pub slice : List Kind → ℕ → ℕ → List Kind
slice g a b = take (b - a) (drop (a - 1) g)

pub slice_none : (g : List Kind) (a : ℕ) → slice g a a ≡ []
slice_none g a = let none : a - a ≡ 0 = omega arith in rw none refl

pub slice_whole : (g : List Kind) → slice g 1 (length g + 1) ≡ g
slice_whole g = let n : length g + 1 - 1 ≡ length g = omega arith in rw n (take_all (length g) g (omega arith))

pub slice-append : (g : List Kind) (a b c : ℕ) → 1 ≤ a → a ≤ b → b ≤ c → slice g a b ++ slice g b c ≡ slice g a c
slice-append g a b c low first second =
    let skip : b - 1 ≡ (a - 1) + (b - a) = omega arith in
    let many : c - a ≡ (b - a) + (c - b) = omega arith in
    let rest : drop (b - 1) g ≡ drop (b - a) (drop (a - 1) g) = ap (λ (n : ℕ). drop n g) skip ∙ sym (drop-drop (b - a) (a - 1) g) in
    ap (λ (xs : List Kind). take (b - a) (drop (a - 1) g) ++ take (c - b) xs) rest
    ∙ sym (take-add (b - a) (c - b) (drop (a - 1) g)) ∙ ap (λ (n : ℕ). take n (drop (a - 1) g)) (sym many)

pub length-slice : (g : List Kind) (a b : ℕ) → 1 ≤ a → a ≤ b → b ≤ length g + 1 → length (slice g a b) ≡ b - a
length-slice g a b low first high = length-take-le (b - a) (drop (a - 1) g) (omega (arith, length-drop (a - 1) g))

drop_at : (g : List Kind) (k : ℕ) (kind : Kind) → slice_get g k ≡ Some kind → drop k g ≡ kind ∷ drop (suc k) g
drop_at [] k kind at = absurd cc
drop_at (x ∷ xs) zero kind at = let same : x ≡ kind = cc in ap (λ (y : Kind). y ∷ xs) same
drop_at (x ∷ xs) (suc k) kind at = drop_at xs k kind at

-- the first of them
pub slice_first : (g : List Kind) (m e : ℕ) (kind : Kind) → kind_at g m ≡ Some kind → m < e → slice g m e ≡ kind ∷ slice g (m + 1) e
slice_first g zero e kind at lt = absurd cc
slice_first g (suc k) e kind at lt =
    let n : e - suc k ≡ suc (e - (suc k + 1)) = omega arith in
    let i : suc k - 1 ≡ k = omega arith in
    let j : suc k + 1 - 1 ≡ suc k = omega arith in
    ap (λ (q : ℕ). take (e - suc k) (drop q g)) i ∙ ap (take (e - suc k)) (drop_at g k kind at)
    ∙ ap (λ (q : ℕ). take q (kind ∷ drop (suc k) g)) n
    ∙ ap (λ (q : ℕ). kind ∷ take (e - (suc k + 1)) (drop q g)) (sym j)

-- ---- values

pub values_in-append : (x y : List Kind) → values_in (x ++ y) ≡ values_in x + values_in y
values_in-append x y = omega (arith, length-append x y, sum_by-append backs x y)

pub values_in-cons : (kind : Kind) (x : List Kind) → values_in (kind ∷ x) ≡ 1 + backs kind + values_in x
values_in-cons kind x = omega (arith, sum_by-cons backs kind x)

pub values_in-slices : (g : List Kind) (a b c : ℕ) → 1 ≤ a → a ≤ b → b ≤ c → values_in (slice g a c) ≡ values_in (slice g a b) + values_in (slice g b c)
values_in-slices g a b c low first second = ap values_in (sym (slice-append g a b c low first second)) ∙ values_in-append (slice g a b) (slice g b c)
