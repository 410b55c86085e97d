-- Of a list that is gone through, what holds of each of the first ones.
use Rattle.std.proofs.Common.{◌≡◌, ◌∙◌, ◌+◌, ◌<◌, ℕ, List, length, Some, inl, inr, ap, sym, subst, arith}
use Rattle.std.specs.Prelude.{slice_get}
use Rattle.std.proofs.lemmas.Bool.{cases_eq}
use Rattle.std.proofs.lemmas.Option.{slice_get_within}

abbrev pub First : {A : Type 0} → (A → Type 0) → List A → ℕ → Type 0
First {A} P l n = (k : ℕ) (x : A) → k < n → slice_get l k ≡ Some x → P x

pub one_more : {A : Type 0} (P : A → Type 0) (l : List A) (n : ℕ) (x : A) → First P l n → slice_get l n ≡ Some x → P x → First P l (n + 1)
one_more P l n x first here is k y low at = elim (cases_eq k n) [
  | inl e ↦ let same : x ≡ y = let f : Some x ≡ Some y = sym here ∙ (ap (slice_get l) (sym e) ∙ at) in cc f in subst P same is
  | inr ne ↦ first k y (omega (arith, low, ne)) at
]

pub all_of : {A : Type 0} (P : A → Type 0) (l : List A) (n : ℕ) → n ≡ length l → First P l n → (k : ℕ) (x : A) → slice_get l k ≡ Some x → P x
all_of P l n many first k x at = first k x (omega (arith, many, slice_get_within l k x at)) at
