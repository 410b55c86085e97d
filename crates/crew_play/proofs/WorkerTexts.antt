-- Texts and faults that are gone through one by one.
use Rattle.std.proofs.Common.{◌≡◌, ℕ, inl, inr, length, List, [], ◌∷◌, ◌++◌, map, refl, sym, ap, subst, ◌∙◌, arith, append_assoc}
use Rattle.std.specs.Prelude.{Result, Ok, Contains}
use Rattle.std.proofs.lemmas.List.{map-append}
use Rattle.std.proofs.lemmas.List.Elements.{Contains-append_right, Contains-append_cases}
use Rattle.worker_play.specs.declared.script.PlayFault.{PlayFault}
use Rattle.crew_play.proofs.Crews.{contains_one}

-- one text more is taken
pub items_taken : (texts next rest : List (Result (List ℕ) PlayFault)) (text : List ℕ) (all more : List (List ℕ)) → map Ok all ++ next ≡ texts → next ≡ Ok text ∷ rest → more ≡ all ++ text ∷ []
    → map Ok more ++ rest ≡ texts
items_taken texts next rest text all more is step pushed =
    ap (λ (l : List (List ℕ)). map Ok l ++ rest) pushed
    ∙ (ap (λ (l : List (Result (List ℕ) PlayFault)). l ++ rest) (map-append Ok all (text ∷ []))
    ∙ (append_assoc (map Ok all) (Ok text ∷ []) rest ∙ (ap (λ (l : List (Result (List ℕ) PlayFault)). map Ok all ++ l) (sym step) ∙ is)))

-- what follows the first one is there
pub behind_first : {A : Type 0} (texts next rest : List A) (y : A) → ((x : A) → Contains next x → Contains texts x) → next ≡ y ∷ rest → (x : A) → Contains rest x → Contains texts x
behind_first {A = A} texts next rest y behind step x there = behind x (subst (λ (l : List A). Contains l x) (sym step) (Contains-append_right (y ∷ []) rest x there))

-- and so does the first one
pub first_there : {A : Type 0} (texts next rest : List A) (y : A) → ((x : A) → Contains next x → Contains texts x) → next ≡ y ∷ rest → Contains texts y
first_there {A = A} texts next rest y behind step = behind y (subst (λ (l : List A). Contains l y) (sym step) (0, omega arith, refl))

-- what is not the first one stands behind it
pub not_first : {A : Type 0} (next rest : List A) (y x : A) → (y ≡ x → ⊥) → next ≡ y ∷ rest → Contains next x → Contains rest x
not_first {A = A} next rest y x other step there = elim (Contains-append_cases (y ∷ []) rest x (subst (λ (l : List A). Contains l x) step there)) [
  | inl l ↦ absurd (other (contains_one y x l))
  | inr r ↦ r
]

-- and nothing stands in an empty list
pub none_there : {A : Type 0} (next : List A) (x : A) → next ≡ [] → Contains next x → ⊥
none_there {A = A} next x none there = let less = there.1 in omega (arith, less, ap length none)
