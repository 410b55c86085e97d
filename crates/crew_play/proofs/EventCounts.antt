-- Budgets gathered worker by worker.
use Rattle.std.proofs.Common.{◌≡◌, ℕ, ◌+◌, List, [], ◌∷◌, ◌++◌, drop, slice_get, Some, sym, ap, ◌∙◌, append_assoc}
use Rattle.script_read.specs.declared.script.Step.{Step}
use Rattle.script_read.specs.Budgets.{events_in, budgets_of}
use Rattle.play_laws.specs.Parts.{drop_item}

-- one budget more
pub budgets_go_on : (slots : ℕ) (scripts : List (List Step)) (w : ℕ) (script : List Step) (all more : List ℕ) (budget : ℕ) → slice_get scripts w ≡ Some script → budget ≡ events_in slots script + 1
    → all ++ budgets_of slots (drop w scripts) ≡ budgets_of slots scripts → more ≡ all ++ budget ∷ [] → more ++ budgets_of slots (drop (w + 1) scripts) ≡ budgets_of slots scripts
budgets_go_on slots scripts w script all more budget is its so_far pushed =
    let rest = budgets_of slots (drop (w + 1) scripts) in
    ap (λ (l : List ℕ). l ++ rest) pushed ∙ (append_assoc all (budget ∷ []) rest
    ∙ (ap (λ n. all ++ n ∷ rest) its ∙ (ap (λ (l : List (List Step)). all ++ budgets_of slots l) (sym (drop_item scripts w script is)) ∙ so_far)))
