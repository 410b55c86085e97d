-- The places of numbers behind others.
use Rattle.std.proofs.Common.{◌≡◌, ◌∙◌, ℕ, suc, ◌+◌, ◌*◌, ◌≤◌, List, [], ◌∷◌, ◌++◌, length, refl, sym, ap, subst, map, arith, append-nil}
use Rattle.std.proofs.lemmas.List.{append_assoc}
use Rattle.std.proofs.Common.{length-append}
use Rattle.php_graph.specs.declared.kind.Kind.{Kind}
use Rattle.php_graph.specs.declared.places.Place.{Place}
use Rattle.php_graph.specs.Graph.{most_values}
use Rattle.php_graph.specs.PlaceOffsets.{kinds_at}
use Rattle.apcu_model.specs.Infos.{number_kind}
use Rattle.apcu_model.specs.InfoGraphs.{IsLaidOut, number_places}
use Rattle.info_tables.proofs.GraphLayout.{laid_on}

-- they hold the numbers
pub kinds_are : (at : ℕ) (ns : List ℕ) → kinds_at (number_places at ns) ≡ map number_kind ns
kinds_are at [] = refl
kinds_are at (n ∷ ns) = ap (λ (ks : List Kind). number_kind n ∷ ks) (kinds_are (at + 2) ns)

-- and stand where an image has them
pub numbers_laid : (first : Kind) (others : List Place) (words : ℕ) (ns : List ℕ) → IsLaidOut first others words → length others + 1 + length ns ≤ most_values
    → IsLaidOut first (others ++ number_places words ns) (words + 2 * length ns)
numbers_laid first others words [] so few =
    subst (λ (all : List Place). IsLaidOut first all (words + 0)) (sym (append-nil others))
    (subst (λ (w : ℕ). IsLaidOut first others w) (omega arith) so)
numbers_laid first others words (n ∷ ns) so few =
    let place : Place = record { kind = number_kind n; at = words } in
    let one = laid_on first others words (number_kind n) 2 so (omega arith) refl (omega arith) in
    let rest = numbers_laid first (others ++ place ∷ []) (words + 2) ns one (omega (arith, length-append others (place ∷ []))) in
    subst (λ (all : List Place). IsLaidOut first all (words + 2 * length (n ∷ ns))) (append_assoc others (place ∷ []) (number_places (words + 2) ns))
    (subst (λ (w : ℕ). IsLaidOut first ((others ++ place ∷ []) ++ number_places (words + 2) ns) w) (omega arith) rest)
