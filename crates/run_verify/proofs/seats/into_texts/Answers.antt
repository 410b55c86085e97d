use Rattle.std.proofs.Common.{◌≡◌, ◌∙◌, ℕ, List, [], ◌∷◌, ◌++◌, length, map, append-nil, refl, ap, sym, arith, rules}
use Rattle.std.specs.Vec.Iter.{into_iter_items}
use Rattle.run_verify.specs.declared.seat.Seat.{Seat}
use Rattle.run_verify.proofs.GameSeats.{one_told, tells}
use Rattle.run_verify.proofs.seats.into_texts.Goals as goal

nothing_left : (l : List Seat) → length l ≡ 0 → l ≡ []
nothing_left [] e = refl
nothing_left (x ∷ xs) e = absurd (omega (arith, e))

pub loop-seat-init : goal.loop-seat-init
loop-seat-init c =
    let gives = c.into_iter-seat-iterator.ensures.into_iter_gives in
    let rest = map (λ (seat : Seat). seat.text) (into_iter_items c.into_iter-seat-iterator.result) in
    record {
      told = ap (λ (l : List (List ℕ)). l ++ rest) c.in_ok-texts.ensures.items ∙ ap (map (λ (seat : Seat). seat.text)) gives.0;
      len = search rules;
    }

pub loop-seat-preserved : goal.loop-seat-preserved
loop-seat-preserved c =
    let at = c.loop-seat in
    let i = at.invariant in
    let x = c.in-Some.seat in
    let rest = into_iter_items c.next.new.self in
    let steps : into_iter_items at.seat-iterator ≡ x ∷ rest = c.in-Some.ensures.steps.0 in
    record {
      told = one_told at.texts.items _ c.into_text.result x (into_iter_items at.seat-iterator) rest _ c.in_ok-push.ensures.items c.into_text.ensures steps i.told;
      len = let was = i.len in let gone = c.in-Some.ensures.steps.1 in let short = ap length steps in omega arith;
    }

pub returns : goal.returns
returns c =
    let at = c.loop-seat in
    let none = c.in-None.ensures.steps in
    let empty : into_iter_items at.seat-iterator ≡ [] = nothing_left _ (sym at.invariant.len ∙ none.0) in
    tells c.args.seats.items at.texts.items
    (sym (append-nil at.texts.items) ∙ (ap (λ (l : List Seat). at.texts.items ++ map (λ (seat : Seat). seat.text) l) (sym empty) ∙ at.invariant.told))
