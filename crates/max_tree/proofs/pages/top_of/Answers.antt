use Rattle.std.proofs.Common.{◌≡◌, ℕ, ◌+◌, ◌-◌, ◌*◌, length, take, drop, ap, ◌∙◌, sym, arith, length-drop}
use Rattle.std.proofs.lemmas.List.{take_all}
use Rattle.max_tree.specs.Pages.{largest}
use Rattle.max_tree.specs.declared.row.TheConstants.{PAGE}
use Rattle.max_tree.proofs.pages.top_of.Goals as goal

pub returns-then-numbers-start-ge-PAGE : goal.returns-then-numbers-start-ge-PAGE
returns-then-numbers-start-ge-PAGE c =
    let count : (PAGE * c.args.k + PAGE) - PAGE * c.args.k ≡ PAGE = omega arith in
    c.largest_of.ensures ∙ ap (λ (n : ℕ). largest (take n (drop (PAGE * c.args.k) c.args.numbers.now))) count

pub returns : goal.returns
returns c =
    let xs = c.args.numbers.now in
    let rest = drop (PAGE * c.args.k) xs in
    let few = length-drop (PAGE * c.args.k) xs in
    c.largest_of-2.ensures ∙ ap largest (take_all (length xs - PAGE * c.args.k) rest (omega (arith, few)) ∙ sym (take_all PAGE rest (omega (arith, few, c.if-numbers-start-ge-PAGE.false))))
