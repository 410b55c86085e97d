use Rattle.std.proofs.Common.{ℕ, ◌-◌, ◌%◌, length, ap, ◌∙◌, arith}
use Rattle.max_tree.specs.Halves.{half}
use Rattle.max_tree.proofs.PairLemmas.{pair_inside, is_put}
use Rattle.max_tree.proofs.pairs.PairRow.clear_at.Goals as goal

pub get-own-requires : goal.get-own-requires
get-own-requires c = pair_inside c.self.inside.row c.args.p (omega (arith, ap length c.self.view_is, c.requires.inside))

pub change-requires-clause-inside : goal.change-requires-clause-inside
change-requires-clause-inside c = pair_inside c.self.inside.row c.args.p (omega (arith, ap length c.self.view_is, c.requires.inside))

pub returns : goal.returns
returns c =
    let made = c.pair_with-pair in
    let h = is_put c.self.inside.row c.change.new.self c.args.self.now c.args.p 0 made.result c.self.view_is c.change.ensures c.requires.inside made.ensures.there (made.ensures.other ∙ ap (λ (x : ℕ). half x (1 - c.args.p % 2)) c.get-own.ensures) in
    record { count = h.count; gone = h.there; others = h.others }
