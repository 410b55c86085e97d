use Rattle.std.proofs.Common.{ap, sym, ◌∙◌, rules, arith}
use Rattle.std.specs.Prelude.{nat_le}
use Rattle.std.specs.List.{position}
use Rattle.max_tree.proofs.PairLemmas.{first_both, first_pair, first_half_none, none_large}
use Rattle.max_tree.proofs.pairs.PairRow.first_at_least.Goals as goal

pub returns-then-n : goal.returns-then-n
returns-then-n c = sym (none_large c.args.self.now c.args.n (omega (arith, c.largest-largest.ensures.is, c.largest-largest.ensures.small, c.if-n.true)))

pub returns-in_default : goal.returns-in_default
returns-in_default c =
    sym (first_half_none c.self.inside.row c.args.n c.self.invariant.1 c.requires.0 (sym c.first_at_least.ensures ∙ c.in_default.is)) ∙ ap (position (λ value. nat_le c.args.n value)) c.self.view_is

pub returns-then-n-eq2 : goal.returns-then-n-eq2
returns-then-n-eq2 c =
    first_both c.self.inside.row c.args.self.now c.args.n c.in-Some.k c.get-pair.result c.self.view_is c.self.invariant.1 (sym c.first_at_least.ensures ∙ c.in-Some.is) (search rules) c.get-pair.ensures c.if-pair-eq2.true c.if-n-eq2.true

pub returns : goal.returns
returns c =
    first_pair c.self.inside.row c.args.self.now c.args.n c.in-Some.k c.get-pair.result c.second_or_first.result c.self.view_is c.self.invariant.1 c.requires.0 c.requires.1 (sym c.first_at_least.ensures ∙ c.in-Some.is) (search rules) c.get-pair.ensures c.second_or_first.ensures (search rules)
