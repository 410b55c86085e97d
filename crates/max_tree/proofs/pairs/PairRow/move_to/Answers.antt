use Rattle.std.proofs.Common.{length, ap, arith}
use Rattle.max_tree.proofs.PairLemmas.{pair_inside, is_moved_in}
use Rattle.max_tree.proofs.pairs.PairRow.move_to.Goals as goal

pub set-requires : goal.set-requires
set-requires c = pair_inside c.self.inside.row c.args.p (omega (arith, ap length c.self.view_is, c.requires.inside.1))

pub returns-then-gone-p : goal.returns-then-gone-p
returns-then-gone-p c =
    let h = is_moved_in c.self.inside.row c.set.new.self c.args.self.now c.args.gone c.args.p c.args.size c.alone.result c.self.view_is c.set.ensures c.requires.inside.1 c.requires.apart c.if-gone-p.true c.alone.ensures.there c.alone.ensures.other in
    record { count = h.count; there = h.there; gone = h.gone_is; others = h.others }
