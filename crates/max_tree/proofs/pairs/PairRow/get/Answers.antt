use Rattle.std.proofs.Common.{ℕ, ◌%◌, List, length, get_or, ap, sym, ◌∙◌, arith}
use Rattle.max_tree.specs.Halves.{half}
use Rattle.max_tree.proofs.PairLemmas.{pair_inside, halves_at}
use Rattle.max_tree.proofs.pairs.PairRow.get.Goals as goal

pub get-requires : goal.get-requires
get-requires c = pair_inside c.self.inside.row c.args.p (omega (arith, ap length c.self.view_is, c.requires))

pub returns : goal.returns
returns c =
    c.half_of.ensures ∙ ap (λ (x : ℕ). half x (c.args.p % 2)) c.get.ensures
    ∙ sym (halves_at c.self.inside.row c.args.p) ∙ ap (λ (xs : List ℕ). get_or xs c.args.p 0) c.self.view_is
