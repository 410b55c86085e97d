use Rattle.std.proofs.Common.{◌≡◌, ◌≢◌, ℕ, cond, eqb, ◌-◌, ◌%◌, List, length, get_or, ap, sym, ◌∙◌, subst, arith}
use Rattle.max_tree.specs.Halves.{half, MayStand, other_half}
use Rattle.max_tree.proofs.PairLemmas.{pair_inside, is_put, other_is}
use Rattle.max_tree.proofs.pairs.PairRow.put.Goals as goal

pub get-own-requires : goal.get-own-requires
get-own-requires c = pair_inside c.self.inside.row c.args.p (omega (arith, ap length c.self.view_is, c.requires.inside))

pub change-requires-clause-inside : goal.change-requires-clause-inside
change-requires-clause-inside c = pair_inside c.self.inside.row c.args.p (omega (arith, ap length c.self.view_is, c.requires.inside))

pub pair_with-pair-requires-clause-beside : goal.pair_with-pair-requires-clause-beside
pair_with-pair-requires-clause-beside c _ =
    let other : get_or c.args.self.now (other_half c.args.p) 0 ≡ half c.get-own.result (1 - c.args.p % 2) =
    sym (ap (λ (xs : List ℕ). get_or xs (other_half c.args.p) 0) c.self.view_is) ∙ other_is c.self.inside.row c.args.p
    ∙ sym (ap (λ (x : ℕ). half x (1 - c.args.p % 2)) c.get-own.ensures) in
    let which : c.args.p % 2 ≡ c.args.p % 2 % 2 = omega arith in
    let here = subst (λ (x : ℕ). MayStand c.args.p c.args.size x) other c.requires.beside in
    subst (λ (w : ℕ). half c.get-own.result (1 - c.args.p % 2) ≢ 0 → cond (eqb w 0) c.args.size (half c.get-own.result (1 - c.args.p % 2)) ≡ 2) which here

pub returns : goal.returns
returns c =
    let made = c.pair_with-pair in
    let h = is_put c.self.inside.row c.change.new.self c.args.self.now c.args.p c.args.size made.result c.self.view_is c.change.ensures c.requires.inside made.ensures.there (made.ensures.other ∙ ap (λ (x : ℕ). half x (1 - c.args.p % 2)) c.get-own.ensures) in
    record { count = h.count; there = h.there; others = h.others }
