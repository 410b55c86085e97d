use Rattle.std.proofs.Common.{length, ap, arith, ◌∙◌, ℕ}
use Rattle.max_tree.specs.Halves.{half}
use Rattle.max_tree.proofs.PairLemmas.{NoneOwn, pair_inside, last_own, last_none, last_pair}
use Rattle.max_tree.proofs.pairs.PairRow.last_nonzero_before.Goals as goal
use Rattle.max_tree.proofs.pairs.PairRow.last_nonzero_before.Goals.{Joined-else-p-eq1, else-p-eq1-via-then-p-eq1+else-half_of-gt0, else-p-eq1-via-else-p-eq1}

pub get-requires : goal.get-requires
get-requires c = pair_inside c.self.inside.row c.args.p (omega (arith, ap length c.self.view_is, c.requires))

pub last_nonzero_before-requires : goal.last_nonzero_before-requires
last_nonzero_before-requires c = pair_inside c.self.inside.row c.args.p (omega (arith, ap length c.self.view_is, c.requires))

pub returns-then-half_of-gt0-clause-found : goal.returns-then-half_of-gt0-clause-found
returns-then-half_of-gt0-clause-found c =
    (last_own c.self.inside.row c.args.self.now c.args.p c.half_of.result c.self.view_is (c.half_of.ensures ∙ ap (λ (x : ℕ). half x 0) c.get.ensures) c.if-p-eq1.true c.if-half_of-gt0.true).found

own_none : (c : Joined-else-p-eq1) → NoneOwn c.self.inside.row c.args.p
own_none c = record {
  none = λ odd. elim c.else-p-eq1.branch [
    | else-p-eq1-via-then-p-eq1+else-half_of-gt0 w ↦ omega (arith, w.if-half_of-gt0.false, w.half_of.ensures, ap (λ (x : ℕ). half x 0) w.get.ensures)
    | else-p-eq1-via-else-p-eq1 w ↦ absurd (w.if-p-eq1.false odd)
  ];
}

pub returns-in_default-clause-found : goal.returns-in_default-clause-found
returns-in_default-clause-found c =
    (last_none c.self.inside.row c.args.self.now c.args.p c.self.view_is (own_none c.before.before) c.in_default.ensures.found).found

pub returns : goal.returns
returns c =
    let h = last_pair c.self.inside.row c.args.self.now c.args.p c.in-Some.k c.get-2.result c.second_or_first.result c.self.view_is c.self.invariant.1 (own_none c.before.before.before.before) c.in-Some.ensures.found c.in-Some.ensures.last c.get-2.ensures c.second_or_first.ensures in
    record { found = h.found; last = h.last }
