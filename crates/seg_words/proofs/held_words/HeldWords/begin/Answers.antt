use Rattle.std.proofs.Common.{◌≡◌, ℕ, sym, ap, ◌∙◌, subst, length, drop, [], List, arith, rules}
use Rattle.std.proofs.Math.Seq.{drop-length}
use Rattle.seg_words.specs.Windows.{Aside}
use Rattle.seg_words.specs.EventWindows.{AreMet, opened_for}
use Rattle.seg_words.proofs.WorkerWindows.{opened_met}
use Rattle.seg_words.proofs.held_words.HeldWords.begin.Goals as goal

pub invariant_of-self : goal.invariant_of-self
invariant_of-self c = record {
  short = c.args.self.now.short;
  met = subst (AreMet c.args.mask) (sym c.opened_for-self.ensures) (opened_met c.args.self.now.held c.args.mask);
  within = omega arith;
  room = omega arith;
}

pub returns-clause-aside : goal.returns-clause-aside
returns-clause-aside c =
    let marks = c.args.self.now.marks in
    let all : length marks ≡ 64 = search rules in
    let windows : List ℕ = opened_for c.args.mask c.args.self.now.held in
    ap (λ ws. let a : Aside = record { windows = ws; mask = c.args.mask; refused = drop 64 marks } in a) c.opened_for-self.ensures
    ∙ ap (λ r. let a : Aside = record { windows = windows; mask = c.args.mask; refused = r } in a) (subst (λ n. drop n marks ≡ []) all (drop-length marks))
