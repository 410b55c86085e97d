use Rattle.std.proofs.Common.{◌≡◌, ℕ, ◌+◌, ◌*◌, ◌/◌, ◌≤◌, true, false, sym, subst, arith}
use Rattle.seg_words.specs.Gaps.{is_whole}
use Rattle.seg_words.specs.Segments.{even_times, whole_below, whole_across, whole_without, whole_one}
use Rattle.seg_words.proofs.gaps.raised_whole.Goals as goal
use Rattle.seg_words.proofs.gaps.raised_whole.Goals.{then-piece-eq0-via-then-piece-eq0, then-piece-eq0-via-else-piece-eq0+then-n-eq0}

pub returns-then-piece-eq0-clause-stays : goal.returns-then-piece-eq0-clause-stays
returns-then-piece-eq0-clause-stays c same = elim c.then-piece-eq0.branch [
  | then-piece-eq0-via-then-piece-eq0 w ↦ subst (λ (x : ℕ). is_whole x c.args.place c.args.n ≡ true) (sym w.if-piece-eq0.true) (whole_without c.args.place c.args.n)
  | then-piece-eq0-via-else-piece-eq0+then-n-eq0 w ↦ whole_one c.args.piece c.args.place c.args.n (omega (arith, w.if-n-eq0.true))
]

pub returns-then-place-from-clause-stays : goal.returns-then-place-from-clause-stays
returns-then-place-from-clause-stays c same =
    whole_below c.args.piece c.args.place c.args.n (subst (λ (x : ℕ). c.args.place + c.args.n ≤ (c.args.place / x + 1) * x) c.from-words.ensures (omega (arith, c.if-place-from.true, c.from.ensures)))

pub returns-clause-even : goal.returns-clause-even
returns-clause-even c = even_times (c.args.place / c.from-words.result + 1) c.from-words.result (omega (arith, c.from-words.ensures, c.requires.even))

pub returns-clause-passed : goal.returns-clause-passed
returns-clause-passed c b low high =
    subst (λ (x : ℕ). is_whole x b c.args.n ≡ false) c.from-words.ensures
    (whole_across c.from-words.result b c.args.n (c.args.place / c.from-words.result + 1) (omega (arith, c.from-words.ensures, c.if-piece-eq0.false)) high (omega (arith, c.if-place-from.false, c.from.ensures)))
