use Rattle.std.proofs.Common.{◌+◌, ◌-◌, ℕ, Bool, nat_le, get_or, subst, sym, arith}
use Rattle.std.proofs.lemmas.Bool.{le-leb, lt-leb}
use Rattle.std.proofs.lemmas.Nat.{one_shl}
use Rattle.max_tree.specs.Marks.{IsMarked}
use Rattle.max_tree.specs.declared.row.TheConstants.{PAGE}
use Rattle.max_tree.proofs.FlagBits.{one_marked, none_more}
use Rattle.max_tree.proofs.marks.marks_from.Goals as goal
use Rattle.max_tree.proofs.marks.marks_from.Goals.{then-numbers-start, else-numbers-start}

pub loop-j-preserved : goal.loop-j-preserved
loop-j-preserved c =
    let flag : ℕ → Bool = λ j. nat_le c.args.n (get_or c.args.numbers.now (c.args.start + (PAGE - 1 - j)) 0) in
    elim c.if-numbers-start.branch [
      | then-numbers-start w ↦
          subst (λ m. IsMarked flag (c.loop-j.j + 1) m) (sym w.marks-is)
          (one_marked flag c.loop-j.j c.loop-j.marks _ (one_shl c.loop-j.j 32 (omega arith)) c.loop-j.invariant (le-leb c.args.n _ w.if-numbers-start.true))
      | else-numbers-start w ↦
          subst (λ m. IsMarked flag (c.loop-j.j + 1) m) (sym w.marks-is)
          (none_more flag c.loop-j.j c.loop-j.marks c.loop-j.invariant (lt-leb c.args.n _ w.if-numbers-start.false))
    ]
