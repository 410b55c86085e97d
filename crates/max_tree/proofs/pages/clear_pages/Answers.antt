use Rattle.std.proofs.Common.{◌+◌, ◌*◌, ℕ, List, sym, subst, arith, inl, inr}
use Rattle.std.proofs.lemmas.Bool.{cases_lt}
use Rattle.std.proofs.lemmas.List.{get_or_past}
use Rattle.max_tree.specs.declared.row.TheConstants.{PAGE}
use Rattle.max_tree.proofs.PageLemmas.{Cleared, cleared_more, cleared_skip, page_some, room_of}
use Rattle.max_tree.proofs.pages.clear_pages.Goals as goal
use Rattle.max_tree.proofs.pages.clear_pages.Goals.{then-tops-k-gt0, else-tops-k-gt0}

pub loop-k-preserved : goal.loop-k-preserved
loop-k-preserved c = elim c.if-tops-k-gt0.branch [
  | then-tops-k-gt0 w ↦
      let e = w.clear_page.ensures in
      subst (λ (xs : List ℕ). Cleared c.args.numbers.now xs (c.loop-k.k + 1)) (sym w.numbers-is)
      (cleared_more c.args.numbers.now c.loop-k.numbers w.clear_page.new.numbers c.loop-k.k c.loop-k.invariant e.count e.zeros e.before e.after)
  | else-tops-k-gt0 w ↦
      subst (λ (xs : List ℕ). Cleared c.args.numbers.now xs (c.loop-k.k + 1)) (sym w.numbers-is)
      (cleared_skip c.args.numbers.now c.loop-k.numbers c.args.tops.now c.loop-k.k c.requires (omega arith) c.loop-k.invariant)
]

pub clear_page-requires : goal.clear_page-requires
clear_page-requires c =
    let count = c.loop-k.invariant.count in
    omega (arith, page_some c.args.numbers.now c.args.tops.now c.loop-k.k c.requires (omega arith))

pub returns-clause-zeros : goal.returns-clause-zeros
returns-clause-zeros c = λ i. elim (cases_lt i (PAGE * c.loop-k.k)) [
  | inl low ↦ c.loop-k.invariant.zeros i low
  | inr high ↦
      let count = c.loop-k.invariant.count in
      let room = room_of c.args.numbers.now c.args.tops.now c.requires in
      get_or_past c.loop-k.numbers i 0 (omega arith)
]
