use Rattle.std.proofs.Common.{inl, subst}
use Rattle.std.proofs.lemmas.Result.{err_from_is_err_and}
use Rattle.php_graph.specs.declared.container.Seen.{Seen}
use Rattle.php_graph.specs.Graph.{keys_of}
use Rattle.php_graph.specs.Keys.{SeesKeys}
use Rattle.php_graph.proofs.KeyLemmas.{new_mark, was_new}
use Rattle.php_graph.proofs.container.see.Goals as goal

pub returns-then-branch-clause-ok : goal.returns-then-branch-clause-ok
returns-then-branch-clause-ok c =
    c.in_ok-insert_mark-in-Marks.ensures.ok (keys_of c.args.kind.now) c.args.key.now c.requires.mark
    (subst (λ (seen : Seen). SeesKeys seen (keys_of c.args.kind.now)) c.in-Marks.is c.requires.sees)

pub returns-else-branch-clause-answer : goal.returns-else-branch-clause-answer
returns-else-branch-clause-answer c = c.see_marked.ensures.answer

pub returns-in_err-insert_mark-in-Marks-clause-answer : goal.returns-in_err-insert_mark-in-Marks-clause-answer
returns-in_err-insert_mark-in-Marks-clause-answer c =
    let p = err_from_is_err_and c.from_residual.result c.from_residual.ensures.1 in
    rw p.1 (inl (
      p.2,
      new_mark (keys_of c.args.kind.now) c.args.key.now _ _ c.requires.mark
          (subst (λ (seen : Seen). SeesKeys seen (keys_of c.args.kind.now)) c.in-Marks.is c.requires.sees)
          c.in_err-insert_mark-in-Marks.ensures.absent,
    ))

pub returns-then-branch-clause-answer : goal.returns-then-branch-clause-answer
returns-then-branch-clause-answer c =
    new_mark (keys_of c.args.kind.now) c.args.key.now _ _ c.requires.mark
    (subst (λ (seen : Seen). SeesKeys seen (keys_of c.args.kind.now)) c.in-Marks.is c.requires.sees)
    (was_new _ _ c.in_ok-insert_mark-in-Marks.ensures.new c.if-branch.true)
