use Rattle.std.proofs.Common.{◌-◌, List, length, sym, subst}
use Rattle.std.specs.Prelude.{reverse}
use Rattle.std.proofs.lemmas.Result.{err_from_is_err_and}
use Rattle.php_graph.specs.declared.child.Child.TheVariants.{Own}
use Rattle.php_graph.specs.Graph.{levels}
use Rattle.notation.specs.Notation.{text_from}
use Rattle.notation.specs.Writing.{pending, EndsSomewhere}
use Rattle.notation.specs.declared.writing.Frame.{Frame}
use Rattle.notation.proofs.WriterTexts.{first_ends, longer_extends, extends_then}
use Rattle.notation.proofs.writing.put_graph.Goals as goal

pub put_child-requires-clause-ends : goal.put_child-requires-clause-ends
put_child-requires-clause-ends c =
    subst (λ (frames : List Frame). EndsSomewhere (levels - length frames) c.args.g.now (Own 1)) (sym c.new-frames.ensures.items) (first_ends c.args.g.now c.places-places.ensures.graph)

pub returns-in_err-step-clause-err : goal.returns-in_err-step-clause-err
returns-in_err-step-clause-err c =
    let p = err_from_is_err_and c.from_residual-in_err-step.result c.from_residual-in_err-step.ensures.1 in
    let mid = c.writing.out in
    let kept = longer_extends c.args.out.now mid (pending c.args.base c.args.g.now (reverse c.writing.frames.items)) (text_from c.args.base c.args.g.now) c.writing.invariant.written c.writing.invariant.longer in
    rw p.1 (extends_then c.args.out.now mid c.step.new.out kept c.in_err-step.ensures.err)
