use Rattle.std.proofs.Common.{sym, ◌∙◌, arith}
use Rattle.std.proofs.lemmas.Bool.{eq-eqb, ne_eqb}
use Rattle.preload_set.proofs.RecordParts.{due_read, due_ends, due_refused}
use Rattle.preload_set.proofs.records.separator.Goals.{in-None, in-Some-2}
use Rattle.preload_set.proofs.records.separator.Goals as goal

pub returns-in-Some-clause-read : goal.returns-in-Some-clause-read
returns-in-Some-clause-read c =
    due_read c.args.due c.in-Some.byte c.args.from.now c.skip.new.self (sym c.peek.ensures ∙ c.in-Some.is) (eq-eqb c.in-Some.byte c.args.due c.if-byte-due.true) c.skip.ensures

pub returns-clause-read : goal.returns-clause-read
returns-clause-read c =
    let place = c.place.ensures in
    elim c.match-peek.branch [
      | in-None w ↦ due_ends c.args.due c.args.from.now c.place.result c.match-peek.reason (sym c.peek.ensures ∙ w.in-None.is) w.reason-is place.place (omega (arith, place.place, place.within))
      | in-Some-2 w ↦ due_refused c.args.due w.in-Some.byte c.args.from.now c.place.result c.match-peek.reason (sym c.peek.ensures ∙ w.in-Some.is) (ne_eqb w.in-Some.byte c.args.due w.if-byte-due.false) w.reason-is place.place (omega (arith, place.place, place.within))
    ]
