use Rattle.std.proofs.Common.{◌++◌, false, true, ◌∙◌}
use Rattle.std.specs.Fmt.{decimal}
use Rattle.apcu_play.specs.Message.{reason_text}
use Rattle.apcu_play.proofs.PartialWrites.{first_failed, then_written, written_as}
use Rattle.apcu_play.proofs.messages.tell_place.Goals as goal

pub returns-then-not-write_text : goal.returns-then-not-write_text
returns-then-not-write_text g c = first_failed (c.args.begins.now) (decimal c.args.place ++ reason_text c.args.reason) _ _ _ _ c.if-not-write_text.ensures

pub returns-then-not-write_text-2 : goal.returns-then-not-write_text-2
returns-then-not-write_text-2 g c =
    then_written (c.args.begins.now) (decimal c.args.place ++ reason_text c.args.reason) _ _ _ _ _ _ c.if-not-write_text.ensures
    (first_failed (decimal c.args.place) (reason_text c.args.reason) _ _ _ _ (written_as false c.as_bytes.result.now (decimal c.args.place) _ _ _ _ (c.as_bytes.ensures.value ∙ c.format.ensures.text) c.if-not-write_text-2.ensures))

pub returns : goal.returns
returns g c =
    then_written (c.args.begins.now) (decimal c.args.place ++ reason_text c.args.reason) _ _ _ _ _ _ c.if-not-write_text.ensures
    (then_written (decimal c.args.place) (reason_text c.args.reason) _ _ _ _ _ _ (written_as true c.as_bytes.result.now (decimal c.args.place) _ _ _ _ (c.as_bytes.ensures.value ∙ c.format.ensures.text) c.if-not-write_text-2.ensures)
    (record { all = c.write_text-all.result; written = written_as c.write_text-all.result c.ending_of.result.now (reason_text c.args.reason) _ _ _ _ c.ending_of.ensures c.write_text-all.ensures }))
