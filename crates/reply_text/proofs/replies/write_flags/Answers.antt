use Rattle.std.proofs.Common.{arith}
use Rattle.std.proofs.lemmas.Grind.{common_steps}
use Rattle.reply_text.proofs.replies.write_flags.Goals as goal

pub write_head-requires : goal.write_head-requires
write_head-requires c = grind (arith, common_steps)

pub returns-in_err-write_head : goal.returns-in_err-write_head
returns-in_err-write_head c = grind (arith, common_steps)

pub loop-note-init : goal.loop-note-init
loop-note-init c = grind (arith, common_steps)

pub offset_bounds-notes-note-index : goal.offset_bounds-notes-note-index
offset_bounds-notes-note-index c = grind (arith, common_steps)

pub bounds-notes-note-index : goal.bounds-notes-note-index
bounds-notes-note-index c = grind (arith, common_steps)

pub as_slice-requires : goal.as_slice-requires
as_slice-requires c = grind (arith, common_steps)

pub write_key-requires : goal.write_key-requires
write_key-requires c = grind (arith, common_steps)

pub returns-in_err-write_key : goal.returns-in_err-write_key
returns-in_err-write_key c = grind (arith, common_steps)

pub push-requires : goal.push-requires
push-requires c = grind (arith, common_steps)

pub returns-in_err-push : goal.returns-in_err-push
returns-in_err-push c = grind (arith, common_steps)

pub loop-note-smaller : goal.loop-note-smaller
loop-note-smaller c = grind (arith, common_steps)

pub loop-note-preserved : goal.loop-note-preserved
loop-note-preserved c = grind (arith, common_steps)

pub push-requires-2 : goal.push-requires-2
push-requires-2 c = grind (arith, common_steps)

pub returns : goal.returns
returns c = grind (arith, common_steps)
