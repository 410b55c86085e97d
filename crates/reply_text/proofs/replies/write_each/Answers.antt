use Rattle.std.proofs.Common.{arith}
use Rattle.std.proofs.lemmas.Grind.{common_steps}
use Rattle.reply_text.proofs.replies.write_each.Goals as goal

pub write_head-requires : goal.write_head-requires
write_head-requires c = grind (arith, common_steps)

pub returns-in_err-write_head : goal.returns-in_err-write_head
returns-in_err-write_head c = grind (arith, common_steps)

pub loop-key-init : goal.loop-key-init
loop-key-init c = grind (arith, common_steps)

pub offset_bounds-keys-key-index : goal.offset_bounds-keys-key-index
offset_bounds-keys-key-index c = grind (arith, common_steps)

pub bounds-keys-key-index : goal.bounds-keys-key-index
bounds-keys-key-index c = grind (arith, common_steps)

pub as_slice-requires : goal.as_slice-requires
as_slice-requires c = grind (arith, common_steps)

pub write_key-requires : goal.write_key-requires
write_key-requires c = grind (arith, common_steps)

pub returns-in_err-write_key : goal.returns-in_err-write_key
returns-in_err-write_key c = grind (arith, common_steps)

pub push-requires : goal.push-requires
push-requires c = grind (arith, common_steps)

pub returns-in_err-push : goal.returns-in_err-push
returns-in_err-push c = grind (arith, common_steps)

pub loop-key-smaller : goal.loop-key-smaller
loop-key-smaller c = grind (arith, common_steps)

pub loop-key-preserved : goal.loop-key-preserved
loop-key-preserved c = grind (arith, common_steps)

pub push-requires-2 : goal.push-requires-2
push-requires-2 c = grind (arith, common_steps)

pub returns : goal.returns
returns c = grind (arith, common_steps)
