use Rattle.std.proofs.Common.{arith}
use Rattle.std.proofs.lemmas.Grind.{common_steps}
use Rattle.reply_text.proofs.fields.write_field.Goals as goal

pub is_chosen-requires : goal.is_chosen-requires
is_chosen-requires c = grind (arith, common_steps)

pub returns-then-not-is_chosen-clause-text : goal.returns-then-not-is_chosen-clause-text
returns-then-not-is_chosen-clause-text c = grind (arith, common_steps)

pub returns-then-not-is_chosen-clause-next : goal.returns-then-not-is_chosen-clause-next
returns-then-not-is_chosen-clause-next c = grind (arith, common_steps)

pub returns-then-not-is_chosen-clause-few : goal.returns-then-not-is_chosen-clause-few
returns-then-not-is_chosen-clause-few c = grind (arith, common_steps)

pub write_key-requires : goal.write_key-requires
write_key-requires c = grind (arith, common_steps)

pub returns-in_err-write_key-clause-text : goal.returns-in_err-write_key-clause-text
returns-in_err-write_key-clause-text c = grind (arith, common_steps)

pub returns-in_err-write_key-clause-next : goal.returns-in_err-write_key-clause-next
returns-in_err-write_key-clause-next c = grind (arith, common_steps)

pub returns-in_err-write_key-clause-few : goal.returns-in_err-write_key-clause-few
returns-in_err-write_key-clause-few c = grind (arith, common_steps)

pub write_held-requires : goal.write_held-requires
write_held-requires c = grind (arith, common_steps)

pub returns-in_err-write_held-clause-text : goal.returns-in_err-write_held-clause-text
returns-in_err-write_held-clause-text c = grind (arith, common_steps)

pub returns-in_err-write_held-clause-next : goal.returns-in_err-write_held-clause-next
returns-in_err-write_held-clause-next c = grind (arith, common_steps)

pub returns-in_err-write_held-clause-few : goal.returns-in_err-write_held-clause-few
returns-in_err-write_held-clause-few c = grind (arith, common_steps)

pub from-requires : goal.from-requires
from-requires c = grind (arith, common_steps)

pub overflow_add-result : goal.overflow_add-result
overflow_add-result c = grind (arith, common_steps)

pub returns-clause-text : goal.returns-clause-text
returns-clause-text c = grind (arith, common_steps)

pub returns-clause-next : goal.returns-clause-next
returns-clause-next c = grind (arith, common_steps)

pub returns-clause-few : goal.returns-clause-few
returns-clause-few c = grind (arith, common_steps)
