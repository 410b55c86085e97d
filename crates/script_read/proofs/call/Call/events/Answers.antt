use Rattle.std.proofs.Common.{arith}
use Rattle.std.proofs.lemmas.Grind.{common_steps}
use Rattle.script_read.proofs.call.Call.events.Goals as goal

pub returns-in-StoreMany : goal.returns-in-StoreMany
returns-in-StoreMany c = grind (arith, common_steps)

pub returns-in-Enabled : goal.returns-in-Enabled
returns-in-Enabled c = grind (arith, common_steps)

pub returns-in-FetchMany : goal.returns-in-FetchMany
returns-in-FetchMany c = grind (arith, common_steps)

pub returns-in-StoreOne : goal.returns-in-StoreOne
returns-in-StoreOne c = grind (arith, common_steps)

pub returns-in-StoreOne-2 : goal.returns-in-StoreOne-2
returns-in-StoreOne-2 c = grind (arith, common_steps)

pub returns-in-StoreOne-3 : goal.returns-in-StoreOne-3
returns-in-StoreOne-3 c = grind (arith, common_steps)

pub returns-in-StoreOne-4 : goal.returns-in-StoreOne-4
returns-in-StoreOne-4 c = grind (arith, common_steps)

pub returns-in-StoreOne-5 : goal.returns-in-StoreOne-5
returns-in-StoreOne-5 c = grind (arith, common_steps)

pub returns-in-StoreOne-6 : goal.returns-in-StoreOne-6
returns-in-StoreOne-6 c = grind (arith, common_steps)

pub returns-in-StoreOne-7 : goal.returns-in-StoreOne-7
returns-in-StoreOne-7 c = grind (arith, common_steps)

pub returns-in-StoreOne-8 : goal.returns-in-StoreOne-8
returns-in-StoreOne-8 c = grind (arith, common_steps)

pub returns-in-StoreOne-9 : goal.returns-in-StoreOne-9
returns-in-StoreOne-9 c = grind (arith, common_steps)

pub returns-in-StoreOne-10 : goal.returns-in-StoreOne-10
returns-in-StoreOne-10 c = grind (arith, common_steps)

pub returns-in-StoreOne-11 : goal.returns-in-StoreOne-11
returns-in-StoreOne-11 c = grind (arith, common_steps)

pub returns-in-StoreOne-12 : goal.returns-in-StoreOne-12
returns-in-StoreOne-12 c = grind (arith, common_steps)

pub returns-in-StoreOne-13 : goal.returns-in-StoreOne-13
returns-in-StoreOne-13 c = grind (arith, common_steps)

pub returns-in-Walk-default-default-default-Active : goal.returns-in-Walk-default-default-default-Active
returns-in-Walk-default-default-default-Active c = grind (arith, common_steps)
