-- Nothing that a script holds keeps it on its thread.
use denote.Enum.Enum.{Enum}
use denote.Enum.Declared as enums
use denote.Struct.Struct.{Struct}
use denote.Struct.Declared as structs
use denote.Param.Send.{IsSync, sendable, enum_sync, struct_sync}
use Rattle.apcu_model.proofs.generator.Gen.TheLaws.TheKnot
use Rattle.apcu_model.proofs.keys.Keys.TheSendSync as keys
use Rattle.apcu_model.proofs.pairs.Pairs.TheSendSync as pairs
use Rattle.php_graph.proofs.bytes.Bytes.TheSendSync as bytes
use Rattle.php_graph.proofs.graph.Graph.TheSendSync as graph
use Rattle.std.proofs.Crossing
use Rattle.std.proofs.vec.Vec.TheSendSync as vec
use Rattle.script_read.proofs.pool_box.PoolBox.TheSendSync as pool_boxes
use Rattle.script_read.specs.contracts.call.Call as call_type
use Rattle.script_read.specs.contracts.script.Script as script_type
use Rattle.script_read.specs.contracts.script.Step as step_type
use Rattle.script_read.proofs.laws.scripts_cross.Goals as goal

ruleset held = (keys.the_sync, pairs.the_sync, bytes.the_sync, graph.the_sync, vec.the_sync, Crossing.crosses, TheKnot.crosses, sendable)

-- each variant of a call, in their order
calls : IsSync (Enum (enums.shape call_type.the_type))
calls = enum_sync (enums.shape call_type.the_type) (search held depth 30 fits 20000, (search held depth 30 fits 20000, (search held depth 30 fits 20000, (search held depth 30 fits 20000, (search held depth 30 fits 20000, (search held depth 30 fits 20000, (search held depth 30 fits 20000, (search held depth 30 fits 20000, (search held depth 30 fits 20000, (search held depth 30 fits 20000, (search held depth 30 fits 20000, (search held depth 30 fits 20000, (search held depth 30 fits 20000, (search held depth 30 fits 20000, (search held depth 30 fits 20000, (search held depth 30 fits 20000, (search held depth 30 fits 20000, (search held depth 30 fits 20000, (search held depth 30 fits 20000, ((pool_boxes.the_sync, tt), tt))))))))))))))))))))

step : IsSync (Struct (structs.shape step_type.the_type))
step = struct_sync (structs.shape step_type.the_type) (search (calls, sendable) depth 10 fits 20000)

script_crosses : IsSync script_type.the_row
script_crosses = search (step, vec.the_sync, Crossing.crosses, sendable) depth 60 fits 20000

pub returns-clause-script : goal.returns-clause-script
returns-clause-script c = script_crosses

pub returns-clause-scripts : goal.returns-clause-scripts
returns-clause-scripts c = search (script_crosses, vec.the_sync, Crossing.crosses, sendable) depth 30 fits 20000
