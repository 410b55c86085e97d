use Rattle.std.proofs.Common.{◌≡◌, ◌-◌, suc, length, ap, arith}
use Rattle.std.specs.Prelude.{is_ok}
use Rattle.script_read.specs.GrowingScripts.{last_len}
use Rattle.script_read.proofs.LineLoop.{last_is, added}
use Rattle.script_read.proofs.script.Scripts.add.Goals as goal

pub push-requires-clause-few : goal.push-requires-clause-few
push-requires-clause-few c =
    let items = c.self.inside.scripts.items in
    let len : suc (c.len-last.result - 1) ≡ length items = omega (arith, c.requires.some, ap length c.self.view_is, c.len-last.ensures) in
    omega (arith, ap length c.index_mut.ensures.value, last_is items (c.len-last.result - 1) c.index_mut.result.now len, ap last_len c.self.view_is, c.requires.few)

pub returns : goal.returns
returns c =
    let items = c.self.inside.scripts.items in
    let len : suc (c.len-last.result - 1) ≡ length items = omega (arith, c.requires.some, ap length c.self.view_is, c.len-last.ensures) in
    added items c.args.self.now (c.len-last.result - 1) c.index_mut.result.now c.push.new.self c.args.step (is_ok c.push.result) c.self.view_is len c.index_mut.ensures.value c.push.ensures
