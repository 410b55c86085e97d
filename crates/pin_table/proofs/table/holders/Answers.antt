use Rattle.std.proofs.Common.{arith}
use Rattle.pin_table.proofs.WindowHolders.{holders_room}
use Rattle.pin_table.proofs.table.holders.Goals as goal
use Rattle.pin_table.proofs.table.holders.Goals.{then-windows-v, else-windows-v}

pub overflow_mul-mask : goal.overflow_mul-mask
overflow_mul-mask c =
    let r = holders_room c.args.windows.now c.loop-v.v c.args.at c.loop-v.mask c.requires c.loop-v-test.true c.loop-v.invariant.mask in
    omega (arith, r)

pub overflow_add-mask : goal.overflow_add-mask
overflow_add-mask c =
    let r = holders_room c.args.windows.now c.loop-v.v c.args.at c.loop-v.mask c.requires c.loop-v-test.true c.loop-v.invariant.mask in
    elim c.if-windows-v.branch [ then-windows-v w ↦ omega (arith, r, w.one-is) | else-windows-v w ↦ omega (arith, r, w.one-is) ]
