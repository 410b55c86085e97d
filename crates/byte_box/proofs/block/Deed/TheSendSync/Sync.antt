use denote.RattleType.{RattleType}
use denote.Param.Send.{IsSync}
use Rattle.std.specs.declared.alloc.Allocator.{Ghosts}
use Rattle.byte_box.proofs.DeedSendSync.{Deed-sync}
use Rattle.byte_box.specs.contracts.block.Deed.{the_row}

pub sync : (T A : RattleType) (g : Ghosts A.Denot) → IsSync T → IsSync (the_row T A g)
sync = Deed-sync
