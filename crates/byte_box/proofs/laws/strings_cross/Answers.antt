use Rattle.byte_box.proofs.string.ByteBox.TheSendSync.{the_send, the_sync}
use Rattle.byte_box.proofs.laws.strings_cross.Goals as goal

pub returns-clause-send : goal.returns-clause-send
returns-clause-send c = the_send

pub returns-clause-sync : goal.returns-clause-sync
returns-clause-sync c = the_sync
