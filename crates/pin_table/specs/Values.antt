-- What contracts see of a writer's seat, of a pass, and of a pass that copies.
use Rattle.atomic_table.specs.Seated.{TableId}
use Rattle.pin_table.specs.declared.views.Known.{Known}
use Rattle.pin_table.specs.declared.views.Reader.{Reader}
use Rattle.pin_table.specs.declared.views.WriterState.{WriterState}

pub record WriterView : Type 0 where
  pub table : TableId
  pub state : WriterState

pub record PassView : Type 0 where
  pub table : TableId
  pub known : Known

pub record CopyView : Type 0 where
  pub table : TableId
  pub copy : Reader
