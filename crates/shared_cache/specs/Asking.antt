-- What a call requires of the pass that it takes.
use Rattle.std.specs.Prelude.{◌≡◌, ℕ, ◌≤◌}
use Rattle.atomic_table.specs.Seated.{TableId}
use Rattle.pin_table.specs.Values.{PassView}

-- The pass is one of this table, and has at least this number of events left.
pub record MayAsk (t : TableId) (least : ℕ) (p : PassView) : Type 0 where
  pub table : p.table ≡ t
  pub left : least ≤ p.known.left
