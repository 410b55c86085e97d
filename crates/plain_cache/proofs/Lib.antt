mod RowsBySlot
mod Gaps
mod PlacedRows
