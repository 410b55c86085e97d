mod SlotRows
mod RowBounds
mod ChunkEnds
mod RowFolds
mod ChunkItems
mod RowTotals
mod DroppedRows
mod ReadOnlyCalls
