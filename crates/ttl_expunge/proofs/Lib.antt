pub mod Rows
pub mod ReadOnlyCalls
pub mod SweptRows
pub mod DroppedRows
pub mod EventSteps
pub mod SlotDrops
pub mod SlotOrder
pub mod ExpiredRows
pub mod OpenWindows
pub mod RoomLemmas
pub mod SlotMoves
mod UnexpiredChains
mod ExpiredChains
mod RemovedPlaces
mod DropsByPlace
