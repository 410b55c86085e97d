pub mod FilteredLists
pub mod DeletedRows
pub mod PoolRows
pub mod LiteralSearches
pub mod BracedNames
pub mod KeyCounts
pub mod PoolMaps
pub mod ClearedPools
pub mod PoolIsolation
pub mod CallEvents
pub mod PoolRequests
pub mod ByteKeys
pub mod JournalEvents
mod ExampleHistory
