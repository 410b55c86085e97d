pub mod BracedNames
pub mod KeyRequests
mod PoolKeys
