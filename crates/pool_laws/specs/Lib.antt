pub mod PoolKeys
pub mod Maps
pub mod Pools
pub mod Calls
pub mod Plays
