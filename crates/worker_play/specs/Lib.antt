pub mod Turns
pub mod Goes
pub mod Ends
pub mod Groups
pub mod Looks
pub mod Pools
