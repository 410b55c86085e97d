pub mod Asked
pub mod Header
pub mod Made
pub mod Memory
pub mod Seats
pub mod Standing
pub mod Told
pub mod Shared
