pub mod Command
pub mod Limits
pub mod Numbers
pub mod Options
pub mod Tasks
