pub mod Inputs
pub mod Message
pub mod Tasks
pub mod Run
pub mod Causes
pub mod Printing
pub mod Ended
