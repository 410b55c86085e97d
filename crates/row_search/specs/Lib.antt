pub mod SearchFaults
pub mod Choices
