pub mod Besides
pub mod IntegerLookUps
pub mod Levels
