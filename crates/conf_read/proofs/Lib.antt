pub mod Digits
pub mod CommandParse
pub mod Shapes
