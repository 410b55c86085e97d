pub mod Pages
pub mod Halves
pub mod Marks
pub mod Bits
