pub mod Numbers
pub mod Generating
