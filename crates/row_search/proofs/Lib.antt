pub mod RegexPatterns
pub mod ChosenRows
