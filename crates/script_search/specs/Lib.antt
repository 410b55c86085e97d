pub mod ReadPatterns
