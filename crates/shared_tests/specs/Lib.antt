pub mod Pinned
pub mod UnheldCaches
