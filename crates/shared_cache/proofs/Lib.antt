pub mod Windows
pub mod HeldBlocks
pub mod EventEnds
pub mod EventProgress
pub mod ScalarWindows
pub mod WindowlessEvents
pub mod UnderLockLemmas
pub mod Fetches
pub mod CopyEvents
pub mod EventlessCalls
mod FinalWords
pub mod Strings
