pub mod Lists
pub mod Dropping
pub mod ProbedRows
pub mod DecidedRows
pub mod DropRules
pub mod Room
pub mod Laws
pub mod Steps
