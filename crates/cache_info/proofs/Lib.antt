pub mod GapRuns
mod EntryHeads
mod ListedRows
pub mod InfoAnswers
