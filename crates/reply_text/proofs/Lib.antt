pub mod NotedAnswers
pub mod MemberCounts
pub mod ItemTexts
pub mod SeveralKeys
mod Numbers
mod JournalLines
mod LegalJournals
