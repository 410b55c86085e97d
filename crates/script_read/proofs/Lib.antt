pub mod CursorValues
pub mod ByteTables
pub mod ResultBinds
pub mod GenTexts
pub mod GenSteps
pub mod Forms
pub mod ScriptTexts
pub mod TableRows
pub mod PoolTableRows
pub mod Keywords
pub mod EventBounds
pub mod EventCounts
pub mod FaultPlaces
pub mod LineLoop
pub mod Members
pub mod Slashes
pub mod FieldBits
pub mod FieldNames
pub mod ReadCalls
pub mod ReaderAnswers
mod ArgumentRanges
mod FormRanges
pub mod SpelledRanges
pub mod RefusablePatterns
mod DrawnScripts
mod ComingSteps
