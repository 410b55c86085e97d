pub mod Verdicts
pub mod OutputLines
pub mod TextPieces
pub mod Seats
pub mod Marks
pub mod Games
pub mod JudgedOutputs
