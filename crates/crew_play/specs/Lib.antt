pub mod Crew
pub mod PlayedScripts
pub mod GeneratedRuns
