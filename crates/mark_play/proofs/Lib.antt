mod FoundRows
mod RowPlaces
mod HeldWorkers
mod OpenWindows
mod HeldRows
mod Windows
mod ReplayEvents
mod LegalMasks
