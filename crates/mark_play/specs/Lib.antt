pub mod Asks
pub mod Windows
pub mod Events
pub mod Laws
pub mod HeldPlaces
pub mod Legal
pub mod ReplayStages
pub mod EventStarts
