pub mod Parts
pub mod Fits
pub mod Lines
pub mod RemovedPlaces
pub mod PartWalks
