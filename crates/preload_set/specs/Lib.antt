pub mod Bundle
pub mod Reading
pub mod Gives
pub mod Ties
pub mod Loader
