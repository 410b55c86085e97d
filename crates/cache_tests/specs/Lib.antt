pub mod TwoHolders
