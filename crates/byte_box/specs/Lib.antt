pub mod Forms
pub mod ByteStrings
