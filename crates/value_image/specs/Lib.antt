pub mod PackedBytes
pub mod Rows
pub mod Places
pub mod Image
pub mod Reading
pub mod Laws
pub mod Texts
pub mod Contained
