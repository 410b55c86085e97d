pub mod Replies
pub mod Notes
pub mod Items
pub mod Fields
pub mod PoolReplies
pub mod Lines
pub mod Output
pub mod InRange
