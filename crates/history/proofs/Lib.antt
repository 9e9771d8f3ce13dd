pub mod Finding
pub mod Replaying
pub mod Searching
