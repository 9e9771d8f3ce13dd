pub mod Examples
pub mod Scripts
