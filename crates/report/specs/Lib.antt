pub mod Lines
pub mod Pieces
pub mod Reading
pub mod Reports
pub mod States
