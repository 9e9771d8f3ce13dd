pub mod Calls
pub mod Queries
pub mod Refusals
pub mod StepNames
pub mod Steps
pub mod Takes
pub mod Worlds
