pub mod Moves
pub mod Players
pub mod Plays
pub mod Runs
pub mod Schedules
