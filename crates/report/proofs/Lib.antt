pub mod Unspelling
pub mod Writing
