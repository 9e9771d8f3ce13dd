pub mod Bound
pub mod Facts
pub mod Laws
pub mod Operations
pub mod Runs
