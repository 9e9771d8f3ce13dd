pub mod Admissions
pub mod Begins
pub mod Rows
