pub mod Figures
pub mod Growing
pub mod Placing
