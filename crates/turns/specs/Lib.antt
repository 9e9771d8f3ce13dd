pub mod Advances
pub mod Layouts
pub mod Nibbles
pub mod Refusals
pub mod Rows
pub mod Shapes
pub mod Tickets
pub mod Words
