pub mod Pushes
pub mod Queues
