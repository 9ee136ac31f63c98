mod Rows
pub mod Reducing
pub mod Complete
pub mod Sound
pub mod Inverses
pub mod Nodes
pub mod Ending
pub mod Steps
pub mod Spelled
