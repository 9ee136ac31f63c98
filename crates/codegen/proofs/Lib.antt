pub mod Pieces
pub mod Late
pub mod Nodes
pub mod Statements
pub mod Loops
pub mod Compiled
