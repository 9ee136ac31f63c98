pub mod LeastFound
pub mod Types
pub mod Pieces
pub mod Nodes
pub mod Statements
pub mod Steps
mod Rows
