pub mod Indexed
pub mod Stored
pub mod Blocks
pub mod Looks
pub mod Leaving
pub mod Chains
pub mod Variables
pub mod Loops
pub mod Items
pub mod Hosts
pub mod Uses
pub mod LateUses
pub mod Moves
pub mod Steps
pub mod Whole
mod Rows
