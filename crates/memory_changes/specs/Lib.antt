pub mod Among
pub mod Changes
pub mod Reached
