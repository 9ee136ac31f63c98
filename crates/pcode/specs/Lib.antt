pub mod Instructions
pub mod Machine
pub mod Code
pub mod Layout
pub mod WellFormed
pub mod Steady
pub mod View
