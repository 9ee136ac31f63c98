pub mod Moves
pub mod Taken
pub mod Runs
pub mod Levels
pub mod Whole
