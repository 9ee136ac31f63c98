pub mod Taken
pub mod Pushes
pub mod Whole
pub mod Named
pub mod NewWords
