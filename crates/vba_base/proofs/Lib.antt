pub mod Causes
pub mod Entries
pub mod Folds
mod Rows
pub mod Sources
