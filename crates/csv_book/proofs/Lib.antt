pub mod Added
pub mod Again
pub mod Characters
pub mod Faults
pub mod Lines
pub mod Records
pub mod RowBytes
pub mod RowRead
mod Rows
pub mod Saved
pub mod Steps
pub mod Texts
