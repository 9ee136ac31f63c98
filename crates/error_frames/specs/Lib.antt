pub mod Calls
pub mod Decision
pub mod Resume
