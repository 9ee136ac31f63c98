pub mod Found
pub mod Later
pub mod Placed
pub mod Pushes
mod Rows
