mod Rows
pub mod Digits
pub mod Found
