pub mod Rows
pub mod Signed
pub mod Startups
pub mod Steps
pub mod ClassParts
pub mod EventParts
