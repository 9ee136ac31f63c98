pub mod View
pub mod Tells
pub mod Members
pub mod ByName
