pub mod Front
pub mod Clauses
pub mod Blocks
pub mod Places
pub mod Statements
pub mod Lists
pub mod Lines
pub mod Laws
