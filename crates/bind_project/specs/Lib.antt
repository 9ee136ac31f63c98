pub mod Bound
pub mod Modules
pub mod Procedures
pub mod Homes
