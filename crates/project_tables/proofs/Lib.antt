pub mod Steps
pub mod Counts
pub mod Places
pub mod Found
pub mod Shared
pub mod Events
