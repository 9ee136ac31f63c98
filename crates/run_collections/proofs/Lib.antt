pub mod Keys
pub mod Added
pub mod Placed
pub mod Changed
pub mod Many
pub mod Seen
