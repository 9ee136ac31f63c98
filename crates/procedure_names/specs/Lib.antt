pub mod Used
pub mod Using
pub mod Added
pub mod Own
