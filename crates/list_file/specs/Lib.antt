pub mod Lines
pub mod Lists
pub mod View
pub mod Seen
pub mod Plans
pub mod Files
pub mod Sources
