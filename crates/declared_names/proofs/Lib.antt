pub mod Bodies
pub mod Choices
pub mod Members
pub mod Numbered
pub mod Pushes
pub mod Steps
pub mod Turned
pub mod Walks
