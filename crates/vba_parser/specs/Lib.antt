pub mod Begun
pub mod Headers
pub mod Parsed
pub mod Seen
pub mod Turns
pub mod Values
