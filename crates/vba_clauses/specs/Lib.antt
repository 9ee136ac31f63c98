pub mod Meets
pub mod Seen
pub mod Places
