pub mod Kept
pub mod Round
