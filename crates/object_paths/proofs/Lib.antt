pub mod Kept
pub mod Lead
