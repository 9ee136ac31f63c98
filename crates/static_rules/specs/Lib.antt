pub mod Broken
pub mod Scan
