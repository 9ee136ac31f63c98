pub mod Faults
pub mod Reading
pub mod Row
pub mod SavedText
pub mod Scan
pub mod Writing
