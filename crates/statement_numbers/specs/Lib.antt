pub mod Behind
pub mod Counts
pub mod View
pub mod Labels
pub mod Lines
