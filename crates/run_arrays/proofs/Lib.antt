pub mod Found
pub mod Kept
pub mod Longs
pub mod Walked
