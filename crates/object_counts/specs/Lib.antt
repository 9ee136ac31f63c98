pub mod Balance
pub mod Counting
pub mod Counts
pub mod Gains
pub mod UseGains
