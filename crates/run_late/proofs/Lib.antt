pub mod Flags
pub mod Taken
pub mod Arranged
pub mod Uses
pub mod Bound
pub mod Assigned
pub mod Set
