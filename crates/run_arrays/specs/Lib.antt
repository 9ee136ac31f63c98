pub mod Elements
pub mod Walks
