pub mod Placed
pub mod Meets
