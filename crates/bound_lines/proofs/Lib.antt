pub mod Placing
pub mod Rounds
