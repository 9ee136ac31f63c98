pub mod Pushed
pub mod Seeing
pub mod Grown
pub mod Taken
