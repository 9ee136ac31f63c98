pub use Rattle.declared_names
pub mod Bounds
pub mod Names
pub mod Rounds
pub mod Slots
pub mod Stack
pub mod Tables
pub mod View
