pub mod NewObjects
pub mod Objects
pub mod Making
