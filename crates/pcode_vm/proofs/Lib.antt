pub mod Takings
pub mod Odd
pub mod Given
pub mod Waiting
pub mod Carried
pub mod Tellings
pub mod Making
pub mod Counted
pub mod Following
pub mod Coming
mod Popped
pub mod Delivering
