pub mod Given
pub mod Making
pub mod Passing
pub mod Going
pub mod Fields
pub mod Items
