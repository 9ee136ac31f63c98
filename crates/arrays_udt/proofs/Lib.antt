pub mod Both
pub mod Inner
pub mod Places
pub mod Nested
pub mod Resized
pub mod PathLaws
pub mod FreshLaws
pub mod WellFormedLaws
mod Rows
