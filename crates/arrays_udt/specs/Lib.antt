pub mod Errors
pub mod Shapes
pub mod Fields
pub mod Nesting
pub mod Fresh
pub mod Resize
pub mod Paths
pub mod WellFormed
