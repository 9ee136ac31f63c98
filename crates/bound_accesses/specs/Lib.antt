pub use Rattle.bound_names
pub mod Qualified
pub mod Fields
pub mod Items
