pub use Rattle.constant_values
pub mod Forms
pub mod Kept
pub mod NewWords
pub mod Parameters
pub mod Whole
