pub use Rattle.bound_accesses
pub use Rattle.bound_operands
pub mod Indexing
