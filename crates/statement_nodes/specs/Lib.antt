pub use Rattle.statement_numbers
pub mod Pushed
pub mod Walks
pub mod Nexts
pub mod Loops
pub mod Actions
pub mod Reads
pub mod Resizing
