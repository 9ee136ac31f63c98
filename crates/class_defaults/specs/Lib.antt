pub use Rattle.bound_forms
pub use Rattle.bound_declarations
pub mod Known
pub mod Items
