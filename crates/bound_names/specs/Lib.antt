pub use Rattle.project_tables
pub use Rattle.bound_members
pub mod View
pub mod Owned
pub mod Properties
pub mod PropertyView
pub mod Callee
pub mod ClassMembers
