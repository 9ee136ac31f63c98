pub use Rattle.bound_calls
pub mod Kinds
pub mod Late
pub mod Members
pub mod MemberCalls
pub mod Names
pub mod Shapes
