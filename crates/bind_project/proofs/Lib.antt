pub mod ByModule
pub mod Rows
pub mod WholeProject
