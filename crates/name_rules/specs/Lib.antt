pub mod Naming
pub mod Held
pub mod Judged
pub mod Rows
