mod Rows
pub mod Nearest
pub mod Bracketed
pub mod Bracketing
pub mod OneBracketing
