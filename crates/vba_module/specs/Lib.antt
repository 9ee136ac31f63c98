pub mod Parts
pub mod Outside
pub mod Blocks
pub mod Tree
pub mod Misplaced
pub mod Headers
pub mod Verdict
