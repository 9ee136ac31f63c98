pub mod Emission
pub mod Parts
