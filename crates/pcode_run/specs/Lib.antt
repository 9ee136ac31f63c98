pub mod Runs
pub mod Moving
pub mod Reaching
pub mod Chains
pub mod Naming
