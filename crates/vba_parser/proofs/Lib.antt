pub mod Begun
pub mod Chains
pub mod Closing
pub mod Cuts
pub mod Pushed
pub mod Turning
pub mod Related
