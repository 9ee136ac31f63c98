pub mod Blocks
pub mod Leads
