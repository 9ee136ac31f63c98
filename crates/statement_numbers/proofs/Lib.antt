pub mod OneKind
pub mod Steps
pub mod Counted
pub mod Stacks
pub mod Listing
