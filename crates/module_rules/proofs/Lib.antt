pub mod Noted
pub mod OneKind
pub mod Stacks
pub mod Listing
pub mod ExitsFound
pub mod Members
pub mod Faults
pub mod Walking
