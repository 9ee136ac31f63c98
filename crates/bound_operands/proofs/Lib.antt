pub mod NamedMembers
pub mod Elements
pub mod ElementEnds
pub mod LedItems
pub mod Library
pub mod ParamArrays
pub mod Untaking
