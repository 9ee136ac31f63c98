pub mod Beginnings
pub mod LackingItems
pub mod IndexedProperties
pub mod Refused
pub mod TypesAsked
