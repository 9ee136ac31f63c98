pub mod Found
pub mod Stacks
pub mod TypesFound
pub mod Asked
pub mod NamesFound
pub mod View
pub mod Walked
