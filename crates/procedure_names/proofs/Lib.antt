pub mod Stacks
pub mod Passing
pub mod Usings
pub mod Orders
