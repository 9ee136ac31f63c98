pub mod Book
pub mod Made
pub mod One
pub mod Saves
