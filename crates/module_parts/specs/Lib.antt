pub mod View
pub mod Brackets
pub mod Nexts
pub mod Firsts
