pub mod Words
pub mod Fronts
pub mod Arrays
pub mod Starts
pub mod Places
pub mod Prints
pub mod Simples
