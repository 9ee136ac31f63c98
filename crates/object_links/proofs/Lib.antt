pub mod Lists
pub mod Connects
pub mod Found
