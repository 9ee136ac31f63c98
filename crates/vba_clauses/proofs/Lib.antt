pub mod Others
pub mod Equals
pub mod Cases
pub mod Places
