pub mod Stands
pub mod Lays
pub mod OneEnd
pub mod Ways
pub mod Sounds
pub mod Steady
pub mod LateCode
