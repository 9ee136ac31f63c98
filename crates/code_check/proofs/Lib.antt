pub mod Tests
pub mod Takings
pub mod Entries
pub mod Instrs
pub mod Ways
pub mod Parameters
