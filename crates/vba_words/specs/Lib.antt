pub mod Keywords
pub mod Marks
pub mod Readings
pub mod Spelling
pub mod Words
