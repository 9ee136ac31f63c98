pub mod Reading
pub mod FilesRead
pub mod ModulesRead
pub mod Rows
