pub mod Functions
pub mod Gathering
pub mod Indexing
pub mod Leading
pub mod Untaken
