pub mod Effects
pub mod View
pub mod Questions
