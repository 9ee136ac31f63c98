pub mod Lives
pub mod Meant
pub mod Once
pub mod Referred
