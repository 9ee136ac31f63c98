pub mod Tree
pub mod View
pub mod Spelling
pub mod Forms
pub mod Fitting
pub mod Items
