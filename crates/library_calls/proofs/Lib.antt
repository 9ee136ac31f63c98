pub mod Counts
pub mod FoldedFronts
pub mod JoinLaws
pub mod PartsLaws
