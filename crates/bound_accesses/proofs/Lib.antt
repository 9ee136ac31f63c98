pub mod Dotted
pub mod Tested
pub mod ItemTerms
pub mod Lacking
pub mod Fielding
