pub mod HalfEvenLaws
pub mod NumberTextLaws
pub mod CutLaws
pub mod ParsedLaws
pub mod CompareLaws
pub mod PrintedLaws
pub mod Rows
