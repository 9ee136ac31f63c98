mod FirstBroken
pub mod Reading
mod RuleRows
