pub mod EntryTypes
