pub mod DeepRows
mod NewArrayRows
