pub mod Changes
pub mod Entries
pub mod Keys
pub mod Order
pub mod Puts
pub mod Rising
pub mod Rows
pub mod Sought
