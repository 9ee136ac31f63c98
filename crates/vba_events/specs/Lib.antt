pub mod Kept
pub mod Links
pub mod Order
pub mod Rising
