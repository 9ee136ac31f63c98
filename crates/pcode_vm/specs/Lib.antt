pub mod View
pub mod Operands
pub mod Odd
pub mod Does
pub mod Events
pub mod Made
pub mod Late
