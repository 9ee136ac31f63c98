pub mod HalfEven
pub mod NumberText
pub mod Range
pub mod View
pub mod Cut
pub mod Parsed
pub mod Printed
