pub mod DeclaredHere
pub mod Gathered
pub mod Inside
pub mod Judged
pub mod Later
pub mod LeftOut
pub mod RowsTold
pub mod TypesHeld
