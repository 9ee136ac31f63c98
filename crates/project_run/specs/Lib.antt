pub use Rattle.pcode
pub use Rattle.codegen
pub use Rattle.pcode_vm
pub use Rattle.pcode_run
pub mod Places
pub mod Meant
