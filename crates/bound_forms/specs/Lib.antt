pub mod Terms
pub mod ClassDefaults
pub mod Operands
pub mod Members
pub mod ExpressionsBound
pub mod Targets
pub mod StatementsBound
pub mod Bind
