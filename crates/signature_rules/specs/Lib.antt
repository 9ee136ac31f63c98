pub mod Signatures
pub mod View
