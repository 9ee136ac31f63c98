pub mod TestTypes
