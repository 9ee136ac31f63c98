pub mod StaticLaw
