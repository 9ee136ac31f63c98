pub mod Noted
pub mod TypesKept
pub mod NamesKept
pub mod AskedRules
pub mod SaidFound
pub mod SaidMore
pub mod Standing
