-- No user-defined types are types that values can have.
use Rattle.std.proofs.Common.{◌≡◌, ℕ, [], true, refl, rules}
use Rattle.arrays_udt.specs.Fields.{AreTypes, holds}

holds_none : (number next : ℕ) → holds [] number next ≡ true → ⊥
holds_none number next h = search rules

pub no_types : AreTypes []
no_types = record { fields = refl; none_holds_itself = λ number count l. holds_none number l.0 l.1 }
