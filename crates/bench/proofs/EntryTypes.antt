-- The Type of the elements doesn't hold itself.
use Rattle.std.proofs.Common.{◌≡◌, ℕ, zero, suc, true, refl, rules}
use Rattle.arrays_udt.specs.Fields.{AreTypes, holds}
use Rattle.bench.specs.Entries.{entry_types}

holds_none : (number next : ℕ) → holds entry_types number next ≡ true → ⊥
holds_none zero next h = search rules
holds_none (suc number) next h = search rules

pub are_entries : AreTypes entry_types
are_entries = record { fields = refl; none_holds_itself = λ number count l. holds_none number l.0 l.1 }
