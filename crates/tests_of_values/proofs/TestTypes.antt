-- The Types of the tests, a Point and a Line that holds one, are types that values can have; so are none.
use Rattle.std.proofs.Common.{◌≡◌, ℕ, zero, suc, ◌<◌, nat_eq, true, false, ◌||◌, [], refl, arith, rules}
use Rattle.std.proofs.lemmas.Bool.Decides.{nat_tests}
use Rattle.arrays_udt.specs.Fields.{AreTypes, Leads, holds}
use Rattle.tests_of_values.specs.Lines.{line_types}

zero_only : (n : ℕ) → nat_eq n 0 || (false || (false || false)) ≡ true → n ≡ 0
zero_only n h = grind (arith, nat_tests)

holds_less : (number next : ℕ) → holds line_types number next ≡ true → next < number
holds_less zero next h = absurd (search rules)
holds_less (suc zero) next h = let e = zero_only next h in omega arith
holds_less (suc (suc number)) next h = absurd (search rules)

leads_less : (number other count : ℕ) → Leads line_types (suc count) number other → other < number
leads_less number other zero l = let h = holds_less number l.0 l.1 in let e : l.0 ≡ other = l.2 in omega arith
leads_less number other (suc count) l = let h = holds_less number l.0 l.1 in let k = leads_less l.0 other count l.2 in omega arith

pub are_types : AreTypes line_types
are_types = record { fields = refl; none_holds_itself = λ number count l. let h = leads_less number number count l in omega arith }

holds_none : (number next : ℕ) → holds [] number next ≡ true → ⊥
holds_none number next h = search rules

-- no Types at all
pub no_types : AreTypes []
no_types = record { fields = refl; none_holds_itself = λ number count l. holds_none number l.0 l.1 }
