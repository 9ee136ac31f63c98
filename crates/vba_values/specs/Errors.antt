-- The errors that coercion and operators raise, by their numbers.
use Rattle.std.specs.Prelude.{◌≡◌, Result, Ok, Err}
use Rattle.vba_values.specs.declared.fault.Bad.{Bad}
use Rattle.vba_values.specs.declared.fault.Bad.TheVariants.{Raise, Outside}
use Rattle.vba_values.specs.declared.fault.OutKind.TheVariants.{NumberText}

-- Overflow
abbrev pub overflow : Bad
overflow = Raise 6

-- Type mismatch
abbrev pub type_mismatch : Bad
type_mismatch = Raise 13

-- Invalid use of Null
abbrev pub invalid_null : Bad
invalid_null = Raise 94

-- a text written as a number in a way that isn't read: the run stops
abbrev pub number_text : Bad
number_text = Outside NumberText

-- the answer, seen by view, is exactly what is meant
abbrev pub Answers : {X Y : Type 0} → (X → Y) → Result X Bad → Result Y Bad → Type 0
Answers view (Ok x) meant = meant ≡ Ok (view x)
Answers view (Err bad) meant = meant ≡ Err bad
