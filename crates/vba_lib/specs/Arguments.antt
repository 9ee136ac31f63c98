-- What the functions of the library take, and what they answer.
use Rattle.std.specs.Prelude.{ℕ, nat_lt, ℤ, pos, List, length, Result, Ok, Err, if◌then◌else◌}
use Rattle.vba_base.specs.Answer.{◌>>=◌}
use Rattle.vba_values.specs.declared.fault.Bad.{Bad}
use Rattle.vba_values.specs.declared.fault.Bad.TheVariants.{Raise, Outside}
use Rattle.vba_values.specs.declared.fault.OutKind.TheVariants.{TextLength}
use Rattle.vba_values.specs.declared.types.WholeKind.TheVariants as kind
use Rattle.vba_values.specs.Coerce.{to_whole}
use Rattle.vba_values.specs.Operands.{number_of}
use Rattle.vba_values.specs.Val.{Val, text}
use Rattle.vba_values.specs.Whole.{ranged}

-- Invalid procedure call or argument
abbrev pub invalid_call : Bad
invalid_call = Raise 5

-- Wrong number of arguments
abbrev pub wrong_number : Bad
wrong_number = Raise 450

-- a text that a function gives has at most 16777216 units
abbrev pub text_too_long : Bad
text_too_long = Outside TextLength

abbrev pub text_answer : List ℕ → Result Val Bad
text_answer units = if nat_lt 16777216 (length units) then Err text_too_long else Ok (text units)

-- a number of units or a place, as a Long
abbrev pub long_answer : ℕ → Result Val Bad
long_answer number = ranged kind.Long (pos number)

-- an argument that is coerced to Long, as its number
abbrev pub long_of : Val → Result ℤ Bad
long_of value = to_whole kind.Long value >>= λ long. Ok (number_of long)
