-- The values of number literals.
use Rattle.std.specs.Prelude.{Option, Some, None, Result, Ok, Err}
use Rattle.vba_lexer.specs.declared.number.Number.{Number}
use Rattle.vba_lexer.specs.declared.number.NumberFault.{NumberFault}
use Rattle.vba_lexer.specs.declared.number.NumberKind.{NumberKind}
use Rattle.vba_lexer.specs.declared.number.NumberKind.TheVariants.{Integer, Long, LongLong, Currency}
use Rattle.vba_values.specs.declared.types.WholeKind.TheVariants as kind
use Rattle.vba_values.specs.Coerce.{to_whole}
use Rattle.vba_values.specs.Val.{Val, whole, currency}

-- the value of an answer, where it has one
abbrev pub answered : {X E : Type 0} → Result X E → Option X
answered (Ok x) = Some x
answered (Err e) = None

-- a number as a value of its type
abbrev pub number_value : Number → Option Val
number_value number = of_kind number.kind
  where
    of_kind : NumberKind → Option Val
    of_kind Integer = answered (to_whole kind.Integer (whole kind.LongLong number.value))
    of_kind Long = answered (to_whole kind.Long (whole kind.LongLong number.value))
    of_kind LongLong = Some (whole kind.LongLong number.value)
    of_kind Currency = Some (currency number.value)

-- the value of a number literal; one that breaks a rule of tokens has none
abbrev pub value_of_number : Result Number NumberFault → Option Val
value_of_number (Ok number) = number_value number
value_of_number (Err fault) = None
