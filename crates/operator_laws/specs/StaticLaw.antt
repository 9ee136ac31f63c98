-- What an operator's static type promises of its results.
use Rattle.std.specs.Prelude.{Bool, true, false, Result, Ok, Err}
use Rattle.vba_values.specs.declared.fault.Bad.{Bad}
use Rattle.vba_values.specs.declared.fault.Bad.TheVariants.{Raise, Outside}
use Rattle.vba_values.specs.declared.fault.OutKind.TheVariants as kinds
use Rattle.vba_values.specs.declared.types.WholeKind.TheVariants as kind
use Rattle.vba_values.specs.Types.{Declared}
use Rattle.vba_values.specs.Types as type
use Rattle.vba_values.specs.Val.{Val, boolean, whole, currency, text, object, array, udt}

-- a value that a variable of a declared type can have; one of type Variant can have each
abbrev pub is_of : Declared → Val → Bool
is_of type.variant value = true
is_of type.boolean (boolean b) = true
is_of type.byte (whole kind.Byte z) = true
is_of type.integer (whole kind.Integer z) = true
is_of type.long (whole kind.Long z) = true
is_of type.long_long (whole kind.LongLong z) = true
is_of type.currency (currency count) = true
is_of type.text (text units) = true
is_of (type.fixed_text size) (text units) = true
is_of type.object (object reference) = true
is_of (type.class number) (object reference) = true
is_of type.collection (object reference) = true
is_of type.worksheet (object reference) = true
is_of type.range (object reference) = true
is_of (type.udt place) (udt value_place fields) = true
is_of (type.array_of declared) (array bounds element items) = true
is_of declared value = false

-- a result that a static type allows: a value of it, or an error, but never that the result would be a Double
abbrev pub is_answer : Declared → Result Val Bad → Bool
is_answer declared (Ok value) = is_of declared value
is_answer declared (Err (Raise number)) = true
is_answer declared (Err (Outside kinds.DoubleResult)) = false
is_answer declared (Err (Outside other)) = true
