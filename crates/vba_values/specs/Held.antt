-- What a variable of a declared type holds.
use Rattle.std.specs.Prelude.{◌==◌, Bool, true, false, length}
use Rattle.vba_values.specs.declared.types.WholeKind.TheVariants as kind
use Rattle.vba_values.specs.Coerce.{is_same_type}
use Rattle.vba_values.specs.Types.{Declared}
use Rattle.vba_values.specs.Types as type
use Rattle.vba_values.specs.Val.{Val, boolean, whole, currency, text, object, array, udt}
use Rattle.vba_values.specs.Whole.{fits}

-- whether a variable of a declared type can hold a value: a number of its kind and in its range, a text of its length, an array
-- with elements of the same type; which objects it can hold is the test of Set
abbrev pub can_hold : Declared → Val → Bool
can_hold type.boolean (boolean b) = true
can_hold type.byte (whole kind.Byte z) = fits kind.Byte z
can_hold type.integer (whole kind.Integer z) = fits kind.Integer z
can_hold type.long (whole kind.Long z) = fits kind.Long z
can_hold type.long_long (whole kind.LongLong z) = fits kind.LongLong z
can_hold type.currency (currency count) = true
can_hold type.text (text units) = true
can_hold (type.fixed_text size) (text units) = length units == size
can_hold type.object (object reference) = true
can_hold (type.class number) (object reference) = true
can_hold type.collection (object reference) = true
can_hold type.worksheet (object reference) = true
can_hold type.range (object reference) = true
can_hold type.variant value = true
can_hold (type.udt wanted) (udt place fields) = place == wanted
can_hold (type.array_of wanted) (array bounds element items) = is_same_type element wanted
can_hold declared value = false

-- whether a value has other values as its parts
abbrev pub has_parts : Val → Bool
has_parts (array bounds element items) = true
has_parts (udt place fields) = true
has_parts value = false
