-- The plain value that a Value stands for.
use Rattle.std.specs.Prelude.{List, map, pos}
use Rattle.vba_values.specs.declared.value.Value.{Value, fold-Value, Value-F}
use Rattle.vba_values.specs.declared.value.ArrayValue.{ArrayValue, fold-ArrayValue, ArrayValue-F}
use Rattle.vba_values.specs.declared.value.UdtValue.{UdtValue, fold-UdtValue, UdtValue-F}
use Rattle.vba_values.specs.declared.types.WholeKind.TheVariants as kind
use Rattle.vba_values.specs.Types.{declared}
use Rattle.vba_values.specs.Val.{Val, empty, null, missing, boolean, whole, currency, text, object, array, udt, Vals, vals_of}

-- one level, with each value inside already seen as its plain value
abbrev pub value_step : Value-F Val Val Val → Val
value_step Value-F.Empty = empty
value_step Value-F.Null = null
value_step Value-F.Missing = missing
value_step (Value-F.Boolean b) = boolean b
value_step (Value-F.Byte n) = whole kind.Byte (pos n)
value_step (Value-F.Integer n) = whole kind.Integer n
value_step (Value-F.Long n) = whole kind.Long n
value_step (Value-F.LongLong n) = whole kind.LongLong n
value_step (Value-F.Currency count) = currency count
value_step (Value-F.Text units) = text units
value_step (Value-F.Object reference) = object reference
value_step (Value-F.Array a) = a.value
value_step (Value-F.Udt u) = u.value

abbrev pub array_step : ArrayValue-F Val Val Val → Val
array_step a = array a.bounds.items (declared a.element) (vals_of a.items.items)

abbrev pub udt_step : UdtValue-F Val Val Val → Val
udt_step u = udt u.udt (vals_of u.fields.items)

-- what a Value stands for
abbrev pub view : Value → Val
view = fold-Value Val Val Val value_step array_step udt_step

abbrev pub array_view : ArrayValue → Val
array_view = fold-ArrayValue Val Val Val value_step array_step udt_step

abbrev pub udt_view : UdtValue → Val
udt_view = fold-UdtValue Val Val Val value_step array_step udt_step

-- what Values in order stand for
abbrev pub views : List Value → Vals
views values = vals_of (map view values)
