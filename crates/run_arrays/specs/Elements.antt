-- Serves the code: which element of a value has some numbers.
use Rattle.std.specs.Prelude.{List}
use Rattle.vba_values.specs.Val.{Val, array, object}
use Rattle.arrays_udt.specs.Resize.{item_at}
use Rattle.vba_meaning.specs.Memory.{Memory}
use Rattle.vba_meaning.specs.Effects.{Effect, Fine, Bad-at, on_fine}
use Rattle.vba_meaning.specs.Arrays.{indexed_object, offset_at}

-- the element, before the running statement holds it
abbrev pub element_read : Val → List Val → Memory → Effect Val
element_read (array bounds of items) vs m = on_fine (offset_at bounds vs m) (λ k m1. Fine (item_at items k) m1)
element_read (object o) vs m = indexed_object o m
element_read v vs m = Bad-at 450 m
