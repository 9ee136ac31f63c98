-- Serves the code: which element of a value has some numbers.
use Rattle.std.specs.Prelude.{ℕ, ℤ, List, Option, Some, None}
use Rattle.vba_values.specs.Types.{Declared}
use Rattle.vba_values.specs.Types as type
use Rattle.vba_values.specs.Val.{Val, array, object}
use Rattle.vba_values.specs.Coerce.{coerce_of}
use Rattle.vba_meaning.specs.Memory.{Memory}
use Rattle.vba_meaning.specs.Effects.{Effect, Fine, Bad-at, answered, on_fine}
use Rattle.vba_meaning.specs.Arrays.{indexed_object, number_in, numbers, offset_at}

abbrev pub number_of : Val → Memory → Effect ℤ
number_of v m = on_fine (answered (coerce_of v type.long) m) (λ w m1. Fine (number_in w) m1)

-- its offset, and its declared type
abbrev pub element_found : Option Val → List Val → Memory → Effect (ℕ × Declared)
element_found None vs m = on_fine (numbers vs m) (λ zs m1. Bad-at 9 m1)
element_found (Some (array bounds of items)) vs m = on_fine (offset_at bounds vs m) (λ k m1. Fine (k, of) m1)
element_found (Some (object o)) vs m = indexed_object o m
element_found (Some v) vs m = Bad-at 450 m
