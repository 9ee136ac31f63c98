-- More arguments than any function but Array takes.
use Rattle.std.proofs.Common.{◌≡◌, ◌≤◌, List, [], ◌∷◌, length, map, Err, refl, arith}
use Rattle.vba_values.specs.declared.types.Compare.{Compare}
use Rattle.vba_values.specs.declared.value.Value.{Value}
use Rattle.vba_values.specs.View.{view}
use Rattle.vba_lib.specs.declared.function.LibraryFunction.{LibraryFunction}
use Rattle.vba_lib.specs.Arguments.{wrong_number}
use Rattle.vba_lib.specs.Library.{of_arguments}

pub more_than_four : (function : LibraryFunction) (compare : Compare) (values : List Value) → 5 ≤ length values
    → of_arguments function compare (map view values) ≡ Err wrong_number
more_than_four function compare [] more = absurd (omega arith)
more_than_four function compare (a ∷ []) more = absurd (omega arith)
more_than_four function compare (a ∷ b ∷ []) more = absurd (omega arith)
more_than_four function compare (a ∷ b ∷ c ∷ []) more = absurd (omega arith)
more_than_four function compare (a ∷ b ∷ c ∷ d ∷ []) more = absurd (omega arith)
more_than_four function compare (a ∷ b ∷ c ∷ d ∷ e ∷ values) more = refl
