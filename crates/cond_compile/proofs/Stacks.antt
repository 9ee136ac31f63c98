-- No constants are left.
use Rattle.std.proofs.Common.{◌≡◌, ℕ, List, [], ◌∷◌, length, refl, arith}
use Rattle.vba_values.specs.Val.{empty}
use Rattle.cond_compile.specs.declared.operand.Constant.{Constant}
use Rattle.cond_compile.specs.Evaluation.{typed, value_of_name}
use Rattle.cond_compile.specs.Seen.{constants_view}

pub no_constants : (constants : List Constant) (name : List ℕ) → length constants ≡ 0 → value_of_name (constants_view constants) name ≡ typed empty
no_constants [] name none = refl
no_constants (constant ∷ constants) name none = absurd (omega (arith, none))
