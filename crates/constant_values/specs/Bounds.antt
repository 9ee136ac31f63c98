-- Serves the code: bounds one after another.
use Rattle.std.specs.Prelude.{List, [], ◌∷◌, ◌++◌, Option, Some, None}
use Rattle.vba_expression.specs.Tree.{Expr}
use Rattle.vba_tree.specs.Tree.{Dim, upper}
use Rattle.vba_values.specs.declared.value.Bound.{Bound}

-- all bounds behind some, where each is one
abbrev pub all_behind : List Bound → List (Option Bound) → Option (List Bound)
all_behind before [] = Some before
all_behind before (None ∷ bounds) = None
all_behind before (Some bound ∷ bounds) = all_behind (before ++ bound ∷ []) bounds

-- the first expression of a bound
abbrev pub first_expression : Dim → Expr
first_expression (upper e) = e
first_expression (Dim.range low to_word high) = low
