-- Worked rows of S25 of functions of the library: names, and arguments that aren't written; and those that needn't be.
use Rattle.std.specs.Prelude.{◌≡◌, ℕ, pos, false, List, [], ◌∷◌, refl, codes}
use Rattle.std.specs.Fmt.{digits}
use Rattle.caseless.proofs.Computing.{caseless}
use Rattle.vba_base.specs.Fold.{folded}
use Rattle.vba_values.specs.declared.types.Compare.TheVariants.{Binary}
use Rattle.vba_values.specs.Types as type
use Rattle.vba_values.specs.Val.{text}
use Rattle.vba_lib.specs.declared.function.LibraryFunction.TheVariants as function
use Rattle.bound_project.specs.Expressions.{Expr, constant, library, not_given, also}
use Rattle.bound_project.specs.Statements.{Action, Statement}
use Rattle.bound_forms.proofs.BoundRows.{bound_to, e, n, show, jumping}
use Rattle.bound_forms.proofs.BrokenRows.{mark, way, alone}

abbrev says : List ℕ → Expr
says x = e type.text (constant (text x))

abbrev first : Action → List Statement
first a = jumping 1 a ∷ []

with_name : bound_to (codes "Sub Main()\nDebug.Print Mid(s:=\"abc\", 1)\nEnd Sub") ≡ first (show (way (mark 25 2 13 (also (says (codes "abc")) (alone (n 1)))))) ∷ []
unfolding bound_to folded caseless digits
with_name = refl

without_first : bound_to (codes "Sub Main()\nDebug.Print Left(, 2)\nEnd Sub") ≡ first (show (way (mark 25 2 13 (also (e type.variant not_given) (alone (n 2)))))) ∷ []
unfolding bound_to folded caseless digits
without_first = refl

without_second : bound_to (codes "Sub Main()\nDebug.Print InStr(1, , \"a\")\nEnd Sub")
    ≡ first (show (way (mark 25 2 13 (also (n 1) (also (e type.variant not_given) (alone (says (codes "a")))))))) ∷ []
unfolding bound_to folded caseless digits
without_second = refl

-- the start of InStr, and the length of Mid, may be left out
without_start : bound_to (codes "Sub Main()\nDebug.Print InStr(, \"a\", \"b\")\nEnd Sub")
    ≡ first (show (e type.variant (library function.InStr false (also (e type.variant not_given) (also (says (codes "a")) (alone (says (codes "b"))))) Binary (pos 0)))) ∷ []
unfolding bound_to folded caseless digits
without_start = refl

without_length : bound_to (codes "Sub Main()\nDebug.Print Mid(\"a\", 1, )\nEnd Sub")
    ≡ first (show (e type.variant (library function.Mid false (also (says (codes "a")) (also (n 1) (alone (e type.variant not_given)))) Binary (pos 0)))) ∷ []
unfolding bound_to folded caseless digits
without_length = refl
