-- Worked rows: what breaks a static rule is marked where it is bound; and what just doesn't.
use Rattle.std.specs.Prelude.{◌≡◌, ℕ, true, [], ◌∷◌, None, refl, codes}
use Rattle.std.specs.Fmt.{digits}
use Rattle.caseless.proofs.Computing.{caseless}
use Rattle.vba_base.specs.Fold.{folded}
use Rattle.vba_values.specs.declared.types.OpKind.TheVariants as op
use Rattle.vba_values.specs.declared.types.Compare.TheVariants.{Binary}
use Rattle.vba_values.specs.Types.{Declared}
use Rattle.vba_values.specs.Types as type
use Rattle.vba_values.specs.declared.object.ObjRef.TheVariants.{Nothing}
use Rattle.vba_values.specs.Val.{object, text}
use Rattle.bound_project.specs.Expressions.{Variable, Expr, constant, binary, call, default_of, variable, no_args, by_place, by_copy, in_order, Exprs, no_exprs, also, marked}
use Rattle.bound_project.specs.Statements.{evaluate, for_to, next, for_each, next_each, set}
use Rattle.bound_project.specs.Project.{nowhere}
use Rattle.bound_forms.proofs.BoundRows.{bound_to, e, n, at, v, show, jumping}

-- a mark of the first module
abbrev pub mark : (rule line column : ℕ) → Exprs → Expr
mark rule line column es = e type.variant (marked (record { rule = rule; place = record { «module» = 1; line = line; column = column } }) es)

-- the same of a call of a declared type
abbrev pub mark_as : Declared → (rule line column : ℕ) → Exprs → Expr
mark_as of rule line column es = e of (marked (record { rule = rule; place = record { «module» = 1; line = line; column = column } }) es)

-- as an operand, since it may be an object
abbrev pub way : Expr → Expr
way x = e type.variant (default_of x)

abbrev pub alone : Expr → Exprs
alone x = also x no_exprs

-- ---- S25, of functions of the library

too_many : bound_to (codes "Sub Main()\nDebug.Print Left(\"a\", 1, 2)\nEnd Sub")
    ≡ (jumping 1 (show (way (mark 25 2 13 (also (e type.text (constant (text (codes "a")))) (also (n 1) (alone (n 2))))))) ∷ []) ∷ []
unfolding bound_to folded caseless digits
too_many = refl

too_few : bound_to (codes "Sub Main()\nDebug.Print 1 + Left(\"a\")\nEnd Sub")
    ≡ (jumping 1 (show (e type.variant (binary op.Add Binary (n 1) (way (mark 25 2 17 (alone (e type.text (constant (text (codes "a")))))))))) ∷ []) ∷ []
unfolding bound_to folded caseless digits
too_few = refl

-- ---- S26

-- a Byte for a Long; and a Long, and a Variant parameter
other_type : bound_to (codes "Sub Main()\nDim b As Byte\nDebug.Print F(b)\nEnd Sub\nFunction F(a As Long) As Long\nEnd Function")
    ≡ (jumping 1 (show (e type.long (call 1 (by_copy (mark 26 3 15 (alone (v (at type.byte 1)))) type.long no_args)))) ∷ []) ∷ [] ∷ []
unfolding bound_to folded caseless digits
other_type = refl

own_type : bound_to (codes "Sub Main()\nDim b As Long, c As Byte\nDebug.Print F(b, c)\nEnd Sub\nFunction F(a As Long, d) As Long\nEnd Function")
    ≡ (jumping 1 (show (e type.long (call 1 (by_place (variable (at type.long 1)) (by_place (variable (at type.byte 2)) no_args))))) ∷ []) ∷ [] ∷ []
unfolding bound_to folded caseless digits
own_type = refl

-- a String of three characters, by a name; and in parentheses
fixed_text : bound_to (codes "Sub Main()\nDim s As String * 3\nDebug.Print F(a:=s)\nEnd Sub\nFunction F(a As String) As Long\nEnd Function")
    ≡ (jumping 1 (show (e type.long (call 1 (in_order (0 ∷ []) (by_copy (mark 26 3 18 (alone (v (at (type.fixed_text 3) 1)))) type.text no_args))))) ∷ []) ∷ [] ∷ []
unfolding bound_to folded caseless digits
fixed_text = refl

in_parentheses : bound_to (codes "Sub Main()\nDim b As Byte\nDebug.Print F((b))\nEnd Sub\nFunction F(a As Long) As Long\nEnd Function")
    ≡ (jumping 1 (show (e type.long (call 1 (by_copy (v (at type.byte 1)) type.long no_args)))) ∷ []) ∷ [] ∷ []
unfolding bound_to folded caseless digits
in_parentheses = refl

-- ---- S28

abbrev pub none : Expr
none = e type.object (constant (object Nothing))

set_number : bound_to (codes "Sub Main()\nDim n As Long\nSet n = Nothing\nEnd Sub")
    ≡ (jumping 1 (evaluate (mark 28 3 1 (also none (alone (v (at type.long 1)))))) ∷ []) ∷ []
unfolding bound_to folded caseless digits
set_number = refl

set_text : bound_to (codes "Sub Main()\nDim v\nSet v = \"a\"\nEnd Sub") ≡ (jumping 1 (evaluate (mark 28 3 1 (alone (e type.text (constant (text (codes "a"))))))) ∷ []) ∷ []
unfolding bound_to folded caseless digits
set_text = refl

set_object : bound_to (codes "Sub Main()\nDim v, o As Object\nSet v = o\nSet o = v\nEnd Sub")
    ≡ (jumping 1 (set (variable (at type.variant 1)) (v (at type.object 2))) ∷ jumping 2 (set (variable (at type.object 2)) (v (at type.variant 1))) ∷ []) ∷ []
unfolding bound_to folded caseless digits
set_object = refl

-- ---- S29

text_counts : bound_to (codes "Sub Main()\nDim s As String\nFor s = 1 To 2\nNext\nEnd Sub")
    ≡ (jumping 1 (evaluate (mark 29 3 5 no_exprs)) ∷ jumping 2 (next (at type.text 1) 0 1) ∷ []) ∷ []
unfolding bound_to folded caseless digits
text_counts = refl

other_name : bound_to (codes "Sub Main()\nDim i, j\nFor i = 1 To 2\nNext j\nEnd Sub")
    ≡ (jumping 1 (for_to (at type.variant 1) Binary (n 1) (n 2) (n 1) nowhere None 1 2) ∷ jumping 2 (evaluate (mark 29 4 6 no_exprs)) ∷ []) ∷ []
unfolding bound_to folded caseless digits
other_name = refl

-- a name is compared without regard to case
same_name : bound_to (codes "Sub Main()\nDim c As Currency\nFor c = 1 To 2\nNext [C]\nEnd Sub")
    ≡ (jumping 1 (for_to (at type.currency 1) Binary (n 1) (n 2) (n 1) nowhere None 1 2) ∷ jumping 2 (next (at type.currency 1) 0 1) ∷ []) ∷ []
unfolding bound_to folded caseless digits
same_name = refl

-- an Object over an array, and a Variant
abbrev numbers : Variable
numbers = record (at (type.array_of type.long) 1) { bounded = true }

object_over : bound_to (codes "Sub Main()\nDim a(1) As Long, o As Object\nFor Each o In a\nNext\nEnd Sub")
    ≡ (jumping 1 (evaluate (mark 29 3 10 (alone (v numbers)))) ∷ jumping 2 (next_each (at type.object 2) 0 1) ∷ []) ∷ []
unfolding bound_to folded caseless digits
object_over = refl

variant_over : bound_to (codes "Sub Main()\nDim a(1) As Long, v\nFor Each v In a\nNext\nEnd Sub")
    ≡ (jumping 1 (for_each (at type.variant 2) (v numbers) 1 2) ∷ jumping 2 (next_each (at type.variant 2) 0 1) ∷ []) ∷ []
unfolding bound_to folded caseless digits
variant_over = refl
