-- Worked rows of library calls, Set, Is and TypeOf.
use Rattle.std.specs.Prelude.{◌≡◌, ℕ, zero, suc, ◌+◌, pos, List, [], ◌∷◌, ◌++◌, codes, true, false, refl, Some, None}
use Rattle.std.specs.Fmt.{digits, signed_decimal}
use Rattle.caseless.proofs.Computing.{caseless}
use Rattle.currency.specs.HalfEven.{nearest}
use Rattle.currency.specs.NumberText.{read, read_digits}
use Rattle.vba_base.specs.Fold.{folded}
use Rattle.vba_values.specs.declared.object.ObjRef.TheVariants.{Nothing}
use Rattle.vba_values.specs.declared.object.HostRef.TheVariants.{ErrObject}
use Rattle.vba_values.specs.declared.types.OpKind.TheVariants as op
use Rattle.vba_values.specs.declared.types.Compare.TheVariants.{Binary}
use Rattle.vba_values.specs.declared.types.WholeKind.TheVariants as kind
use Rattle.vba_values.specs.declared.fault.OutKind.TheVariants.{DoubleResult, Elements, NumberText}
use Rattle.vba_values.specs.Types.{Declared}
use Rattle.vba_values.specs.Types as type
use Rattle.vba_values.specs.Val.{null, whole, object}
use Rattle.vba_lib.specs.declared.function.LibraryFunction.{LibraryFunction}
use Rattle.vba_lib.specs.declared.function.LibraryFunction.TheVariants as function
use Rattle.bound_project.specs.Expressions.{Variable, Expr, not_given, constant, default_if_any, same, is_type, library, bound_of, host_object, variable, item, no_args, by_place, no_exprs, also, Exprs, kept_place, no_prints, shown}
use Rattle.bound_project.specs.Statements.{Action, skipped, assign, set, assign_default, set_property, print, redim, no_resizes, resize, with_place, end_with, for_to, next, on_error}
use Rattle.bound_project.specs.Project.{Project, nowhere}
use Rattle.vba_meaning.specs.Memory.{Ended, Stopped, outside}
use Rattle.vba_meaning.specs.Effects.{Event, Raised}
use Rattle.vba_meaning.proofs.Programs.{meaning, e, n, words, two, byte, any, v, err, show, becomes, declare, sub, flat, jumping, program, main, told, line, fault, longs, shared_longs, of_type, one, redim_to, do_call, with_types}
use Rattle.vba_meaning.proofs.ArrayRows.{long_array, p_array, x_of}

-- a call of a function of the library
abbrev use_of : LibraryFunction → Declared → Exprs → Expr
use_of f of es = e of (library f false es Binary (pos 0))

abbrev type_name_of : Expr → Expr
type_name_of a = use_of function.TypeName type.text (also a no_exprs)

abbrev u_bound_of : Variable → Expr
u_bound_of x = e type.long (bound_of true (variable x) (pos 1))

-- Dim v ¶ v = 32767 ¶ v = v + 1 ¶ Debug.Print TypeName(v) ¶ v = 2147483647 ¶ v = v + 1
abbrev widened : Project
widened = main (type.variant ∷ []) (flat 0 (
    becomes (any 1) (n 32767) ∷ becomes (any 1) (two op.Add type.variant (v (any 1)) (n 1)) ∷ show (type_name_of (v (any 1))) ∷
    becomes (any 1) (e type.long (constant (whole kind.Long (pos 2147483647)))) ∷ becomes (any 1) (two op.Add type.variant (v (any 1)) (n 1)) ∷ []))

widened_is : told (meaning widened 50) ≡ (Stopped (outside DoubleResult) 0 (Some 4), line (codes "Long") ∷ [])
widened_is = refl

-- Dim b As Byte ¶ For b = 0 To 255 ¶ Debug.Print b ¶ Next b: the Next behind the last line raises 6
abbrev bytes : Project
bytes = main (type.byte ∷ []) (
    jumping 1 (for_to (byte 1) Binary (n 0) (n 255) (n 1) nowhere None 1 3) ∷ jumping 2 (show (v (byte 1))) ∷ jumping 3 (next (byte 1) 0 1) ∷ [])

abbrev lines_from : (first count : ℕ) → List Event
lines_from first zero = []
lines_from first (suc count) = line (codes " " ++ signed_decimal (pos first) ++ codes " ") ∷ lines_from (first + 1) count

bytes_are : told (meaning bytes 600) ≡ (fault 6 0 2, lines_from 0 256 ++ Raised (pos 6) ∷ [])
unfolding digits
bytes_are = refl

-- Dim a() As Long (of the module): On Error Resume Next ¶ ReDim a(3) ¶ Work a(1) ¶ Debug.Print Err.Number ¶ ReDim a(9)
-- ¶ Debug.Print UBound(a); and Work(ByRef x As Long): ReDim a(9)
abbrev lent_element : Project
lent_element = program (long_array ∷ []) ((
  sub [],
  flat 0 (
      on_error skipped ∷ redim_to (shared_longs 0) 3 ∷ do_call 1 (by_place (item (shared_longs 0) (one 1)) no_args) ∷ show err ∷
      redim_to (shared_longs 0) 9 ∷ show (u_bound_of (shared_longs 0)) ∷ []),
) ∷
    (sub [], flat 0 (redim_to (shared_longs 0) 9 ∷ [])) ∷ [])

lent_element_is : told (meaning lent_element 50) ≡ (Ended, Raised (pos 10) ∷ line (codes " 10 ") ∷ line (codes " 9 ") ∷ [])
unfolding digits
lent_element_is = refl

-- Type P: X As Long; Dim a() As P ¶ ReDim a(1) ¶ With a(1) ¶ .X = 3 ¶ End With ¶ ReDim a(2) ¶ Debug.Print UBound(a)
abbrev with_element : Project
with_element = with_types ((declare type.long ∷ []) ∷ []) (main (type.array_of (type.udt 0) ∷ []) (flat 0 (
    redim_to p_array 1 ∷ with_place (item p_array (one 1)) ∷ assign (x_of (kept_place 1)) (n 3) ∷ end_with 1 ∷ redim_to p_array 2 ∷ show (u_bound_of p_array) ∷ [])))

with_element_is : told (meaning with_element 50) ≡ (Ended, line (codes " 2 ") ∷ [])
unfolding digits
with_element_is = refl

-- Debug.Print CLng("2.5"); CLng(" -3.5 ") ¶ Debug.Print StrComp("STRASSE", "straße", 1) ¶ Debug.Print CLng("1e3")
abbrev c_lng : List ℕ → Expr
c_lng units = use_of function.CLng type.long (also (words units) no_exprs)

abbrev number_texts : Project
number_texts = main [] (flat 0 (print (shown (c_lng (codes "2.5")) (shown (c_lng (codes " -3.5 ")) no_prints)) true ∷
    show (use_of function.StrComp type.variant (also (words (codes "STRASSE")) (also (words (codes "straße")) (also (n 1) no_exprs)))) ∷
    show (c_lng (codes "1e3")) ∷ []))

number_texts_are : told (meaning number_texts 50) ≡ (Stopped (outside NumberText) 0 (Some 2), line (codes " 2 -4 ") ∷ line (codes " 0 ") ∷ [])
unfolding digits nearest read read_digits folded caseless
number_texts_are = refl

-- Dim a() As Byte ¶ ReDim a(1048575) ¶ Debug.Print UBound(a) ¶ ReDim a(1048576)
abbrev byte_array : Variable
byte_array = of_type 1 (type.array_of type.byte)

abbrev byte_redim : ℕ → Action
byte_redim k = redim false (resize (variable byte_array) (also (n 0) (also (e type.long (constant (whole kind.Long (pos k)))) no_exprs)) None no_resizes)

abbrev largest : Project
largest = main (type.array_of type.byte ∷ []) (flat 0 (byte_redim 1048575 ∷ show (u_bound_of byte_array) ∷ byte_redim 1048576 ∷ []))

largest_is : told (meaning largest 50) ≡ (Stopped (outside Elements) 0 (Some 2), line (codes " 1048575 ") ∷ [])
unfolding digits
largest_is = refl

-- UBound of an array without storage raises 9, of a number 13; Mid("abc", 2, ) raises 13, and Left("abc", Null) is Null
abbrev bad_uses : Project
bad_uses = main (long_array ∷ type.variant ∷ []) (flat 0 (
    on_error skipped ∷ show (u_bound_of (longs 1)) ∷ show (u_bound_of (any 2)) ∷
    show (use_of function.Mid type.variant (also (words (codes "abc")) (also (n 2) (also (e type.variant not_given) no_exprs)))) ∷
    show (use_of function.Left type.variant (also (words (codes "abc")) (also (e type.variant (constant null)) no_exprs))) ∷ []))

bad_uses_are : told (meaning bad_uses 50) ≡ (Ended, Raised (pos 9) ∷ Raised (pos 13) ∷ Raised (pos 13) ∷ line (codes "Null") ∷ [])
bad_uses_are = refl

-- ---- objects

abbrev any_object : ℕ → Variable
any_object i = of_type i type.object

abbrev nothing : Expr
nothing = e type.object (constant (object Nothing))

abbrev err_itself : Expr
err_itself = e type.object (host_object ErrObject)

abbrev is_same : Expr → Expr → Expr
is_same a b = e type.boolean (same a b)

-- Dim o As Object ¶ Debug.Print o Is Nothing ¶ Set o = Err ¶ Debug.Print o Is Err; o Is Nothing; TypeName(o); TypeOf o
-- Is Object; TypeOf o Is Collection ¶ Set o = Nothing ¶ Debug.Print TypeName(o)
abbrev references : Project
references = main (type.object ∷ []) (flat 0 (
    show (is_same (v (any_object 1)) nothing) ∷ set (variable (any_object 1)) err_itself ∷
    print (shown (is_same (v (any_object 1)) err_itself) (shown (is_same (v (any_object 1)) nothing) (shown (type_name_of (v (any_object 1)))
    (shown (e type.boolean (is_type (v (any_object 1)) type.object)) (shown (e type.boolean (is_type (v (any_object 1)) type.collection)) no_prints))))) true ∷
    set (variable (any_object 1)) nothing ∷ show (type_name_of (v (any_object 1))) ∷ []))

references_are : told (meaning references 50) ≡ (Ended, line (codes "True") ∷ line (codes "TrueFalseErrObjectTrueFalse") ∷ line (codes "Nothing") ∷ [])
references_are = refl

-- On Error Resume Next ¶ Set v = 5 ¶ Set c = Err ¶ Debug.Print v Is Nothing ¶ Debug.Print TypeOf o Is Object ¶ o = 5 ¶ Set
-- o = Err ¶ o = 5, where v is a Variant, c a Collection and o an Object: 424, 13, 424, 91, 91 and 438
abbrev bad_references : Project
bad_references = main (type.variant ∷ type.collection ∷ type.object ∷ []) (flat 0 (
    on_error skipped ∷ set (variable (any 1)) (n 5) ∷ set (variable (of_type 2 type.collection)) err_itself ∷ show (is_same (v (any 1)) nothing) ∷
    show (e type.boolean (is_type (v (any_object 3)) type.object)) ∷ assign_default (v (any_object 3)) (n 5) ∷ set (variable (any_object 3)) err_itself ∷
    assign_default (v (any_object 3)) (n 5) ∷ []))

bad_references_are : told (meaning bad_references 50)
    ≡ (Ended, Raised (pos 424) ∷ Raised (pos 13) ∷ Raised (pos 424) ∷ Raised (pos 91) ∷ Raised (pos 91) ∷ Raised (pos 438) ∷ [])
bad_references_are = refl

-- IsEmpty(Err) looks at Err's Number, and IsObject(Err) at Err; VarType(Err) is that of Number
abbrev soft : LibraryFunction → Expr → Expr
soft f a = use_of f type.boolean (also (e type.variant (default_if_any a)) no_exprs)

abbrev defaults : Project
defaults = main [] (flat 0 (
    print (shown (soft function.IsEmpty err_itself) (shown (use_of function.IsObject type.boolean (also err_itself no_exprs)) (shown (soft function.VarType err_itself) (shown (soft function.VarType nothing) no_prints)))) true ∷ []))

defaults_are : told (meaning defaults 50) ≡ (Ended, line (codes "FalseTrue 3  9 ") ∷ [])
unfolding digits
defaults_are = refl

-- Set P = Err, where P is a Property Set of the module that prints TypeName of what it is given; Set P = 5 raises 424
abbrev property : Project
property = program [] ((
  sub [],
  flat 0 (on_error skipped ∷ set_property 1 no_args err_itself type.object ∷ set_property 1 no_args (n 5) type.object ∷ []),
) ∷
    (sub [], flat 0 (show (type_name_of (v (any_object 1))) ∷ [])) ∷ [])

property_is : told (meaning property 50) ≡ (Ended, line (codes "ErrObject") ∷ Raised (pos 424) ∷ [])
property_is = refl
