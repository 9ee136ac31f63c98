-- Worked rows of what arguments lead to from a place of which the run says what is there.
use Rattle.std.specs.Prelude.{◌≡◌, ℕ, pos, List, [], ◌∷◌, ◌++◌, codes, Bool, true, false, refl, Some, None}
use Rattle.std.specs.Fmt.{digits}
use Rattle.vba_values.specs.declared.types.OpKind.TheVariants as op
use Rattle.vba_values.specs.declared.types.WholeKind.TheVariants as kind
use Rattle.vba_values.specs.Types as type
use Rattle.vba_values.specs.Val.{whole}
use Rattle.bound_project.specs.Expressions.{Lvalue, Expr, not_given, late_item, variable, item, element_along, late_field, value_place, call, no_args, by_place, expr_given, none_given, late_member, same, this, also, no_exprs}
use Rattle.bound_project.specs.Statements.{Action, Statement, set, assign, assign_element, set_element, skipped, on_error, evaluate, set_late, assign_late, redim, resize, no_resizes, erase, an_array, no_arrays}
use Rattle.bound_project.specs.Project.{Project, Declaration, Procedure, Member, Parameter, is_procedure, is_variable, is_property, Class, is_get, is_function, is_set}
use Rattle.vba_meaning.specs.Memory.{Ended}
use Rattle.vba_meaning.specs.Effects.{Raised, Init, Term}
use Rattle.vba_meaning.proofs.Programs.{meaning, e, n, words, at_place, two, any, err, v, show, becomes, declare, sub, flat, program, told, line, of_type, one, redim_to, do_call, up_to, from_0, declared_array, fixed}
use Rattle.vba_meaning.proofs.ObjectRows.{one as one_class, with_class, new, nothing}
use Rattle.vba_meaning.proofs.LateRows.{named, of_members, takes, procedure_of, call_late, do_late, item_of, operand, my, o}

-- a Variant, and a place behind it
abbrev w : ℕ → Lvalue
w k = element_along (variable (any 1)) (one k)

-- a class with this default member
abbrev of_default : List Declaration → Member → Class
of_default fields x = of_members fields (named (codes "item") x ∷ []) (Some x)

-- Property Get Item(ByVal k As Long) As Long gives k * 2
abbrev doubled : Procedure × List Statement
doubled = (
  procedure_of (record (sub []) { kind = is_get }) (takes (codes "k") type.long false ∷ []) type.long,
  flat 0 (assign (variable (of_type 0 type.long)) (two op.Mul type.long (v (of_type 1 type.long)) (n 2)) ∷ []),
)

-- what two arguments lead to
abbrev pair_of : Expr → Expr → Expr → Expr
pair_of a b c = e type.variant (late_item a (also b (also c no_exprs)))

abbrev optional : List ℕ → ℕ → Parameter
optional name k = record (takes name type.long false) { default = Some (whole kind.Long (pos k)) }

-- Sub More(ByRef x) does x = x + 1 and prints it
abbrev more : Procedure × List Statement
more = (
  procedure_of (sub []) (takes (codes "x") type.variant true ∷ []) type.variant,
  flat 0 (becomes (any 1) (two op.Add type.variant (v (any 1)) (n 1)) ∷ show (v (any 1)) ∷ []),
)

abbrev more_of : (procedure : ℕ) → Lvalue → Action
more_of p x = do_call p (by_place x no_args)

-- Class Bag: Item is its default member. Dim w ¶ Set w = New Bag ¶ More w(21) ¶ Debug.Print w(21) ¶ ReDim w(1) ¶ w(1) = 5 ¶
-- More w(1) ¶ Debug.Print w(1)
abbrev lent_items : Project
lent_items = with_class (of_default [] (is_property (Some 1) None None)) (program [] ((
  sub (type.variant ∷ []),
  flat 0 (
      set (variable (any 1)) new ∷ more_of 2 (w 21) ∷ show (item_of (v (any 1)) 21) ∷ redim_to (any 1) 1 ∷ assign_element (variable (any 1)) (one 1) (n 5) ∷ more_of 2 (w 1) ∷
      show (item_of (v (any 1)) 1) ∷ []),
) ∷
    doubled ∷ more ∷ []))

pub lent_items_is : told (meaning lent_items 50)
    ≡ (Ended, Init 1 1 ∷ line (codes " 43 ") ∷ line (codes " 42 ") ∷ Term 1 1 ∷ line (codes " 6 ") ∷ line (codes " 6 ") ∷ [])
unfolding digits
lent_items_is = refl

-- Class Box: Public Items As New Collection, its default member. Dim w ¶ Set w = New Box ¶ w.Item.Add 5 ¶ More w(1) ¶
-- Debug.Print w(1) ¶ More w(2), behind On Error Resume Next
abbrev lent_along : Project
lent_along = with_class (of_default (declare type.collection ∷ []) (is_variable 0 (Some 0))) (program [] ((
  sub (type.variant ∷ []),
  flat 0 (
      set (variable (any 1)) new ∷
      evaluate (e type.variant (late_member (e type.variant (late_member (v (any 1)) (codes "item") (record { before = 0; names = [] }) none_given)) (codes "add") (record { before = 1; names = [] }) (expr_given (n 5) none_given))) ∷
      more_of 1 (w 1) ∷ show (item_of (v (any 1)) 1) ∷ on_error skipped ∷ more_of 1 (w 2) ∷ show err ∷ []),
) ∷
    more ∷ []))

pub lent_along_is : told (meaning lent_along 50)
    ≡ (Ended, Init 1 1 ∷ line (codes " 6 ") ∷ line (codes " 5 ") ∷ Raised (pos 9) ∷ line (codes " 9 ") ∷ Term 1 1 ∷ [])
unfolding digits
lent_along_is = refl

-- Class Y: Property Get Item(ByVal k As Long) does ReDim Item(k), its default member. Dim w ¶ Set w = New Y ¶ w(1)(0) = 5 ¶
-- More w(1)(1) ¶ w(1)(2) = 5, behind On Error Resume Next
abbrev arrays_given : Project
arrays_given = with_class (of_default [] (is_property (Some 1) None None)) (program [] ((
  sub (type.variant ∷ []),
  flat 0 (
      set (variable (any 1)) new ∷ assign_element (w 1) (one 0) (n 5) ∷ more_of 2 (element_along (w 1) (one 1)) ∷ on_error skipped ∷ assign_element (w 1) (one 2) (n 5) ∷ []),
) ∷ (
  procedure_of (record (sub []) { kind = is_get }) (takes (codes "k") type.long false ∷ []) type.variant,
  flat 0 (redim false (resize (variable (any 0)) (also (n 0) (also (v (of_type 1 type.long)) no_exprs)) None no_resizes) ∷ []),
) ∷
    more ∷ []))

pub arrays_given_is : told (meaning arrays_given 50) ≡ (Ended, Init 1 1 ∷ line (codes " 1 ") ∷ Raised (pos 9) ∷ Term 1 1 ∷ [])
unfolding digits
arrays_given_is = refl

-- A class without a default member. More w(1), where w is Empty, has such an object, and is Nothing
abbrev no_items : Project
no_items = with_class (of_members [] [] None) (program [] ((
  sub (type.variant ∷ []),
  flat 0 (on_error skipped ∷ more_of 1 (w 1) ∷ set (variable (any 1)) new ∷ more_of 1 (w 1) ∷ set (variable (any 1)) nothing ∷ more_of 1 (w 1) ∷ []),
) ∷
    more ∷ []))

pub no_items_is : told (meaning no_items 50) ≡ (Ended, Raised (pos 450) ∷ Init 1 1 ∷ Raised (pos 438) ∷ Term 1 1 ∷ Raised (pos 91) ∷ [])
no_items_is = refl

-- ---- Set

-- Property Set Item(ByVal k As Long, ByVal x As Object) stores x and prints k; the Get gives what was stored
abbrev kept_object : List (Procedure × List Statement)
kept_object =
    (procedure_of (record (sub []) { kind = is_get }) (takes (codes "k") type.long false ∷ []) type.object, flat 0 (set (variable (of_type 0 type.object)) (v (my type.object)) ∷ [])) ∷ (
      procedure_of (record (sub []) { kind = is_set }) (takes (codes "k") type.long false ∷ takes (codes "x") type.object false ∷ []) type.variant,
      flat 0 (set (variable (my type.object)) (v (of_type 2 type.object)) ∷ show (v (of_type 1 type.long)) ∷ []),
    ) ∷ []

-- Class G: Item is its default member. Dim w ¶ Set w = New G ¶ Set w(3) = New G ¶ Debug.Print w(1) Is w ¶ Set w(3) = 5 ¶
-- Set w(1, 2) = New G, the last two behind On Error Resume Next
abbrev set_items : Project
set_items = with_class (of_default (declare type.object ∷ []) (is_property (Some 1) None (Some 2))) (program [] ((
  sub (type.variant ∷ []),
  flat 0 (
      set (variable (any 1)) new ∷ set_element (variable (any 1)) (one 3) new ∷ show (e type.boolean (same (item_of (v (any 1)) 1) (v (any 1)))) ∷ on_error skipped ∷ set_element (variable (any 1)) (one 3) (n 5) ∷
      set_element (variable (any 1)) (also (n 1) (also (n 2) no_exprs)) new ∷ []),
) ∷
    kept_object))

pub set_items_is : told (meaning set_items 50)
    ≡ (Ended, Init 1 1 ∷ Init 1 2 ∷ line (codes " 3 ") ∷ line (codes "False") ∷ Raised (pos 424) ∷ Init 1 3 ∷ Raised (pos 450) ∷ Term 1 3 ∷ Term 1 1 ∷ Term 1 2 ∷ [])
unfolding digits
set_items_is = refl

-- The same class with a Property Get Self() As Object, which gives Me. Dim o As Object ¶ Set o = New G ¶ Set o.Self(3) = New G ¶
-- Set o.Self = New G, behind On Error Resume Next
abbrev set_behind_property : Project
set_behind_property =
    with_class (of_members (declare type.object ∷ []) (named (codes "item") (is_property (Some 1) None (Some 2)) ∷ named (codes "self") (is_property (Some 3) None None) ∷ []) (Some (is_property (Some 1) None (Some 2)))) (program [] ((
      sub (type.object ∷ []),
      flat 0 (
          set (variable o) new ∷ set_late (v o) (codes "self") (record { before = 1; names = [] }) (expr_given (n 3) none_given) new ∷ on_error skipped ∷
          set_late (v o) (codes "self") (record { before = 0; names = [] }) none_given new ∷ []),
    ) ∷
    kept_object ++ (procedure_of (record (sub []) { kind = is_get }) [] type.object, flat 0 (set (variable (of_type 0 type.object)) (e type.object this) ∷ [])) ∷ []))

pub set_behind_property_is : told (meaning set_behind_property 50)
    ≡ (Ended, Init 1 1 ∷ Init 1 2 ∷ line (codes " 3 ") ∷ Init 1 3 ∷ Raised (pos 438) ∷ Term 1 3 ∷ Term 1 1 ∷ Term 1 2 ∷ [])
unfolding digits
set_behind_property_is = refl

-- Class G, and Function Made() As Object, which gives a new G. Set Made()(3) = New G
abbrev set_of_value : Project
set_of_value = with_class (of_default (declare type.object ∷ []) (is_property (Some 1) None (Some 2))) (program [] (
    (sub [], flat 0 (set_element (value_place (e type.object (call 3 no_args))) (one 3) new ∷ [])) ∷
    kept_object ++ (procedure_of (record (sub []) { kind = is_function }) [] type.object, flat 0 (set (variable (of_type 0 type.object)) new ∷ [])) ∷ []))

pub set_of_value_is : told (meaning set_of_value 50) ≡ (Ended, Init 1 1 ∷ Init 1 2 ∷ line (codes " 3 ") ∷ Term 1 2 ∷ Term 1 1 ∷ [])
unfolding digits
set_of_value_is = refl

-- Class T: Public Item As Long, its default member. Dim a(1) As T, w ¶ Set a(0) = New T ¶ w = a ¶ w(0) = 5 ¶ Debug.Print w(0) ¶
-- w(1) = 5, behind On Error Resume Next
abbrev objects_element : Project
objects_element = with_class (of_default (declare type.long ∷ []) (is_variable 0 None)) (program [] ((
  record (sub []) { locals = declared_array one_class (up_to 1 ∷ []) ∷ declare type.variant ∷ [] },
  flat 0 (
      set (item (fixed 1 one_class) (one 0)) new ∷ assign (variable (any 2)) (v (fixed 1 one_class)) ∷ assign_element (variable (any 2)) (one 0) (n 5) ∷ show (operand (item_of (v (any 2)) 0)) ∷
      on_error skipped ∷ assign_element (variable (any 2)) (one 1) (n 5) ∷ []),
) ∷ []))

pub objects_element_is : told (meaning objects_element 50) ≡ (Ended, Init 1 1 ∷ line (codes " 5 ") ∷ Raised (pos 91) ∷ Term 1 1 ∷ [])
unfolding digits
objects_element_is = refl

-- Class A: Public Item(1), its default member. Dim w ¶ Set w = New A ¶ w(1) = 5 ¶ Debug.Print w(1) ¶ Set w(0) = New A ¶
-- Debug.Print w(0) Is w ¶ Set w(2) = w, behind On Error Resume Next
abbrev default_array : Project
default_array = with_class (of_default (declared_array type.variant (up_to 1 ∷ []) ∷ []) (is_variable 0 None)) (program [] ((
  sub (type.variant ∷ []),
  flat 0 (
      set (variable (any 1)) new ∷ assign_element (variable (any 1)) (one 1) (n 5) ∷ show (item_of (v (any 1)) 1) ∷ set_element (variable (any 1)) (one 0) new ∷
      show (e type.boolean (same (item_of (v (any 1)) 0) (v (any 1)))) ∷ on_error skipped ∷ set_element (variable (any 1)) (one 2) (v (any 1)) ∷ []),
) ∷ []))

pub default_array_is : told (meaning default_array 50)
    ≡ (Ended, Init 1 1 ∷ line (codes " 5 ") ∷ Init 1 2 ∷ line (codes "False") ∷ Raised (pos 9) ∷ Term 1 1 ∷ Term 1 2 ∷ [])
unfolding digits
default_array_is = refl

-- Class D: Property Get Item(ByVal k As Long) alone, its default member. Set w(1) = New D, and = Nothing where w is 5 and where it is
-- an array
abbrev not_set : Project
not_set = with_class (of_default [] (is_property (Some 1) None None)) (program [] ((
  sub (type.variant ∷ []),
  flat 0 (
      set (variable (any 1)) new ∷ on_error skipped ∷ set_element (variable (any 1)) (one 1) new ∷ becomes (any 1) (n 5) ∷ set_element (variable (any 1)) (one 1) nothing ∷ redim_to (any 1) 1 ∷
      set_element (variable (any 1)) (one 1) nothing ∷ show (e type.boolean (same (item_of (v (any 1)) 1) nothing)) ∷ []),
) ∷
    doubled ∷ []))

pub not_set_is : told (meaning not_set 50)
    ≡ (Ended, Init 1 1 ∷ Init 1 2 ∷ Raised (pos 438) ∷ Term 1 2 ∷ Term 1 1 ∷ Raised (pos 450) ∷ line (codes "True") ∷ [])
not_set_is = refl

-- ---- ReDim and Erase

abbrev redim_late : (preserve : Bool) → List ℕ → ℕ → Action
redim_late preserve name k = redim preserve (resize (late_field (v o) name) (from_0 k) None no_resizes)

-- Class R: Public Arr() As Long, Public Two(1) As Long and a Property Get Item. Dim o As Object ¶ Set o = New R ¶ ReDim o.Arr(5) ¶
-- o.Arr(5) = 7 ¶ ReDim Preserve o.Arr(9) ¶ Debug.Print o.Arr(5) ¶ Debug.Print o.Arr(9) ¶ ReDim o.Two(3) ¶ ReDim o.Nope(3) ¶
-- ReDim o.Item(3) ¶ Erase o.Arr ¶ Debug.Print o.Arr(5) ¶ Set o = Nothing ¶ ReDim o.Arr(1), those from Two on behind On Error Resume Next
abbrev late_arrays : Project
late_arrays =
    with_class (of_members (declare (type.array_of type.long) ∷ declared_array type.long (up_to 1 ∷ []) ∷ [])
    (named (codes "arr") (is_variable 0 None) ∷ named (codes "two") (is_variable 1 None) ∷ named (codes "item") (is_property (Some 1) None None) ∷ []) None) (program [] ((
      sub (type.object ∷ []),
      flat 0 (
          set (variable o) new ∷ redim_late false (codes "arr") 5 ∷ assign_late (v o) (codes "arr") (record { before = 1; names = [] }) (expr_given (n 5) none_given) (n 7) ∷ redim_late true (codes "arr") 9 ∷
          show (call_late (codes "arr") (expr_given (n 5) none_given) 1 []) ∷ show (call_late (codes "arr") (expr_given (n 9) none_given) 1 []) ∷ on_error skipped ∷ redim_late false (codes "two") 3 ∷
          redim_late false (codes "nope") 3 ∷ redim_late false (codes "item") 3 ∷ erase (an_array (late_field (v o) (codes "arr")) no_arrays) ∷ do_late (codes "arr") (expr_given (n 5) none_given) 1 ∷
          set (variable o) nothing ∷ redim_late false (codes "arr") 1 ∷ []),
    ) ∷
    doubled ∷ []))

pub late_arrays_is : told (meaning late_arrays 50)
    ≡ (Ended, Init 1 1 ∷ line (codes " 7 ") ∷ line (codes " 0 ") ∷ Raised (pos 10) ∷ Raised (pos 438) ∷ Raised (pos 438) ∷ Raised (pos 9) ∷ Term 1 1 ∷ Raised (pos 91) ∷ [])
unfolding digits
late_arrays_is = refl

-- ---- the arguments of a default member

-- Class S: Function Item(ParamArray k()) As Long gives k(1), its default member. Dim w ¶ Set w = New S ¶ Debug.Print w(4, 5) ¶
-- Debug.Print w(4), behind On Error Resume Next
abbrev many_items : Project
many_items = with_class (of_default [] (is_procedure 1)) (program [] (
    (sub (type.variant ∷ []), flat 0 (set (variable (any 1)) new ∷ show (pair_of (v (any 1)) (n 4) (n 5)) ∷ on_error skipped ∷ evaluate (item_of (v (any 1)) 4) ∷ [])) ∷ (
      procedure_of (record (sub []) { kind = is_function }) (record (takes (codes "k") (type.array_of type.variant) true) { many = true } ∷ []) type.long,
      flat 0 (assign (variable (of_type 0 type.long)) (at_place type.variant (item (of_type 1 (type.array_of type.variant)) (one 1))) ∷ []),
    ) ∷ []))

pub many_items_is : told (meaning many_items 50) ≡ (Ended, Init 1 1 ∷ line (codes " 5 ") ∷ Raised (pos 9) ∷ Term 1 1 ∷ [])
unfolding digits
many_items_is = refl

-- Class O: Property Get Item(Optional ByVal j As Long = 7, Optional ByVal k As Long = 8) As Long gives j. w(, 2) ¶ w("a", 2, 3),
-- behind On Error Resume Next
abbrev left_out_items : Project
left_out_items = with_class (of_default [] (is_property (Some 1) None None)) (program [] ((
  sub (type.variant ∷ []),
  flat 0 (
      set (variable (any 1)) new ∷ show (pair_of (v (any 1)) (e type.variant not_given) (n 2)) ∷ on_error skipped ∷
      evaluate (e type.variant (late_item (v (any 1)) (also (words (codes "a")) (also (n 2) (also (n 3) no_exprs))))) ∷ []),
) ∷ (
  procedure_of (record (sub []) { kind = is_get }) (optional (codes "j") 7 ∷ optional (codes "k") 8 ∷ []) type.long,
  flat 0 (assign (variable (of_type 0 type.long)) (v (of_type 1 type.long)) ∷ []),
) ∷ []))

pub left_out_items_is : told (meaning left_out_items 50) ≡ (Ended, Init 1 1 ∷ line (codes " 7 ") ∷ Raised (pos 450) ∷ Term 1 1 ∷ [])
unfolding digits
left_out_items_is = refl
