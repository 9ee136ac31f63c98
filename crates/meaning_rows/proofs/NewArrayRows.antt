-- Worked rows of arrays that are declared As New.
use Rattle.std.specs.Prelude.{◌≡◌, pos, [], ◌∷◌, codes, false, refl, None}
use Rattle.std.specs.Fmt.{digits}
use Rattle.vba_values.specs.Types as type
use Rattle.bound_project.specs.Expressions.{Expr, load, load_made, object_field, Lvalue, variable, item, element, element_along, as_new, no_args, by_place}
use Rattle.bound_project.specs.Statements.{Action, assign, set, set_element}
use Rattle.bound_project.specs.Project.{Project, Procedure}
use Rattle.vba_meaning.specs.Memory.{Ended}
use Rattle.vba_meaning.specs.Effects.{Init, Term}
use Rattle.vba_meaning.proofs.Programs.{meaning, e, n, words, any, show, do_call, declare, sub, flat, program, told, line, of_type, fixed, up_to, declared_array}
use Rattle.vba_meaning.proofs.Programs as programs
use Rattle.vba_meaning.proofs.ObjectRows.{a_class, with_class, one, nothing}

-- Dim a(1) As New T, and a Variant; T has X As Long
abbrev new_array : Lvalue
new_array = as_new 1 (variable (fixed 1 one))

abbrev owner : Procedure
owner = record (sub []) { locals = declared_array one (up_to 1 ∷ []) ∷ declare type.variant ∷ [] }

-- an element, with what it makes where it is read, and X of it
abbrev read_from : Lvalue → Expr
read_from place = e one (load_made place)

abbrev x_of : Lvalue → Lvalue
x_of place = object_field (read_from place) 0 type.long false

abbrev in_array : Lvalue
in_array = element new_array (programs.one 1)

abbrev show_x : Lvalue → Action
show_x place = show (e type.long (load (x_of place)))

-- v = a ¶ Debug.Print "none" ¶ a(1).X = 2 ¶ Debug.Print a(1).X ¶ Set a(1) = Nothing ¶ Debug.Print a(1).X: the whole array
-- that is read makes no object, an element that is read makes one, and again where it has Nothing
abbrev made_in_elements : Project
made_in_elements = with_class (a_class (declare type.long ∷ []) None None) (program [] ((
  owner,
  flat 0 (
      assign (variable (any 2)) (e (type.array_of one) (load_made new_array)) ∷ show (words (codes "none")) ∷
      assign (x_of in_array) (n 2) ∷ show_x in_array ∷ set in_array nothing ∷ show_x in_array ∷ []),
) ∷ []))

pub made_in_elements_is : told (meaning made_in_elements 50) ≡ (Ended, line (codes "none") ∷ Init 1 1 ∷ line (codes " 2 ") ∷ Term 1 1 ∷ Init 1 2 ∷ line (codes " 0 ") ∷ Term 1 2 ∷ [])
unfolding digits
made_in_elements_is = refl

-- Fill a ¶ Debug.Print a(1).X, where Fill(v() As T) does v(1).X = 3: the parameter leads to the array, so its element makes
-- the object
abbrev parameter : Lvalue
parameter = item (of_type 1 (type.array_of one)) (programs.one 1)

abbrev made_through : Project
made_through = with_class (a_class (declare type.long ∷ []) None None) (program [] (
    (owner, flat 0 (do_call 1 (by_place new_array no_args) ∷ show_x in_array ∷ [])) ∷
    (sub [], flat 0 (assign (x_of parameter) (n 3) ∷ [])) ∷ []))

pub made_through_is : told (meaning made_through 50) ≡ (Ended, Init 1 1 ∷ line (codes " 3 ") ∷ Term 1 1 ∷ [])
unfolding digits
made_through_is = refl

-- the same where Fill(v) does Set v(1) = Nothing ¶ Debug.Print "none" ¶ v(1).X = 4: an element that is set makes none
abbrev along : Lvalue
along = element_along (variable (any 1)) (programs.one 1)

abbrev made_along : Project
made_along = with_class (a_class (declare type.long ∷ []) None None) (program [] (
    (owner, flat 0 (do_call 1 (by_place new_array no_args) ∷ show_x in_array ∷ [])) ∷
    (sub [], flat 0 (set_element (variable (any 1)) (programs.one 1) nothing ∷ show (words (codes "none")) ∷ assign (x_of along) (n 4) ∷ [])) ∷ []))

pub made_along_is : told (meaning made_along 50) ≡ (Ended, line (codes "none") ∷ Init 1 1 ∷ line (codes " 4 ") ∷ Term 1 1 ∷ [])
unfolding digits
made_along_is = refl
