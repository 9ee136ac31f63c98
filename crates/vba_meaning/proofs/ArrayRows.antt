-- Worked rows of arrays, Types, With and For Each.
use Rattle.std.specs.Prelude.{◌≡◌, ℕ, pos, List, [], ◌∷◌, codes, true, false, refl, Some, None}
use Rattle.std.specs.Fmt.{digits}
use Rattle.vba_values.specs.declared.fault.OutKind.TheVariants.{Elements}
use Rattle.vba_values.specs.Types as type
use Rattle.vba_values.specs.Val.{boolean}
use Rattle.bound_project.specs.Expressions.{shared, Variable, constant, element_value, field_value, call, Lvalue, variable, item, element, field, kept_place, no_args, by_place, by_copy, by_list, no_exprs, also, no_prints, shown}
use Rattle.bound_project.specs.Statements.{skipped, assign, assign_item, print, for_each, next_each, exit_each, redim, no_resizes, resize, erase, no_arrays, an_array, with_place, with_value, end_with, go_to, on_error}
use Rattle.bound_project.specs.Project.{Project, Declaration}
use Rattle.vba_meaning.specs.Memory.{Ended, Stopped, outside}
use Rattle.vba_meaning.specs.Effects.{Raised}
use Rattle.vba_meaning.proofs.Programs.{meaning, e, n, words, plus, long, any, global, v, err, show, becomes, declare, sub, flat, jumping, program, main, told, line, fault, longs, shared_longs, of_type, fixed, up_to, declared_array, one, from_0, at_place, el, el_becomes, redim_to, do_call, with_types}

abbrev pub long_array : type.Declared
long_array = type.array_of type.long

-- Dim a() As Long (of the module): On Error Resume Next ¶ ReDim a(3) ¶ Work a(1) ¶ Debug.Print Err.Number ¶ ReDim a(9)
-- ¶ a(9) = 9 ¶ Debug.Print a(9); and Work(ByRef x As Long): ReDim a(9)
abbrev lent_element : Project
lent_element = program (long_array ∷ []) ((
  sub [],
  flat 0 (
      on_error skipped ∷ redim_to (shared_longs 0) 3 ∷ do_call 1 (by_place (item (shared_longs 0) (one 1)) no_args) ∷ show err ∷
      redim_to (shared_longs 0) 9 ∷ el_becomes (shared_longs 0) 9 (n 9) ∷ show (el (shared_longs 0) 9) ∷ []),
) ∷
    (sub [], flat 0 (redim_to (shared_longs 0) 9 ∷ [])) ∷ [])

pub lent_element_is : told (meaning lent_element 50) ≡ (Ended, Raised (pos 10) ∷ line (codes " 10 ") ∷ line (codes " 9 ") ∷ [])
unfolding digits
lent_element_is = refl

-- the same without a policy: the error leaves Work and ends the run, and its place is the ReDim of Work
abbrev lent_to_work : Project
lent_to_work = program (long_array ∷ []) (
    (sub [], flat 0 (redim_to (shared_longs 0) 3 ∷ do_call 1 (by_place (item (shared_longs 0) (one 1)) no_args) ∷ [])) ∷
    (sub [], flat 0 (redim_to (shared_longs 0) 9 ∷ [])) ∷ [])

pub lent_to_work_is : told (meaning lent_to_work 50) ≡ (fault 10 1 0, Raised (pos 10) ∷ [])
lent_to_work_is = refl

-- Type P: X As Long; Dim a() As P ¶ ReDim a(1) ¶ With a(1) ¶ .X = 3 ¶ End With ¶ Debug.Print a(1).X ¶ ReDim a(2) ¶
-- Debug.Print a(2).X
abbrev pub p_array : Variable
p_array = of_type 1 (type.array_of (type.udt 0))

abbrev pub x_of : Lvalue → Lvalue
x_of place = field place 0 type.long false

abbrev with_element : Project
with_element = with_types ((declare type.long ∷ []) ∷ []) (main (type.array_of (type.udt 0) ∷ []) (flat 0 (
    redim_to p_array 1 ∷ with_place (item p_array (one 1)) ∷ assign (x_of (kept_place 1)) (n 3) ∷ end_with 1 ∷
    show (at_place type.long (x_of (item p_array (one 1)))) ∷ redim_to p_array 2 ∷ show (at_place type.long (x_of (item p_array (one 2)))) ∷ [])))

pub with_element_is : told (meaning with_element 50) ≡ (Ended, line (codes " 3 ") ∷ line (codes " 0 ") ∷ [])
unfolding digits
with_element_is = refl

-- inside the With block ReDim, Erase and a whole assignment raise 10, and the element may be written whole; behind it
-- the array has no storage after Erase, so its element raises 9
abbrev with_locks : Project
with_locks = with_types ((declare type.long ∷ []) ∷ []) (main (type.array_of (type.udt 0) ∷ []) (flat 0 (
    on_error skipped ∷ redim_to p_array 1 ∷ with_place (item p_array (one 1)) ∷ redim_to p_array 2 ∷ erase (an_array (variable p_array) no_arrays) ∷
    assign (variable p_array) (at_place (type.array_of (type.udt 0)) (variable p_array)) ∷
    assign (item p_array (one 1)) (at_place (type.udt 0) (item p_array (one 0))) ∷ end_with 2 ∷
    erase (an_array (variable p_array) no_arrays) ∷ show (at_place type.long (x_of (item p_array (one 1)))) ∷ [])))

pub with_locks_is : told (meaning with_locks 50) ≡ (Ended, Raised (pos 10) ∷ Raised (pos 10) ∷ Raised (pos 10) ∷ Raised (pos 9) ∷ [])
with_locks_is = refl

-- Work a(1), F(): while F runs the path to a(1) is pending, so its ReDim raises 10; the error drops the path
abbrev pending : Project
pending = program (long_array ∷ []) ((
  sub [],
  flat 0 (
      on_error skipped ∷ redim_to (shared_longs 0) 3 ∷ do_call 1 (by_place (item (shared_longs 0) (one 1)) (by_copy (e type.variant (call 2 no_args)) type.long no_args)) ∷
      redim_to (shared_longs 0) 7 ∷ show (el (shared_longs 0) 7) ∷ []),
) ∷
    (sub [], flat 0 (show (n 1) ∷ [])) ∷
    (sub [], flat 0 (redim_to (shared_longs 0) 9 ∷ [])) ∷ [])

pub pending_is : told (meaning pending 50) ≡ (Ended, Raised (pos 10) ∷ line (codes " 0 ") ∷ [])
unfolding digits
pending_is = refl

-- Dim v: ReDim v(1) ¶ Work v(1), where Work(ByRef x) writes v: the Variant would lose the array of a place that x
-- leads to
abbrev shared_variant : Variable
shared_variant = record { storage = shared 0; of = type.variant; bounded = false }

abbrev overwritten : Project
overwritten = program (type.variant ∷ []) (
    (sub [], flat 0 (on_error skipped ∷ redim_to shared_variant 1 ∷ do_call 1 (by_place (item shared_variant (one 1)) no_args) ∷ show err ∷ becomes shared_variant (n 7) ∷ show (v shared_variant) ∷ [])) ∷
    (sub [], flat 0 (becomes shared_variant (n 5) ∷ [])) ∷ [])

pub overwritten_is : told (meaning overwritten 50) ≡ (Ended, Raised (pos 10) ∷ line (codes " 10 ") ∷ line (codes " 7 ") ∷ [])
unfolding digits
overwritten_is = refl

-- Dim f(1) As Long: ReDim f(2) raises 10, also through a parameter, and so does a whole array that is written through
-- a Variant parameter; Erase gives it new elements
abbrev bounded_longs : Variable
bounded_longs = fixed 1 type.long

abbrev bounds_stay : Project
bounds_stay = program [] ((
  record (sub []) { locals = declared_array type.long (up_to 1 ∷ []) ∷ declare long_array ∷ [] },
  flat 0 (
      on_error skipped ∷ redim_to bounded_longs 2 ∷ do_call 1 (by_place (variable bounded_longs) no_args) ∷ redim_to (longs 2) 1 ∷
      do_call 2 (by_place (variable bounded_longs) (by_place (variable (longs 2)) no_args)) ∷
      el_becomes bounded_longs 1 (n 4) ∷ show (el bounded_longs 1) ∷ erase (an_array (variable bounded_longs) no_arrays) ∷ show (el bounded_longs 1) ∷ []),
) ∷
    (sub [], flat 0 (redim_to (longs 1) 2 ∷ [])) ∷
    (sub [], flat 0 (assign (variable (any 1)) (at_place long_array (variable (longs 2))) ∷ [])) ∷ [])

pub bounds_stay_is : told (meaning bounds_stay 50) ≡ (Ended, Raised (pos 10) ∷ Raised (pos 10) ∷ Raised (pos 10) ∷ line (codes " 4 ") ∷ line (codes " 0 ") ∷ [])
unfolding digits
bounds_stay_is = refl

-- 9: no storage, outside the bounds, too many numbers, a high bound below its low one, Preserve with other bounds than
-- the last upper one; 450: numbers behind no array; 13: Erase of none
abbrev outside_bounds : Project
outside_bounds = main (long_array ∷ type.variant ∷ []) (flat 0 (
    on_error skipped ∷ show (el (longs 1) 0) ∷ redim_to (longs 1) 2 ∷ show (el (longs 1) 3) ∷ el_becomes (longs 1) 3 (n 1) ∷
    show (at_place type.long (item (longs 1) (also (n 0) (one 0)))) ∷
    redim false (resize (variable (longs 1)) (also (n 2) (one 1)) None no_resizes) ∷
    redim true (resize (variable (longs 1)) (also (n 1) (one 4)) None no_resizes) ∷ show err ∷
    show (at_place type.variant (item (any 2) (one 0))) ∷ erase (an_array (variable (any 2)) no_arrays) ∷ show err ∷ []))

pub outside_bounds_is : told (meaning outside_bounds 50)
    ≡ (Ended, Raised (pos 9) ∷ Raised (pos 9) ∷ Raised (pos 9) ∷ Raised (pos 9) ∷ Raised (pos 9) ∷ Raised (pos 9) ∷ line (codes " 9 ") ∷ Raised (pos 450) ∷ Raised (pos 13) ∷ line (codes " 13 ") ∷ [])
unfolding digits
outside_bounds_is = refl

-- Dim v: ReDim v(1) ¶ ReDim v(1)(5) ¶ v(1)(5) = 7 ¶ Debug.Print v(1)(5) ¶ v(1)(F()) = 8, where F makes v a number: 9
abbrev gone : Project
gone = program (type.variant ∷ []) ((
  sub [],
  flat 0 (
      on_error skipped ∷ redim_to shared_variant 1 ∷ redim false (resize (item shared_variant (one 1)) (from_0 5) None no_resizes) ∷
      assign (element (item shared_variant (one 1)) (one 5)) (n 7) ∷ show (at_place type.variant (element (item shared_variant (one 1)) (one 5))) ∷
      assign (element (item shared_variant (one 1)) (also (e type.variant (call 1 no_args)) no_exprs)) (n 8) ∷ show (v shared_variant) ∷ []),
) ∷
    (sub [], flat 0 (becomes shared_variant (n 4) ∷ [])) ∷ [])

pub gone_is : told (meaning gone 50) ≡ (Ended, line (codes " 7 ") ∷ Raised (pos 9) ∷ line (codes " 4 ") ∷ [])
unfolding digits
gone_is = refl

-- ReDim Preserve keeps the elements, also of an array of two dimensions by their places; a type that is written stays
abbrev preserve : Project
preserve = main (long_array ∷ type.variant ∷ []) (flat 0 (
    on_error skipped ∷ redim false (resize (variable (longs 1)) (also (n 0) (also (n 1) (from_0 1))) None no_resizes) ∷
    assign (item (longs 1) (also (n 1) (one 1))) (n 6) ∷
    redim true (resize (variable (longs 1)) (also (n 0) (also (n 1) (from_0 2))) None no_resizes) ∷
    show (at_place type.long (item (longs 1) (also (n 1) (one 1)))) ∷ show (at_place type.long (item (longs 1) (also (n 1) (one 2)))) ∷
    redim true (resize (variable (any 2)) (from_0 1) None no_resizes) ∷
    redim false (resize (variable (any 2)) (from_0 1) (Some type.long) no_resizes) ∷
    redim true (resize (variable (any 2)) (from_0 2) None no_resizes) ∷ show (at_place type.variant (item (any 2) (one 2))) ∷
    redim true (resize (variable (any 2)) (from_0 3) (Some type.text) no_resizes) ∷ []))

pub preserve_is : told (meaning preserve 50) ≡ (Ended, line (codes " 6 ") ∷ line (codes " 0 ") ∷ Raised (pos 13) ∷ line (codes " 0 ") ∷ Raised (pos 13) ∷ [])
unfolding digits
preserve_is = refl

-- an array and a Type that are assigned are copies: b = a ¶ b(1) = 5 ¶ Debug.Print a(1); and the same in a Variant
abbrev copies : Project
copies = main (long_array ∷ long_array ∷ type.variant ∷ []) (flat 0 (
    redim_to (longs 1) 1 ∷ el_becomes (longs 1) 1 (n 3) ∷ assign (variable (longs 2)) (at_place long_array (variable (longs 1))) ∷
    assign (variable (any 3)) (at_place long_array (variable (longs 1))) ∷ el_becomes (longs 2) 1 (n 5) ∷ el_becomes (any 3) 1 (n 6) ∷
    show (el (longs 1) 1) ∷ show (el (longs 2) 1) ∷ show (el (any 3) 1) ∷ []))

pub copies_are : told (meaning copies 50) ≡ (Ended, line (codes " 3 ") ∷ line (codes " 5 ") ∷ line (codes " 6 ") ∷ [])
unfolding digits
copies_are = refl

-- an element of Long through two calls: Outer(ByRef x) calls Inner x, and Inner(ByRef y) writes True as a Long; the
-- type is that of the element, also where y is a Variant
abbrev two_calls : Project
two_calls = program (long_array ∷ []) (
    (sub [], flat 0 (redim_to (shared_longs 0) 1 ∷ do_call 1 (by_place (item (shared_longs 0) (one 1)) no_args) ∷ show (el (shared_longs 0) 1) ∷ [])) ∷
    (sub [], flat 0 (do_call 2 (by_place (variable (long 1)) no_args) ∷ [])) ∷
    (sub [], flat 0 (becomes (any 1) (e type.boolean (constant (boolean true))) ∷ show (v (any 1)) ∷ becomes (any 1) (plus (v (any 1)) (n 1)) ∷ [])) ∷ [])

pub two_calls_are : told (meaning two_calls 50) ≡ (Ended, line (codes "-1 ") ∷ line (codes " 0 ") ∷ [])
unfolding digits
two_calls_are = refl

-- For Each x In a ¶ a(1) = 9 ¶ Debug.Print x ¶ Next ¶ Debug.Print x: a copy is walked, and the variable keeps its last
-- value; the loop is over then, so its Next raises 92
abbrev each_walks : Project
each_walks = main (long_array ∷ type.variant ∷ []) (
    jumping 1 (redim_to (longs 1) 1) ∷ jumping 2 (el_becomes (longs 1) 0 (n 3)) ∷
    jumping 3 (for_each (any 2) (at_place long_array (variable (longs 1))) 3 6) ∷ jumping 4 (el_becomes (longs 1) 1 (n 9)) ∷
    jumping 5 (show (v (any 2))) ∷ jumping 6 (next_each (any 2) 2 3) ∷ jumping 7 (show (v (any 2))) ∷ jumping 8 (go_to 5) ∷ [])

pub each_walks_is : told (meaning each_walks 50) ≡ (fault 92 0 5, line (codes " 3 ") ∷ line (codes " 0 ") ∷ line (codes " 0 ") ∷ Raised (pos 92) ∷ [])
unfolding digits
each_walks_is = refl

-- Exit For; an array without storage; a value that is no array: On Error Resume Next ¶ For Each x In 5
abbrev each_ends : Project
each_ends = main (long_array ∷ type.variant ∷ []) (
    jumping 1 (on_error skipped) ∷ jumping 2 (for_each (any 2) (at_place long_array (variable (longs 1))) 2 4) ∷ jumping 3 (show (n 1)) ∷ jumping 4 (next_each (any 2) 1 2) ∷
    jumping 5 (redim_to (longs 1) 5) ∷ jumping 6 (for_each (any 2) (at_place long_array (variable (longs 1))) 6 9) ∷ jumping 7 (show (v (any 2))) ∷
    jumping 8 (exit_each 5 9) ∷ jumping 9 (next_each (any 2) 5 6) ∷
    jumping 10 (for_each (any 2) (n 5) 10 12) ∷ jumping 11 (show (n 2)) ∷ jumping 12 (next_each (any 2) 9 10) ∷ jumping 13 (show err) ∷ [])

pub each_ends_is : told (meaning each_ends 50) ≡ (Ended, line (codes " 0 ") ∷ Raised (pos 13) ∷ line (codes " 2 ") ∷ Raised (pos 92) ∷ line (codes " 92 ") ∷ [])
unfolding digits
each_ends_is = refl

-- a dot of a With block that wasn't begun raises 91, also after its End With
abbrev dots : Project
dots = with_types ((declare type.long ∷ []) ∷ []) (main (type.udt 0 ∷ []) (
    jumping 1 (on_error skipped) ∷ jumping 2 (go_to 3) ∷ jumping 3 (with_place (variable (of_type 1 (type.udt 0)))) ∷
    jumping 4 (show (at_place type.long (x_of (kept_place 2)))) ∷ jumping 5 (end_with 2) ∷ jumping 6 (show err) ∷
    jumping 7 (with_place (variable (of_type 1 (type.udt 0)))) ∷ jumping 8 (assign (x_of (kept_place 6)) (n 5)) ∷ jumping 9 (show (at_place type.long (x_of (variable (of_type 1 (type.udt 0)))))) ∷
    jumping 10 (end_with 6) ∷ jumping 11 (assign (x_of (kept_place 6)) (n 6)) ∷ []))

pub dots_are : told (meaning dots 50) ≡ (Ended, Raised (pos 91) ∷ line (codes " 91 ") ∷ line (codes " 5 ") ∷ Raised (pos 91) ∷ [])
unfolding digits
dots_are = refl

-- With F() ¶ .X = .X + 1 ¶ Debug.Print .X ¶ End With, where F gives a Type: the block keeps a copy, which is written;
-- Debug.Print F().X; G()(1); G()(1) = 3 and G()(7) = 3, where G gives an array
abbrev results : Project
results = with_types ((declare type.long ∷ []) ∷ []) (program [] ((
  sub [],
  flat 0 (
      on_error skipped ∷ with_value (e (type.udt 0) (call 1 no_args)) ∷ assign (x_of (kept_place 1)) (plus (at_place type.long (x_of (kept_place 1))) (n 1)) ∷
      show (at_place type.long (x_of (kept_place 1))) ∷ end_with 1 ∷ show (e type.long (field_value (e (type.udt 0) (call 1 no_args)) 0)) ∷
      show (e type.long (element_value (e long_array (call 2 no_args)) (one 1))) ∷
      assign_item (e long_array (call 2 no_args)) (one 1) (n 3) ∷
      assign_item (e long_array (call 2 no_args)) (one 7) (n 3) ∷ []),
) ∷
    (record (sub []) { result = declare (type.udt 0) }, flat 0 (assign (x_of (variable (of_type 0 (type.udt 0)))) (n 4) ∷ [])) ∷
    (record (sub []) { result = declare long_array }, flat 0 (redim_to (longs 0) 1 ∷ el_becomes (longs 0) 1 (n 8) ∷ [])) ∷ []))

pub results_are : told (meaning results 80) ≡ (Ended, line (codes " 5 ") ∷ line (codes " 4 ") ∷ line (codes " 8 ") ∷ Raised (pos 9) ∷ [])
unfolding digits
results_are = refl

-- String * 3 in a variable, a field and an element; each takes three units
abbrev three : type.Declared
three = type.fixed_text 3

abbrev fixed_texts : Project
fixed_texts = with_types ((declare three ∷ []) ∷ []) (program [] ((
  record (sub []) { locals = declare three ∷ declare (type.udt 0) ∷ declared_array three (up_to 0 ∷ []) ∷ [] },
  flat 0 (
      assign (variable (of_type 1 three)) (words (codes "a")) ∷
      assign (field (variable (of_type 2 (type.udt 0))) 0 three false) (words (codes "bcde")) ∷
      assign (item (fixed 3 three) (one 0)) (n 12) ∷
      print (shown (at_place three (variable (of_type 1 three))) (shown (at_place three (field (variable (of_type 2 (type.udt 0))) 0 three false)) (shown (at_place three (item (fixed 3 three) (one 0))) (shown (words (codes "|")) no_prints)))) true ∷ []),
) ∷ []))

pub fixed_texts_are : told (meaning fixed_texts 50) ≡ (Ended, line (codes "a  bcd12 |") ∷ [])
unfolding digits
fixed_texts_are = refl

-- a ParamArray is an array of copies: Work 4, g, where Work(ParamArray xs()) writes xs(1)
abbrev many : Project
many = program (type.long ∷ []) (
    (sub [], flat 0 (becomes (global 0) (n 1) ∷ do_call 1 (by_list (also (n 4) (also (v (global 0)) no_exprs)) no_args) ∷ show (v (global 0)) ∷ [])) ∷ (
      sub [],
      flat 0 (
          el_becomes (of_type 1 (type.array_of type.variant)) 1 (n 8) ∷ show (el (of_type 1 (type.array_of type.variant)) 0) ∷ show (el (of_type 1 (type.array_of type.variant)) 1) ∷
          show (el (of_type 1 (type.array_of type.variant)) 2) ∷ []),
    ) ∷ [])

pub many_are : told (meaning many 50) ≡ (fault 9 1 3, line (codes " 4 ") ∷ line (codes " 8 ") ∷ Raised (pos 9) ∷ [])
unfolding digits
many_are = refl

-- ReDim a(1048576)
pub too_many_is : told (meaning (main (long_array ∷ []) (flat 0 (redim_to (longs 1) 1048576 ∷ []))) 50) ≡ (Stopped (outside Elements) 0 (Some 0), [])
too_many_is = refl

-- ReDim a(1), b(2): one after the other; a ReDim through a Variant parameter keeps the type of the elements
abbrev several : Project
several = program [] ((
  sub (long_array ∷ type.variant ∷ []),
  flat 0 (
      redim false (resize (variable (longs 1)) (from_0 1) None (resize (variable (any 2)) (from_0 2) None no_resizes)) ∷
      do_call 1 (by_place (variable (longs 1)) no_args) ∷ show (el (longs 1) 4) ∷ erase (an_array (variable (longs 1)) (an_array (variable (any 2)) no_arrays)) ∷
      show (el (any 2) 0) ∷ []),
) ∷
    (sub [], flat 0 (redim_to (any 1) 4 ∷ [])) ∷ [])

pub several_are : told (meaning several 50) ≡ (fault 9 0 4, line (codes " 0 ") ∷ Raised (pos 9) ∷ [])
unfolding digits
several_are = refl

-- Type Q: N As Long, R() As Long; Dim q As Q, w As Q (of the module): while an element of q.R is lent q can't be
-- written whole; q.N can. A field of the module's Type is lent, and q is written whole
abbrev q_type : List Declaration
q_type = declare type.long ∷ declare long_array ∷ []

abbrev shared_type : ℕ → Lvalue
shared_type i = variable (record { storage = shared i; of = type.udt 0; bounded = false })

abbrev r_of : Lvalue → Lvalue
r_of place = field place 1 long_array false

abbrev types_lock : Project
types_lock = with_types (q_type ∷ []) (program (type.udt 0 ∷ type.udt 0 ∷ []) ((
  sub [],
  flat 0 (
      on_error skipped ∷ redim false (resize (r_of (shared_type 0)) (from_0 2) None no_resizes) ∷
      do_call 1 (by_place (element (r_of (shared_type 0)) (one 2)) no_args) ∷ show err ∷ show (at_place type.long (x_of (shared_type 0))) ∷
      do_call 2 (by_place (x_of (shared_type 0)) no_args) ∷ show (at_place type.long (element (r_of (shared_type 0)) (one 2))) ∷ []),
) ∷
    (sub [], flat 0 (becomes (long 1) (n 6) ∷ assign (x_of (shared_type 0)) (n 4) ∷ assign (shared_type 0) (at_place (type.udt 0) (shared_type 1)) ∷ [])) ∷
    (sub [], flat 0 (assign (shared_type 0) (at_place (type.udt 0) (shared_type 1)) ∷ show (v (long 1)) ∷ [])) ∷ []))

pub types_lock_is : told (meaning types_lock 50) ≡ (Ended, Raised (pos 10) ∷ line (codes " 10 ") ∷ line (codes " 4 ") ∷ line (codes " 0 ") ∷ Raised (pos 9) ∷ [])
unfolding digits
types_lock_is = refl

-- ReDim u(1).R(F()), where F does ReDim u(0): the place is gone, 9; Erase while an element is lent: 10
abbrev q_array : Variable
q_array = record { storage = shared 0; of = type.array_of (type.udt 0); bounded = false }

abbrev place_gone : Project
place_gone = with_types (q_type ∷ []) (program (type.array_of (type.udt 0) ∷ []) ((
  sub [],
  flat 0 (
      on_error skipped ∷ redim_to q_array 1 ∷ redim false (resize (r_of (item q_array (one 1))) (also (n 0) (also (e type.variant (call 1 no_args)) no_exprs)) None no_resizes) ∷
      show err ∷ do_call 2 (by_place (item q_array (one 0)) no_args) ∷ show err ∷ []),
) ∷
    (sub [], flat 0 (redim_to q_array 0 ∷ becomes (any 0) (n 3) ∷ [])) ∷
    (sub [], flat 0 (erase (an_array (variable q_array) no_arrays) ∷ [])) ∷ []))

pub place_gone_is : told (meaning place_gone 50) ≡ (Ended, Raised (pos 9) ∷ line (codes " 9 ") ∷ Raised (pos 10) ∷ line (codes " 10 ") ∷ [])
unfolding digits
place_gone_is = refl
