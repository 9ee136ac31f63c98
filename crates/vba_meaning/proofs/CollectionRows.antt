-- Worked rows of Collections.
use Rattle.std.specs.Prelude.{◌≡◌, ℕ, pos, List, [], ◌∷◌, codes, true, false, refl, None}
use Rattle.std.specs.Fmt.{digits}
use Rattle.caseless.proofs.Computing.{caseless}
use Rattle.currency.specs.HalfEven.{nearest}
use Rattle.currency.specs.NumberText.{read, read_digits}
use Rattle.currency.specs.Printed.{printed}
use Rattle.vba_base.specs.Fold.{folded}
use Rattle.vba_values.specs.Arithmetic.{division}
use Rattle.vba_values.specs.declared.object.ObjRef.TheVariants.{Nothing}
use Rattle.vba_values.specs.declared.types.Compare.TheVariants.{Binary}
use Rattle.vba_values.specs.declared.types.OpKind.TheVariants as op
use Rattle.vba_values.specs.Types as type
use Rattle.vba_values.specs.Val.{object}
use Rattle.vba_lib.specs.declared.function.LibraryFunction.TheVariants as function
use Rattle.bound_project.specs.Expressions.{Variable, Expr, not_given, constant, load, load_made, call, new_object, default_of, host_member, named_member, same, is_type, library, Lvalue, variable, item, element, object_field, as_new, Exprs, no_exprs, also, no_args, no_prints, shown}
use Rattle.bound_project.specs.Statements.{Action, set, assign, assign_member, evaluate, print, for_to, next, for_each, next_each, test, with_place, end_with, skipped, passed_on, on_error}
use Rattle.bound_project.specs.Project.{Project, nowhere}
use Rattle.vba_meaning.specs.Memory.{Ended}
use Rattle.vba_meaning.specs.Effects.{Raised, Init, Term}
use Rattle.vba_meaning.proofs.Programs.{meaning, e, n, words, two, long, any, v, err, show, becomes, declare, sub, flat, jumping, program, main, told, line, fault, of_type}
use Rattle.vba_meaning.proofs.ObjectRows.{a_class, with_class}

-- the first local variable, As New Collection, and one that has a Collection
abbrev made : Expr
made = e type.collection (load_made (as_new 0 (variable (of_type 1 type.collection))))

abbrev c : Expr
c = v (of_type 1 type.collection)

abbrev new_collection : Expr
new_collection = e type.collection (new_object 0)

abbrev nothing : Expr
nothing = e type.object (constant (object Nothing))

abbrev left_out : Expr
left_out = e type.variant not_given

-- members
abbrev one : Expr → Exprs
one a = also a no_exprs

abbrev pair : Expr → Expr → Exprs
pair a b = also a (one b)

abbrev four : Expr → Expr → Expr → Expr → Exprs
four a b d f = also a (also b (pair d f))

abbrev member : Expr → List ℕ → Exprs → Expr
member a name es = e type.variant (host_member a name es)

abbrev add : Expr → Exprs → Action
add a es = evaluate (member a (codes "add") es)

abbrev item_in : Expr → Expr → Expr
item_in a index = member a (codes "item") (one index)

abbrev count_of : Expr → Expr
count_of a = member a (codes "count") no_exprs

abbrev remove : Expr → Expr → Action
remove a index = evaluate (member a (codes "remove") (one index))

-- all items from the first to the third on a line
abbrev show_three : Expr → Action
show_three a = print (shown (item_in a (n 1)) (shown (item_in a (n 2)) (shown (item_in a (n 3)) no_prints))) true

-- Dim c As New Collection ¶ c.Add 7, "K" ¶ c.Add 8, , 1 ¶ Debug.Print c(1); c("k"); c.Count ¶ c.Add 9, "k"
abbrev keyed : Project
keyed = main (type.collection ∷ []) (flat 0 (
    add made (pair (n 7) (words (codes "K"))) ∷ add made (also (n 8) (pair left_out (n 1))) ∷
    print (shown (item_in made (n 1)) (shown (item_in made (words (codes "k"))) (shown (count_of made) no_prints))) true ∷ add made (pair (n 9) (words (codes "k"))) ∷ []))

keyed_is : told (meaning keyed 50) ≡ (fault 457 0 3, line (codes " 8  7  2 ") ∷ Raised (pos 457) ∷ [])
unfolding digits folded caseless
keyed_is = refl

-- On Error Resume Next ¶ Set c = New Collection ¶ c.Add 1, "a" ¶ c.Add 2, "a", 1, 1: 5 ¶ c.Add 2, "A", 7: 457 ¶ c.Add 2, , "b": 5
-- ¶ c.Add 2, , , 2: 9 ¶ c.Add 2, , 0: 9 ¶ Debug.Print c("b"): 5 ¶ Debug.Print c(2): 9 ¶ c.Remove 0: 9 ¶ Debug.Print c.Count
abbrev refused : Project
refused = main (type.collection ∷ []) (flat 0 (
    on_error skipped ∷ set (variable (of_type 1 type.collection)) new_collection ∷ add c (pair (n 1) (words (codes "a"))) ∷ add c (four (n 2) (words (codes "a")) (n 1) (n 1)) ∷
    add c (also (n 2) (pair (words (codes "A")) (n 7))) ∷ add c (also (n 2) (pair left_out (words (codes "b")))) ∷ add c (four (n 2) left_out left_out (n 2)) ∷
    add c (also (n 2) (pair left_out (n 0))) ∷ show (item_in c (words (codes "b"))) ∷ show (item_in c (n 2)) ∷ remove c (n 0) ∷ show (count_of c) ∷ []))

refused_are : told (meaning refused 50) ≡ (
  Ended,
  Raised (pos 5) ∷ Raised (pos 457) ∷ Raised (pos 5) ∷ Raised (pos 9) ∷ Raised (pos 9) ∷ Raised (pos 5) ∷ Raised (pos 9) ∷ Raised (pos 9) ∷ line (codes " 1 ") ∷ [],
)
unfolding digits folded caseless
refused_are = refl

-- before arguments are evaluated: 438 where there is no such member, 449 and 450 for too few and too many arguments; then
-- 449 where the item is left out
abbrev half : Expr
half = two op.IntDiv type.integer (n 1) (n 0)

abbrev fitting : Project
fitting = main (type.collection ∷ []) (flat 0 (
    on_error skipped ∷ set (variable (of_type 1 type.collection)) new_collection ∷ show (member c (codes "nope") (one half)) ∷ add c no_exprs ∷ add c (also half (four half half half half)) ∷
    show (member c (codes "count") (one half)) ∷ show (member c (codes "item") (pair half half)) ∷ show (member c (codes "item") no_exprs) ∷ show (item_in c half) ∷
    add c (pair left_out (n 1)) ∷ show (default c) ∷ [])) where
      default : Expr → Expr
      default a = e type.variant (default_of a)

fitting_is : told (meaning fitting 60) ≡ (
  Ended,
  Raised (pos 438) ∷ Raised (pos 449) ∷ Raised (pos 450) ∷ Raised (pos 450) ∷ Raised (pos 450) ∷ Raised (pos 449) ∷ Raised (pos 11) ∷ Raised (pos 449) ∷ Raised (pos 449) ∷ [],
)
unfolding division digits folded caseless
fitting_is = refl

-- places and keys: c.Add 1, 5 ¶ c.Add 2, , , 1 ¶ c.Add Item:=3, After:=1 ¶ Debug.Print c(1); c(2); c(3) ¶ Debug.Print c("5")
-- ¶ c.Add 4, Before:="5" ¶ c.Remove Index:="5" ¶ Debug.Print c(1); c(2); c(3) ¶ c.Add 9, "5" ¶ Debug.Print c.Count
-- ¶ c.Add 1, Nope:=1: 450 ¶ c.Add Key:="q": 449
abbrev named : Expr → List ℕ → (before : ℕ) → List (List ℕ) → Exprs → Action
named a name before names es = evaluate (e type.variant (named_member a name (record { before = before; names = names }) es))

abbrev placed : Project
placed = main (type.collection ∷ []) (flat 0 (
    on_error skipped ∷ set (variable (of_type 1 type.collection)) new_collection ∷ add c (pair (n 1) (n 5)) ∷ add c (four (n 2) left_out left_out (n 1)) ∷
    named c (codes "add") 0 (codes "item" ∷ codes "after" ∷ []) (pair (n 3) (n 1)) ∷ show_three c ∷ show (item_in c (words (codes "5"))) ∷
    named c (codes "add") 1 (codes "before" ∷ []) (pair (n 4) (words (codes "5"))) ∷ named c (codes "remove") 0 (codes "index" ∷ []) (one (words (codes "5"))) ∷ show_three c ∷
    add c (pair (n 9) (words (codes "5"))) ∷ show (count_of c) ∷ named c (codes "add") 1 (codes "nope" ∷ []) (pair half half) ∷ named c (codes "add") 0 (codes "key" ∷ []) (one half) ∷ []))

placed_is : told (meaning placed 60) ≡ (
  Ended,
  line (codes " 1  3  2 ") ∷ line (codes " 1 ") ∷ line (codes " 4  3  2 ") ∷ line (codes " 4 ") ∷ Raised (pos 450) ∷ Raised (pos 449) ∷ [],
)
unfolding digits folded caseless
placed_is = refl

-- ---- For Each

-- For Each x In c ¶ Debug.Print x ¶ If c.Count < 3 Then c.Add x + 1 ¶ Next x: the Collection is walked as it then is
abbrev growing : Project
growing = main (type.collection ∷ type.variant ∷ []) (
    jumping 1 (set (variable (of_type 1 type.collection)) new_collection) ∷ jumping 2 (add c (one (n 1))) ∷ jumping 3 (for_each (any 2) c 3 7) ∷ jumping 4 (show (v (any 2))) ∷
    jumping 6 (test true (two op.Lt type.boolean (count_of c) (n 3)) 5 6) ∷ jumping 6 (add c (one (two op.Add type.variant (v (any 2)) (n 1)))) ∷ jumping 7 (next_each (any 2) 2 3) ∷ [])

growing_is : told (meaning growing 60) ≡ (Ended, line (codes " 1 ") ∷ line (codes " 2 ") ∷ line (codes " 3 ") ∷ [])
unfolding digits folded caseless
growing_is = refl

-- For Each x In New Collection, In New T, and In c.[_NewEnum], which is c itself
abbrev walking : Expr → Project
walking a = with_class (a_class [] None None) (program [] ((
  sub (type.collection ∷ type.variant ∷ []),
  jumping 1 (on_error skipped) ∷ jumping 2 (set (variable (of_type 1 type.collection)) new_collection) ∷ jumping 3 (add c (one (n 5))) ∷
      jumping 4 (for_each (any 2) a 4 6) ∷ jumping 5 (show (v (any 2))) ∷ jumping 6 (next_each (any 2) 3 4) ∷ jumping 7 (show err) ∷ [],
) ∷ []))

walks_none : told (meaning (walking new_collection) 50) ≡ (Ended, line (codes " 0 ") ∷ [])
unfolding digits folded caseless
walks_none = refl

walks_no_instance : told (meaning (walking (e type.variant (new_object 1))) 50) ≡
    (Ended, Init 1 2 ∷ Raised (pos 438) ∷ Term 1 2 ∷ line (codes "") ∷ Raised (pos 92) ∷ line (codes " 92 ") ∷ [])
unfolding digits folded caseless
walks_no_instance = refl

walks_itself : told (meaning (walking (member c (codes "_newenum") no_exprs)) 50) ≡ (Ended, line (codes " 5 ") ∷ line (codes " 0 ") ∷ [])
unfolding digits folded caseless
walks_itself = refl

-- ---- letting go

-- c.Add New T ¶ c.Add New T ¶ Debug.Print "go" ¶ Set c = Nothing ¶ Debug.Print "gone": the items are let go in order, and of
-- the Collection nothing is told
abbrev new_instance : Expr
new_instance = e (type.class 1) (new_object 1)

abbrev with_two : List Action → Project
with_two actions = with_class (a_class [] None None) (program [] ((
  sub (type.variant ∷ []),
  flat 0 (set (variable (any 1)) new_collection ∷ add (v (any 1)) (one new_instance) ∷ add (v (any 1)) (one new_instance) ∷ actions),
) ∷ (sub [], flat 0 (show (words (codes "called")) ∷ [])) ∷ []))

let_go : told (meaning (with_two (show (words (codes "go")) ∷ set (variable (any 1)) nothing ∷ show (words (codes "gone")) ∷ [])) 60) ≡
    (Ended, Init 1 2 ∷ Init 1 3 ∷ line (codes "go") ∷ Term 1 2 ∷ Term 1 3 ∷ line (codes "gone") ∷ [])
unfolding folded caseless
let_go = refl

-- Debug.Print x.Remove(1); F(): the item goes inside the statement, before F is called
removed : told (meaning (with_two (print (shown (member (v (any 1)) (codes "remove") (one (n 1))) (shown (e type.variant (call 1 no_args)) no_prints)) true ∷ show (count_of (v (any 1))) ∷ [])) 60) ≡
    (Ended, Init 1 2 ∷ Init 1 3 ∷ Term 1 2 ∷ line (codes "called") ∷ line (codes "") ∷ line (codes " 1 ") ∷ Term 1 3 ∷ [])
unfolding digits folded caseless
removed = refl

-- With x(1) ¶ x.Remove 1 ¶ Debug.Print "kept" ¶ End With ¶ Debug.Print "out": the block keeps the item
kept_by_with : told (meaning (with_two (
    with_place (item (any 1) (one (n 1))) ∷ remove (v (any 1)) (n 1) ∷ show (words (codes "kept")) ∷ end_with 3 ∷ show (words (codes "out")) ∷ [])) 60) ≡
    (Ended, Init 1 2 ∷ Init 1 3 ∷ line (codes "kept") ∷ Term 1 2 ∷ line (codes "out") ∷ Term 1 3 ∷ [])
unfolding folded caseless
kept_by_with = refl

-- ---- a Collection that a Variant has

-- x.Add 7, "k" ¶ x.Add Array(4, 6) ¶ Debug.Print x(1); x("K"); x(2)(1) ¶ x(2)(1) = 5 ¶ Debug.Print x(2)(1) ¶ x(1) = 5: 424
-- ¶ x.Item(1) = 5: 424 ¶ x.Count = 5: 438 ¶ Set x(1) = x: 438 ¶ x = 5 writes the default member of no object, so x is 5
abbrev x : Expr
x = v (any 1)

abbrev at : Exprs → Expr
at es = e type.variant (load (item (any 1) es))

abbrev late : Project
late = main (type.variant ∷ []) (flat 0 (
    on_error skipped ∷ set (variable (any 1)) new_collection ∷ add x (pair (n 7) (words (codes "k"))) ∷ add x (one (e type.variant (library function.Array false (pair (n 4) (n 6)) Binary (pos 0)))) ∷
    print (shown (at (one (n 1))) (shown (at (one (words (codes "K")))) (shown second no_prints))) true ∷ assign (element (item (any 1) (one (n 2))) (one (n 1))) (n 5) ∷ show second ∷
    assign (item (any 1) (one (n 1))) (n 5) ∷ assign_member x (codes "item") (one (n 1)) (n 5) ∷ assign_member x (codes "count") no_exprs (n 5) ∷ set (item (any 1) (one (n 1))) x ∷
    show (e type.text (library function.TypeName false (one x) Binary (pos 0))) ∷ show (e type.boolean (is_type x type.collection)) ∷ show (e type.boolean (same x nothing)) ∷
    show (e type.text (library function.TypeName false (one (e type.variant (load (item (any 1) (one (n 2)))))) Binary (pos 0))) ∷ [])) where
      second : Expr
      second = e type.variant (load (element (item (any 1) (one (n 2))) (one (n 1))))

late_is : told (meaning late 80) ≡ (
  Ended,
  line (codes " 7  7  6 ") ∷ line (codes " 6 ") ∷ Raised (pos 424) ∷ Raised (pos 424) ∷ Raised (pos 438) ∷ Raised (pos 438) ∷
      line (codes "Collection") ∷ line (codes "True") ∷ line (codes "False") ∷ line (codes "Variant()") ∷ [],
)
unfolding digits folded caseless
late_is = refl

-- ---- all together

-- customers that are summed up by name: Dim found As New Collection, c As Customer, r As Long ¶ Set o = Nothing ¶ Set o = Nothing
-- ¶ For r = 2 To 3 ¶ Set c = Nothing ¶ On Error Resume Next ¶ Set c = found(CStr(r)) ¶ On Error GoTo 0 ¶ If c Is Nothing Then
-- ¶ Set c = New Customer ¶ c.Id = CStr(r) ¶ found.Add c, c.Id ¶ End If ¶ c.Total = c.Total + r ¶ Next r ¶ r = 1
-- ¶ For Each c In found ¶ Debug.Print c.Id ¶ Debug.Print c.Total ¶ r = r + 1 ¶ Next c ¶ Debug.Print "customers:"; found.Count.
-- Of N rows with K customers it begins 7N + 9K + 8 turns
abbrev found : Expr
found = e type.collection (load_made (as_new 0 (variable (of_type 1 type.collection))))

abbrev customer : Variable
customer = of_type 2 (type.class 1)

abbrev field_of : ℕ → type.Declared → Lvalue
field_of i of = object_field (v customer) i of false

abbrev id_of : Expr
id_of = e type.text (load (field_of 0 type.text))

abbrev total_of : Expr
total_of = e type.currency (load (field_of 1 type.currency))

abbrev row_text : Expr
row_text = e type.text (library function.CStr false (one (v (long 3))) Binary (pos 0))

abbrev summed : Project
summed = with_class (a_class (declare type.text ∷ declare type.currency ∷ []) None None) (program [] ((
  sub (type.collection ∷ type.class 1 ∷ type.long ∷ type.object ∷ []),
  jumping 1 (set (variable (of_type 4 type.object)) nothing) ∷ jumping 2 (set (variable (of_type 4 type.object)) nothing) ∷ jumping 3 (for_to (long 3) Binary (n 2) (n 3) (n 1) nowhere None 3 13) ∷
      jumping 4 (set (variable customer) nothing) ∷ jumping 5 (on_error skipped) ∷ jumping 6 (set (variable customer) (item_in found row_text)) ∷ jumping 7 (on_error passed_on) ∷
      jumping 8 (test true (e type.boolean (same (v customer) nothing)) 8 11) ∷ jumping 9 (set (variable customer) new_instance) ∷ jumping 10 (assign (field_of 0 type.text) row_text) ∷
      jumping 11 (add found (pair (v customer) id_of)) ∷ jumping 12 (assign (field_of 1 type.currency) (two op.Add type.currency total_of (v (long 3)))) ∷ jumping 13 (next (long 3) 2 3) ∷
      jumping 14 (becomes (long 3) (n 1)) ∷ jumping 15 (for_each customer found 15 19) ∷ jumping 16 (show id_of) ∷ jumping 17 (show total_of) ∷
      jumping 18 (becomes (long 3) (two op.Add type.long (v (long 3)) (n 1))) ∷ jumping 19 (next_each customer 14 15) ∷
      jumping 20 (print (shown (words (codes "customers:")) (shown (count_of found) no_prints)) true) ∷ [],
) ∷ []))

summed_up : told (meaning summed 60) ≡ (
  Ended,
  Raised (pos 5) ∷ Init 1 2 ∷ Raised (pos 5) ∷ Init 1 3 ∷ line (codes "2") ∷ line (codes " 2 ") ∷ line (codes "3") ∷ line (codes " 3 ") ∷ line (codes "customers: 2 ") ∷
      Term 1 2 ∷ Term 1 3 ∷ [],
)
unfolding printed digits nearest read read_digits folded caseless
summed_up = refl

-- with N and K 2 that is 40
all_turns : (meaning summed 60).state.begun ≡ 40
unfolding printed digits nearest read read_digits folded caseless
all_turns = refl
