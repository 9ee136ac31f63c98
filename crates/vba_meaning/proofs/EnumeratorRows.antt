-- Worked rows of For Each over objects of classes.
use Rattle.std.specs.Prelude.{◌≡◌, ℕ, pos, List, [], ◌∷◌, codes, false, refl, Option, Some, None}
use Rattle.std.specs.Fmt.{digits}
use Rattle.vba_values.specs.Types as type
use Rattle.bound_project.specs.Expressions.{own, Expr, load_made, call, enumerated, host_member, new_object, also, no_exprs, variable, as_new, no_args, none_given, expr_given}
use Rattle.bound_project.specs.Statements.{Action, Statement, set, evaluate, for_each, next_each, skipped, on_error, set_late}
use Rattle.bound_project.specs.Project.{Project, Procedure, Member, is_variable, is_procedure, is_property, Class, is_get, is_function}
use Rattle.vba_meaning.specs.Memory.{Ended}
use Rattle.vba_meaning.specs.Effects.{Raised, Init, Term}
use Rattle.vba_meaning.proofs.Programs.{meaning, e, n, words, any, v, show, declare, sub, flat, program, told, line, of_type}
use Rattle.vba_meaning.proofs.ObjectRows.{with_class, new, nothing}
use Rattle.vba_meaning.proofs.LateRows.{named, of_members, takes, procedure_of, o, do_late}

-- a class with this enumerator
abbrev enumerates : Option Member → Class → Class
enumerates x c = record c { enumerator = x }

-- the object's first variable, As New Collection
abbrev items : Expr
items = e type.collection (load_made (as_new 0 (variable (record { storage = own 0; of = type.collection; bounded = false }))))

-- Class L: a Collection, Sub Add(ByVal x) which adds x to it, and the enumerator: Property Get NewEnum(), which gives its
-- [_NewEnum]
abbrev a_list : Class
a_list = enumerates (Some (is_property (Some 2) None None)) (of_members (declare type.collection ∷ []) (named (codes "add") (is_procedure 1) ∷ []) None)

abbrev add_item : Procedure × List Statement
add_item = (
  procedure_of (sub []) (takes (codes "x") type.variant false ∷ []) type.variant,
  flat 0 (evaluate (e type.variant (host_member items (codes "add") (also (v (any 1)) no_exprs))) ∷ []),
)

abbrev new_enum : Procedure × List Statement
new_enum = (procedure_of (record (sub []) { kind = is_get }) [] type.object, flat 0 (set (variable (of_type 0 type.object)) (e type.variant (host_member items (codes "_newenum") no_exprs)) ∷ []))

abbrev walk : Expr → (inside behind : ℕ) → Action
walk a inside behind = for_each (any 2) (e type.object (enumerated a)) inside behind

abbrev add_late : ℕ → Action
add_late k = do_late (codes "add") (expr_given (n k) none_given) 1

-- Dim o As Object, v ¶ Set o = New L ¶ o.Add 3 ¶ o.Add 4 ¶ For Each v In o ¶ Debug.Print v ¶ Next v
abbrev walked_list : Project
walked_list = with_class a_list (program [] (
    (sub (type.object ∷ type.variant ∷ []), flat 0 (set (variable o) new ∷ add_late 3 ∷ add_late 4 ∷ walk (v o) 4 6 ∷ show (v (any 2)) ∷ next_each (any 2) 3 4 ∷ [])) ∷ add_item ∷ new_enum ∷ []))

pub walked_list_is : told (meaning walked_list 50) ≡ (Ended, Init 1 1 ∷ line (codes " 3 ") ∷ line (codes " 4 ") ∷ Term 1 1 ∷ [])
unfolding digits
walked_list_is = refl

-- For Each v In Made() ¶ Debug.Print v ¶ Next v, where Made gives a new L with the item 3: the object ends with the header, and
-- its Collection is walked
abbrev walked_alone : Project
walked_alone = with_class a_list (program [] (
    (sub (type.object ∷ type.variant ∷ []), flat 0 (walk (e type.object (call 3 no_args)) 1 3 ∷ show (v (any 2)) ∷ next_each (any 2) 0 1 ∷ [])) ∷ add_item ∷ new_enum ∷
    (procedure_of (record (sub (type.object ∷ [])) { kind = is_function }) [] type.object, flat 0 (set (variable o) new ∷ add_late 3 ∷ set (variable (of_type 0 type.object)) (v o) ∷ [])) ∷ []))

pub walked_alone_is : told (meaning walked_alone 50) ≡ (Ended, Init 1 1 ∷ Term 1 1 ∷ line (codes " 3 ") ∷ [])
unfolding digits
walked_alone_is = refl

-- Class V: Public E, its enumerator. For Each v In o, where o.E is Empty, o and a Collection; For Each v In Nothing and In 5
abbrev set_e : Expr → Action
set_e a = set_late (v o) (codes "e") (record { before = 0; names = [] }) none_given a

abbrev given_by_variable : Project
given_by_variable = with_class (enumerates (Some (is_variable 0 None)) (of_members (declare type.variant ∷ []) (named (codes "e") (is_variable 0 None) ∷ []) None)) (program [] ((
  sub (type.object ∷ type.variant ∷ []),
  flat 0 (
      set (variable o) new ∷ on_error skipped ∷ walk (v o) 3 3 ∷ set_e (v o) ∷ walk (v o) 5 5 ∷ set_e (e type.collection (new_object 0)) ∷ walk (v o) 7 7 ∷ show (words (codes "walked")) ∷
      set (variable o) nothing ∷ walk (v o) 10 10 ∷ walk (n 5) 11 11 ∷ []),
) ∷ []))

pub given_by_variable_is : told (meaning given_by_variable 50)
    ≡ (Ended, Init 1 1 ∷ Raised (pos 438) ∷ Raised (pos 438) ∷ line (codes "walked") ∷ Term 1 1 ∷ Raised (pos 91) ∷ Raised (pos 13) ∷ [])
given_by_variable_is = refl

-- an object of a class without an enumerator
abbrev no_enumerator : Project
no_enumerator = with_class (of_members [] [] None) (program [] ((sub (type.object ∷ type.variant ∷ []), flat 0 (set (variable o) new ∷ on_error skipped ∷ walk (v o) 3 3 ∷ [])) ∷ []))

pub no_enumerator_is : told (meaning no_enumerator 50) ≡ (Ended, Init 1 1 ∷ Raised (pos 438) ∷ Term 1 1 ∷ [])
no_enumerator_is = refl
