-- Worked rows of members of classes that are found in the run, and of default members.
use Rattle.std.specs.Prelude.{◌≡◌, ℕ, pos, List, [], ◌∷◌, codes, Bool, true, false, refl, Option, Some, None}
use Rattle.std.specs.Fmt.{digits}
use Rattle.vba_values.specs.declared.types.OpKind.TheVariants as op
use Rattle.vba_values.specs.Types.{Declared}
use Rattle.vba_values.specs.Types as type
use Rattle.bound_project.specs.Expressions.{own, Variable, Expr, load_made, default_of, late_member, late_item, method, same, Given, none_given, place_given, expr_given, variable, as_new, no_args, by_copy, also, no_exprs}
use Rattle.bound_project.specs.Statements.{Action, set, assign, evaluate, skipped, on_error, assign_through, assign_element, assign_late, set_late}
use Rattle.bound_project.specs.Project.{Project, Declaration, Procedure, Parameter, Member, is_variable, is_procedure, is_property, Named, Class, is_get, is_let}
use Rattle.vba_meaning.specs.Memory.{Ended}
use Rattle.vba_meaning.specs.Effects.{Raised, Init, Term}
use Rattle.vba_meaning.proofs.Programs.{meaning, e, n, two, err, v, show, declare, sub, flat, program, told, line, of_type}
use Rattle.vba_meaning.proofs.ObjectRows.{a_class, with_class, new, nothing, x}

abbrev pub named : List ℕ → Member → Named
named name member = record { fold = name; member = member }

-- a class with these public members and this default member
abbrev pub of_members : List Declaration → List Named → Option Member → Class
of_members fields members default = record (a_class fields None None) { members = members; default = default }

abbrev pub takes : List ℕ → Declared → (by_reference : Bool) → Parameter
takes name of by_reference = record { name = record { spelling = name; fold = name }; of = of; by_reference = by_reference; default = None; many = false }

abbrev pub procedure_of : Procedure → List Parameter → Declared → Procedure
procedure_of p qs of = record p { parameters = qs; result = declare of }

-- an object in a variable of type Object, and a call of its member
abbrev pub o : Variable
o = of_type 1 type.object

abbrev pub call_late : List ℕ → Given → ℕ → List (List ℕ) → Expr
call_late name given before names = e type.variant (late_member (v o) name (record { before = before; names = names }) given)

abbrev pub do_late : List ℕ → Given → ℕ → Action
do_late name given before = evaluate (call_late name given before [])

abbrev pub operand : Expr → Expr
operand a = e type.variant (default_of a)

abbrev pub item_of : Expr → ℕ → Expr
item_of a k = e type.variant (late_item a (also (n k) no_exprs))

abbrev pub my : Declared → Variable
my of = record { storage = own 0; of = of; bounded = false }

-- Class Q: Public Sub Act(ByVal n As Long). o.Nope ¶ o.Act ¶ o.Act 1, 2, each behind On Error Resume Next
abbrev no_such_call : Project
no_such_call = with_class (of_members [] (named (codes "act") (is_procedure 1) ∷ []) None) (program [] ((
  sub (type.object ∷ []),
  flat 0 (
      set (variable o) new ∷ on_error skipped ∷ do_late (codes "nope") none_given 0 ∷ show err ∷ do_late (codes "act") none_given 0 ∷ show err ∷
      do_late (codes "act") (expr_given (n 1) (expr_given (n 2) none_given)) 2 ∷ show err ∷ []),
) ∷
    (procedure_of (sub []) (takes (codes "n") type.long false ∷ []) type.variant, []) ∷ []))

pub no_such_call_is : told (meaning no_such_call 50)
    ≡ (Ended, Init 1 1 ∷ Raised (pos 438) ∷ line (codes " 438 ") ∷ Raised (pos 449) ∷ line (codes " 449 ") ∷ Raised (pos 450) ∷ line (codes " 450 ") ∷ Term 1 1 ∷ [])
unfolding digits
no_such_call_is = refl

-- Class Bag: Property Get Item(ByVal k As Long) As Long, its default member, gives k * 2
abbrev bag : List Declared → List Action → Project
bag locals actions = with_class (of_members [] (named (codes "item") (is_property (Some 1) None None) ∷ []) (Some (is_property (Some 1) None None))) (program [] (
    (sub locals, flat 0 actions) ∷ (
      procedure_of (record (sub []) { kind = is_get }) (takes (codes "k") type.long false ∷ []) type.long,
      flat 0 (assign (variable (of_type 0 type.long)) (two op.Mul type.long (v (of_type 1 type.long)) (n 2)) ∷ []),
    ) ∷ []))

-- Dim b As New Bag ¶ Debug.Print b(21)
abbrev early_item : Project
early_item = bag (type.class 1 ∷ []) (show (e type.long (method (e (type.class 1) (load_made (as_new 1 (variable (x 1))))) 1 (by_copy (n 21) type.long no_args))) ∷ [])

pub early_item_is : told (meaning early_item 50) ≡ (Ended, Init 1 1 ∷ line (codes " 42 ") ∷ Term 1 1 ∷ [])
unfolding digits
early_item_is = refl

-- the same of an Object, by its name, with the name of the argument, and without arguments
abbrev late_items : Project
late_items = bag (type.object ∷ []) (
    set (variable o) new ∷ show (item_of (v o) 21) ∷ show (call_late (codes "item") (expr_given (n 4) none_given) 1 []) ∷ show (call_late (codes "item") (expr_given (n 5) none_given) 0 (codes "k" ∷ [])) ∷
    on_error skipped ∷ show (operand (v o)) ∷ show err ∷ evaluate (call_late (codes "item") (expr_given (n 5) none_given) 0 (codes "j" ∷ [])) ∷ show err ∷ [])

pub late_items_is : told (meaning late_items 50)
    ≡ (Ended, Init 1 1 ∷ line (codes " 42 ") ∷ line (codes " 8 ") ∷ line (codes " 10 ") ∷ Raised (pos 449) ∷ line (codes " 449 ") ∷ Raised (pos 450) ∷ line (codes " 450 ") ∷ Term 1 1 ∷ [])
unfolding digits
late_items_is = refl

-- Sub Add(ByRef x As Long) does x = x + 1: a variable of type Long is lent, another one is copied
abbrev lent : Project
lent = with_class (of_members [] (named (codes "add") (is_procedure 1) ∷ []) None) (program [] ((
  sub (type.object ∷ type.long ∷ type.integer ∷ []),
  flat 0 (
      set (variable o) new ∷ assign (variable (of_type 2 type.long)) (n 5) ∷ assign (variable (of_type 3 type.integer)) (n 5) ∷ do_late (codes "add") (place_given (variable (of_type 2 type.long)) none_given) 1 ∷
      do_late (codes "add") (place_given (variable (of_type 3 type.integer)) none_given) 1 ∷ show (v (of_type 2 type.long)) ∷ show (v (of_type 3 type.integer)) ∷ []),
) ∷
    (procedure_of (sub []) (takes (codes "x") type.long true ∷ []) type.variant, flat 0 (assign (variable (of_type 1 type.long)) (two op.Add type.long (v (of_type 1 type.long)) (n 1)) ∷ [])) ∷ []))

pub lent_is : told (meaning lent 50) ≡ (Ended, Init 1 1 ∷ line (codes " 6 ") ∷ line (codes " 5 ") ∷ Term 1 1 ∷ [])
unfolding digits
lent_is = refl

-- Class T: Public X As Long, its default member. o.X = 1 ¶ Debug.Print o.X ¶ o = 5 ¶ Debug.Print o + 1, o ¶ o(1)
abbrev plain_default : Project
plain_default = with_class (of_members (declare type.long ∷ []) (named (codes "x") (is_variable 0 None) ∷ []) (Some (is_variable 0 None))) (program [] ((
  sub (type.object ∷ []),
  flat 0 (
      set (variable o) new ∷ assign_late (v o) (codes "x") (record { before = 0; names = [] }) none_given (n 1) ∷ show (call_late (codes "x") none_given 0 []) ∷ assign_through (v o) (n 5) ∷
      show (two op.Add type.long (operand (v o)) (n 1)) ∷ show (operand (v o)) ∷ on_error skipped ∷ evaluate (item_of (v o) 1) ∷ show err ∷ []),
) ∷ []))

pub plain_default_is : told (meaning plain_default 50)
    ≡ (Ended, Init 1 1 ∷ line (codes " 1 ") ∷ line (codes " 6 ") ∷ line (codes " 5 ") ∷ Raised (pos 450) ∷ line (codes " 450 ") ∷ Term 1 1 ∷ [])
unfolding digits
plain_default_is = refl

-- Class P: Property Get and Let Value, its default member, over a variable. o.Value = 3 ¶ o = 4 ¶ Debug.Print o
abbrev by_procedures : Project
by_procedures = with_class (of_members (declare type.long ∷ []) (named (codes "value") (is_property (Some 1) (Some 2) None) ∷ []) (Some (is_property (Some 1) (Some 2) None))) (program [] ((
  sub (type.object ∷ []),
  flat 0 (
      set (variable o) new ∷ assign_late (v o) (codes "value") (record { before = 0; names = [] }) none_given (n 3) ∷ show (operand (v o)) ∷ assign_through (v o) (n 4) ∷ show (operand (v o)) ∷
      on_error skipped ∷ set_late (v o) (codes "value") (record { before = 0; names = [] }) none_given (v o) ∷ show err ∷ []),
) ∷
    (procedure_of (record (sub []) { kind = is_get }) [] type.long, flat 0 (assign (variable (of_type 0 type.long)) (v (my type.long)) ∷ [])) ∷
    (procedure_of (record (sub []) { kind = is_let }) (takes (codes "x") type.long false ∷ []) type.variant, flat 0 (assign (variable (my type.long)) (v (of_type 1 type.long)) ∷ [])) ∷ []))

pub by_procedures_is : told (meaning by_procedures 50)
    ≡ (Ended, Init 1 1 ∷ line (codes " 3 ") ∷ line (codes " 4 ") ∷ Raised (pos 438) ∷ line (codes " 438 ") ∷ Term 1 1 ∷ [])
unfolding digits
by_procedures_is = refl

-- Class N: Public Nxt As N, its default member. Set o.Nxt = o: its value is an object (438), and neither arguments nor a
-- value pass a ninth default member (450). Set o.Nxt = Nothing: 91
abbrev chained_defaults : Project
chained_defaults = with_class (of_members (declare (type.class 1) ∷ []) (named (codes "nxt") (is_variable 0 None) ∷ []) (Some (is_variable 0 None))) (program [] ((
  sub (type.object ∷ []),
  flat 0 (
      set (variable o) new ∷ set_late (v o) (codes "nxt") (record { before = 0; names = [] }) none_given (v o) ∷ show (e type.boolean (same (call_late (codes "nxt") none_given 0 []) (v o))) ∷ on_error skipped ∷
      evaluate (operand (v o)) ∷ evaluate (item_of (v o) 1) ∷ assign_through (v o) (n 5) ∷ set_late (v o) (codes "nxt") (record { before = 0; names = [] }) none_given nothing ∷
      assign_through (v o) (n 5) ∷ []),
) ∷ []))

pub chained_defaults_is : told (meaning chained_defaults 50)
    ≡ (Ended, Init 1 1 ∷ line (codes "True") ∷ Raised (pos 438) ∷ Raised (pos 450) ∷ Raised (pos 450) ∷ Raised (pos 91) ∷ Term 1 1 ∷ [])
chained_defaults_is = refl

-- Class G: Property Get Item(ByVal k As Long) gives a variable, and Let Item(ByVal k As Long, ByVal x As Long) stores 10 * k + x
-- there; Item is the default member. Dim w ¶ Set w = New G ¶ w(3) = 4 ¶ Debug.Print w(1) ¶ o.Item(5) = 6 ¶ Debug.Print o(1)
abbrev let_items : Project
let_items = with_class (of_members (declare type.long ∷ []) (named (codes "item") (is_property (Some 1) (Some 2) None) ∷ []) (Some (is_property (Some 1) (Some 2) None))) (program [] ((
  sub (type.object ∷ type.variant ∷ []),
  flat 0 (
      set (variable o) new ∷ set (variable (of_type 2 type.variant)) (v o) ∷ assign_element (variable (of_type 2 type.variant)) (also (n 3) no_exprs) (n 4) ∷ show (item_of (v (of_type 2 type.variant)) 1) ∷
      assign_late (v o) (codes "item") (record { before = 1; names = [] }) (expr_given (n 5) none_given) (n 6) ∷ show (item_of (v o) 1) ∷ []),
) ∷
    (procedure_of (record (sub []) { kind = is_get }) (takes (codes "k") type.long false ∷ []) type.long, flat 0 (assign (variable (of_type 0 type.long)) (v (my type.long)) ∷ [])) ∷ (
      procedure_of (record (sub []) { kind = is_let }) (takes (codes "k") type.long false ∷ takes (codes "x") type.long false ∷ []) type.variant,
      flat 0 (assign (variable (my type.long)) (two op.Add type.long (two op.Mul type.long (v (of_type 1 type.long)) (n 10)) (v (of_type 2 type.long))) ∷ []),
    ) ∷ []))

pub let_items_is : told (meaning let_items 50) ≡ (Ended, Init 1 1 ∷ line (codes " 34 ") ∷ line (codes " 56 ") ∷ Term 1 1 ∷ [])
unfolding digits
let_items_is = refl
