-- Worked rows of objects of classes.
use Rattle.std.specs.Prelude.{◌≡◌, ℕ, pos, List, [], ◌∷◌, codes, false, refl, Option, Some, None}
use Rattle.std.specs.Fmt.{digits}
use Rattle.vba_values.specs.declared.object.ObjRef.TheVariants.{Nothing}
use Rattle.vba_values.specs.Types.{Declared}
use Rattle.vba_values.specs.Types as type
use Rattle.vba_values.specs.Val.{missing, object}
use Rattle.bound_project.specs.Expressions.{shared, own, Variable, Expr, constant, load, load_made, call, this, new_object, method, same, variable, kept_place, object_field, as_new, no_args, by_copy, by_default}
use Rattle.bound_project.specs.Statements.{Action, set, assign, evaluate, raise, skipped, handled_at, on_error, exit_to, with_value, end_with}
use Rattle.bound_project.specs.Project.{Project, Declaration, Procedure, Class, is_function, no_name}
use Rattle.vba_meaning.specs.Memory.{Ended, Faulted}
use Rattle.vba_meaning.specs.Effects.{Raised, Init, Term}
use Rattle.vba_meaning.proofs.Programs.{meaning, e, n, words, err, v, show, do_call, declare, sub, flat, program, told, line, of_type}

abbrev pub a_class : List Declaration → (initialize terminate : Option ℕ) → Class
a_class fields initialize terminate = record { name = no_name; fields = fields; initialize = initialize; terminate = terminate; members = []; default = None; enumerator = None; events = []; with_events = []; handlers = [] }

-- a project with one class
abbrev pub with_class : Class → Project → Project
with_class c pr = record pr { declared = record pr.declared { classes = c ∷ [] } }

abbrev pub one : Declared
one = type.class 1

abbrev pub new : Expr
new = e one (new_object 1)

abbrev pub nothing : Expr
nothing = e type.object (constant (object Nothing))

abbrev pub x : ℕ → Variable
x i = of_type i one

-- a variable of the object that a local variable has
abbrev pub in_it : ℕ → Declared → Expr
in_it i of = e of (load (object_field (v (x i)) 0 of false))

-- Function Make(ByVal s As String) As W
abbrev pub make : Procedure
make = record (sub []) { kind = is_function; result = declare one; parameters = record { name = no_name; of = type.text; by_reference = false; default = None; many = false } ∷ [] }

-- Make("a").Show: Debug.Print "next", where Make does Set Make = New W ¶ Make.Text = s, and Show prints Text
abbrev shown_once : Project
shown_once = with_class (a_class (declare type.text ∷ []) None None) (program [] (
    (sub [], flat 0 (evaluate (e type.variant (method (e one (call 1 (by_copy (words (codes "a")) type.text no_args))) 2 no_args)) ∷ show (words (codes "next")) ∷ [])) ∷
    (make, flat 0 (set (variable (x 0)) new ∷ assign (object_field (v (x 0)) 0 type.text false) (v (of_type 1 type.text)) ∷ [])) ∷
    (sub [], flat 0 (show (v (record { storage = own 0; of = type.text; bounded = false })) ∷ [])) ∷ []))

pub shown_once_is : told (meaning shown_once 50) ≡ (Ended, Init 1 1 ∷ line (codes "a") ∷ Term 1 1 ∷ line (codes "next") ∷ [])
shown_once_is = refl

-- Set head = New Node ¶ Set head.Nxt = New Node ¶ Set head.Nxt.Nxt = New Node ¶ Set head = Nothing ¶ Debug.Print "done"
abbrev chained : Project
chained = with_class (a_class (declare one ∷ []) None None) (program [] ((
  sub (one ∷ []),
  flat 0 (
      set (variable (x 1)) new ∷ set (object_field (v (x 1)) 0 one false) new ∷ set (object_field (in_it 1 one) 0 one false) new ∷ set (variable (x 1)) nothing ∷ show (words (codes "done")) ∷ []),
) ∷ []))

pub chained_is : told (meaning chained 50) ≡ (Ended, Init 1 1 ∷ Init 1 2 ∷ Init 1 3 ∷ Term 1 1 ∷ Term 1 2 ∷ Term 1 3 ∷ line (codes "done") ∷ [])
chained_is = refl

-- Public keep As K, whose Class_Terminate does Set keep = Me:
-- Set keep = New K ¶ Set keep = Nothing ¶ Debug.Print "kept" ¶ Set keep = Nothing ¶ Debug.Print keep Is Nothing
abbrev keep : Variable
keep = record { storage = shared 0; of = one; bounded = false }

abbrev kept_once : Project
kept_once = with_class (a_class [] None (Some 1)) (program (one ∷ []) ((
  sub [],
  flat 0 (
      set (variable keep) new ∷ set (variable keep) nothing ∷ show (words (codes "kept")) ∷ set (variable keep) nothing ∷ show (e type.boolean (same (v keep) nothing)) ∷ []),
) ∷
    (sub [], flat 0 (set (variable keep) (e one this) ∷ [])) ∷ []))

pub kept_once_is : told (meaning kept_once 50) ≡ (Ended, Init 1 1 ∷ Term 1 1 ∷ line (codes "kept") ∷ line (codes "True") ∷ [])
kept_once_is = refl

-- On Error GoTo H ¶ Callee ¶ Exit Sub ¶ H: ¶ Debug.Print Err.Number, where Callee does Dim x As D ¶ Set x = New D ¶
-- Err.Raise 1000, and its Class_Terminate On Error Resume Next ¶ Err.Raise 13
abbrev raised_with : ℕ → Action
raised_with k = raise (by_copy (n k) type.long (by_default missing (by_default missing no_args)))

abbrev ended_by_an_error : Project
ended_by_an_error = with_class (a_class [] None (Some 2)) (program [] (
    (sub [], flat 0 (on_error (handled_at 3) ∷ do_call 1 no_args ∷ exit_to 4 ∷ show err ∷ [])) ∷
    (sub (one ∷ []), flat 0 (set (variable (x 1)) new ∷ raised_with 1000 ∷ [])) ∷
    (sub [], flat 0 (on_error skipped ∷ raised_with 13 ∷ [])) ∷ []))

pub ended_by_an_error_is : told (meaning ended_by_an_error 50) ≡ (Ended, Init 1 1 ∷ Raised (pos 1000) ∷ Term 1 1 ∷ Raised (pos 13) ∷ line (codes " 1000 ") ∷ [])
unfolding digits
ended_by_an_error_is = refl

-- Set a = New N ¶ Set b = New N ¶ Set a.Other = b ¶ Set b.Other = a: what is in a cycle doesn't end
abbrev cycle : Project
cycle = with_class (a_class (declare one ∷ []) None None) (program [] ((
  sub (one ∷ one ∷ []),
  flat 0 (
      set (variable (x 1)) new ∷ set (variable (x 2)) new ∷ set (object_field (v (x 1)) 0 one false) (v (x 2)) ∷ set (object_field (v (x 2)) 0 one false) (v (x 1)) ∷ []),
) ∷ []))

pub cycle_is : told (meaning cycle 50) ≡ (Ended, Init 1 1 ∷ Init 1 2 ∷ [])
cycle_is = refl

-- With New T ¶ .X = 1 ¶ Debug.Print .X ¶ End With ¶ Debug.Print "out"
abbrev dotted : Expr
dotted = e one (load (kept_place 0))

abbrev with_new : Project
with_new = with_class (a_class (declare type.long ∷ []) None None) (program [] ((
  sub [],
  flat 0 (
      with_value new ∷ assign (object_field dotted 0 type.long false) (n 1) ∷ show (e type.long (load (object_field dotted 0 type.long false))) ∷ end_with 0 ∷ show (words (codes "out")) ∷ []),
) ∷ []))

pub with_new_is : told (meaning with_new 50) ≡ (Ended, Init 1 1 ∷ line (codes " 1 ") ∷ Term 1 1 ∷ line (codes "out") ∷ [])
unfolding digits
with_new_is = refl

-- Dim c As New T ¶ c.X = 2 ¶ Debug.Print c.X ¶ Set c = Nothing ¶ Debug.Print c.X: a second object is made
abbrev made : Expr
made = e one (load_made (as_new 1 (variable (x 1))))

abbrev made_again : Project
made_again = with_class (a_class (declare type.long ∷ []) (Some 1) None) (program [] ((
  sub (one ∷ []),
  flat 0 (
      assign (object_field made 0 type.long false) (n 2) ∷ show (e type.long (load (object_field made 0 type.long false))) ∷ set (variable (x 1)) nothing ∷
      show (e type.long (load (object_field made 0 type.long false))) ∷ []),
) ∷
    (sub [], flat 0 (assign (variable (record { storage = own 0; of = type.long; bounded = false })) (n 7) ∷ [])) ∷ []))

pub made_again_is : told (meaning made_again 50) ≡ (Ended, Init 1 1 ∷ line (codes " 2 ") ∷ Term 1 1 ∷ Init 1 2 ∷ line (codes " 7 ") ∷ Term 1 2 ∷ [])
unfolding digits
made_again_is = refl

-- Dim x As T ¶ x.Go: 91, before any argument is evaluated
abbrev no_object : Project
no_object = with_class (a_class [] None None) (program [] (
    (sub (one ∷ []), flat 0 (evaluate (e type.variant (method (v (x 1)) 1 no_args)) ∷ [])) ∷ (sub [], []) ∷ []))

pub no_object_is : told (meaning no_object 50) ≡ (Faulted (record { number = pos 91; source = None; description = None; procedure = 0; statement = Some 0 }), Raised (pos 91) ∷ [])
no_object_is = refl
