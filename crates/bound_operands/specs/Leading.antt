-- Serves the code: arguments in brackets behind what is declared as of a class.
use Rattle.std.specs.Prelude.{◌≡◌, ℕ, Bool, true, false, List, ◌∷◌, Some}
use Rattle.vba_base.specs.declared.place.Place.{Place}
use Rattle.vba_expression.specs.Tree.{Expr, no_args}
use Rattle.bound_project.specs.declared.declared_type.DeclaredType.{DeclaredType}
use Rattle.bound_project.specs.View.{declared_view}
use Rattle.bound_project.specs.Expressions as bound
use Rattle.bound_project.specs.Pieces.{Piece, an_expr, put}
use Rattle.bound_project.specs.Project.{Declarations}
use Rattle.bound_project.specs.Drafts.{Drafted}
use Rattle.bound_members.specs.bound_calls.specs.bound_forms.specs.ClassDefaults.{breaks, class_led, declared_in, known}
use Rattle.bound_members.specs.bound_calls.specs.bound_forms.specs.Terms.{Env, Given, expression_of}
use Rattle.bound_members.specs.bound_calls.specs.bound_forms.specs.Operands.{is_of_class, place_told}
use Rattle.bound_members.specs.bound_calls.specs.bound_forms.specs.ExpressionsBound.{callee, term_of}
use Rattle.bound_members.specs.bound_calls.specs.bound_declarations.specs.constant_values.specs.declared_names.specs.binder.specs.Classes.{class_in}
use Rattle.bound_members.specs.bound_calls.specs.declared.term.Ending.{Ending}
use Rattle.bound_members.specs.bound_calls.specs.declared.term.Indexed.{Indexed}
use Rattle.bound_members.specs.bound_calls.specs.declared.term.Item.{Item}
use Rattle.bound_members.specs.bound_calls.specs.declared.term.Item.TheVariants as items
use Rattle.bound_members.specs.bound_calls.specs.declared.term.Refuser.TheVariants as refuser
use Rattle.bound_members.specs.bound_calls.specs.declared.term.Target.TheVariants as target
use Rattle.bound_members.specs.bound_calls.specs.declared.term.Term.{Term}
use Rattle.bound_members.specs.bound_calls.specs.declared.term.Term.TheVariants as term
use Rattle.bound_members.specs.bound_calls.specs.declared.term.Tree.{Tree}
use Rattle.bound_members.specs.bound_calls.specs.declared.term.Untaken.{Untaken}
use Rattle.bound_members.specs.bound_calls.specs.Calls.{ArgumentIs, node_of}
use Rattle.bound_members.specs.bound_calls.specs.class_defaults.specs.Items.{ArePlain}
use Rattle.bound_members.specs.bound_calls.specs.Standing.{Grown, IndexedStands, TreeStands, ValueEnds, ValueStands, along_given}
use Rattle.bound_members.specs.bound_calls.specs.Taking.{read_kind}
use Rattle.bound_operands.specs.Indexing.{begun, whole_of}

-- whether a term may be declared as of a class, taken as it is
abbrev pub gives_class : Term → Bool
gives_class (term.Place kind of bounds lends makes) = is_of_class (declared_view of)
gives_class (term.Value e) = is_of_class (declared_view e.of)
gives_class (term.Routine r) = is_of_class (declared_view r.of)
gives_class (term.HostMember m) = is_of_class (declared_view m.of)
gives_class (term.SheetMember m) = is_of_class (declared_view m.of)
gives_class term.Err = false
gives_class x = true

-- an argument that leads on is pushed, as a Variant takes it
pub record PushesLeading (x : Tree) (d e : Drafted) : Type 0 where
  pub grown : Grown d e
  pub stands : (env : Env) (tree : Expr) (below : List Piece) → TreeStands env d.tables x tree d.pieces below → ArgumentIs (along_given env (term_of env tree) (place_told tree)) e.pieces below

-- so many arguments behind an object of a class are read for what they lead to, or since they break a rule
pub record LedIndexed (d : Declarations) (number count : ℕ) (place : Place) (x : Indexed) : Type 0 where
  pub is : x ≡ whole_of place (target.ValueLed count) x.of
  pub leads : (gs : List Given) → ArePlain count gs → class_led d number gs ≡ known (declared_view x.of)

pub record LedUntaken (d : Declarations) (number count : ℕ) (place : Place) (x : Untaken) : Type 0 where
  pub rule : ℕ
  pub is : x ≡ record { place = place; refuser = refuser.Led rule count }
  pub breaks_it : (gs : List Given) → ArePlain count gs → class_led d number gs ≡ breaks rule

abbrev pub Leads : Declarations → (number count : ℕ) → Place → Item → Type 0
Leads d number count place (items.Indexed x) = LedIndexed d number count place x
Leads d number count place (items.Untaken x) = LedUntaken d number count place x
Leads d number count place i = ⊥

-- and the object was pushed
pub record PushesLed (d : Declarations) (number count : ℕ) (v : Ending) (place : Place) (e f : Drafted) (i : Item) : Type 0 where
  pub grown : Grown e f
  pub leads : Leads d number count place i
  pub of_is : class_in (declared_view v.of) ≡ Some number
  pub stands : (made : bound.Node) (below : List Piece) → ValueEnds e.tables v.kind made e.pieces below → f.pieces ≡ an_expr (expression_of made place (declared_view v.of)) ∷ below

-- the object was pushed as a place, from which so many arguments lead on to what is assigned to
pub record PushesLedPlace (d : Declarations) (count : ℕ) (v : Ending) (place : Place) (e f : Drafted) (x : Indexed) : Type 0 where
  pub grown : Grown e f
  pub is : x ≡ whole_of place (target.LedAsPlace count) x.of
  pub stands : (env : Env) → declared_in env.scope ≡ d → (tree : Expr) (below : List Piece) → place ≡ place_told tree
      → ValueStands e.tables v (callee env tree (term_of env tree)) e.pieces below → IndexedStands env x tree no_args f.pieces below

-- a place was pushed, from which so many arguments lead on; or it and what reads it, behind which they break a rule
pub record BeginsLed (at : Ending) (place : Place) (lends makes : Bool) (count : ℕ) (of : DeclaredType) (d e : Drafted) (x : Indexed) : Type 0 where
  pub is : x ≡ begun place (target.PlaceLed count) of lends makes 0
  pub pushed : e ≡ record d { pieces = put d.tables (node_of at.kind place at.of) d.pieces }

pub record RefusesLed (at : Ending) (makes : Bool) (place : Place) (rule count : ℕ) (d e : Drafted) (x : Untaken) : Type 0 where
  pub between : Drafted
  pub is : x ≡ record { place = place; refuser = refuser.Led rule count }
  pub first : between ≡ record d { pieces = put d.tables (node_of at.kind place at.of) d.pieces }
  pub second : e ≡ record between { pieces = put between.tables (node_of (read_kind makes) place at.of) between.pieces }
