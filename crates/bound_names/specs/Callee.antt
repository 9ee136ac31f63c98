-- Serves the code: what is called.
use Rattle.std.specs.Prelude.{◌≡◌, ℕ, true, List, map, Option, Some, None, slice_get}
use Rattle.vba_expression.specs.Tree.{Expr}
use Rattle.bound_project.specs.Drafts.{Drafted}
use Rattle.bound_project.specs.Pieces.{Piece, Tables}
use Rattle.bound_project.specs.View.{declared_view, parameter_view}
use Rattle.bound_members.specs.bound_calls.specs.bound_forms.specs.Terms.{Env, routine_term}
use Rattle.bound_members.specs.bound_calls.specs.bound_declarations.specs.constant_values.specs.declared_names.specs.binder.specs.Signatures.{call_type, is_property, parameters_in}
use Rattle.bound_members.specs.bound_calls.specs.bound_forms.specs.ExpressionsBound.{callee, term_of}
use Rattle.bound_members.specs.bound_calls.specs.bound_declarations.specs.constant_values.specs.declared_names.specs.binder.specs.Declarations.{Written}
use Rattle.bound_members.specs.bound_calls.specs.bound_declarations.specs.constant_values.specs.declared_names.specs.binder.specs.Storage.{procedure_number}
use Rattle.bound_members.specs.bound_calls.specs.bound_declarations.specs.constant_values.specs.declared_names.specs.binder.specs.Scopes.{Scope, Space}
use Rattle.bound_members.specs.bound_calls.specs.bound_declarations.specs.constant_values.specs.declared_names.specs.View.{space_view, written_view}
use Rattle.bound_names.specs.declared.properties.Writer.{Writer}
use Rattle.bound_members.specs.bound_calls.specs.declared.term.Property.{Property}
use Rattle.bound_members.specs.bound_calls.specs.declared.term.Routine.{Routine}
use Rattle.bound_members.specs.bound_calls.specs.declared.term.Term.{Term}
use Rattle.bound_members.specs.bound_calls.specs.declared.term.Term.TheVariants as term
use Rattle.bound_members.specs.bound_calls.specs.declared.term.Tree.{Tree}
use Rattle.bound_members.specs.bound_calls.specs.Standing.{TermNamed, TermStands, TreeStands, Grown, IsReceiver, ReceiverStands}
use Rattle.bound_names.specs.Properties.{property_with, IsEntry}
use Rattle.bound_project.specs.Expressions as bound
use Rattle.bound_names.specs.declared.properties.Part.{Part}
use Rattle.bound_members.specs.bound_calls.specs.declared.term.Receiver.{Receiver}

-- what an expression is as it is called; nothing is pushed for that
pub record CalleeIs (env : Env) (x : Tree) (d e : Drafted) (y : Term) : Type 0 where
  pub grown : Grown d e
  pub pieces : e.pieces ≡ d.pieces
  pub named : TermNamed e.tables y
  pub stands : (tree : Expr) (ps below : List Piece) → TreeStands env d.tables x tree ps below → TermStands env e.tables y (callee env tree (term_of env tree)) ps below

-- ---- procedures that are read

-- a routine has what a call of this entry needs, which is called of this
pub record Reading (env : Env) (called_of : Receiver) (space : Space) (written : Written) (read : ℕ × Written) (r : Routine) : Type 0 where
  pub receiver_is : r.receiver ≡ called_of
  pub procedure_is : r.procedure ≡ procedure_number env.scope space read.0
  pub parameters_are : map parameter_view r.parameters.now ≡ parameters_in env.scope space read.1
  pub of_is : declared_view r.of ≡ call_type env.scope space read.1
  pub space_is : space ≡ space_view r.space.now
  pub written_is : written ≡ written_view r.written
  pub placed : slice_get env.scope.spaces space.number ≡ Some space

-- a term is a procedure that is called of this
pub record MakesRoutine (env : Env) (called_of : Receiver) (space : Space) (number : ℕ) (written : Written) (x : Term) : Type 0 where
  pub named : (t : Tables) → TermNamed t x
  pub stands : (t : Tables) (base : Option bound.Expr) (ps below : List Piece) → IsReceiver called_of base → ReceiverStands called_of base ps below → TermStands env t x (routine_term base space number written) ps below

-- a term is the property that has this procedure, whatever the number of that is
abbrev pub IsProperty : Env → Receiver → Space → Written → Term → Type 0
IsProperty env called_of space written x = is_property written.kind ≡ true → (number : ℕ) → MakesRoutine env called_of space number written x

-- the Let or the Set of a property
pub record IsWriter (p : Part) (s : Scope) (x : Writer) : Type 0 where
  pub found : property_with p s (space_view x.property.space.now) (written_view x.property.written).name ≡ Some (x.number, written_view x.written)
  pub entry : IsEntry (space_view x.property.space.now) x.number (written_view x.written)

-- the property that a term is
abbrev pub property_in : Term → Option Property
property_in (term.Routine r) = Some (record { receiver = r.receiver; space = r.space; written = r.written })
property_in (term.Property p) = Some p
property_in x = None

-- a term is a property that has a Let, or a Set
pub record WriterOf (p : Part) (s : Scope) (x : Term) (w : Writer) : Type 0 where
  pub is : property_in x ≡ Some w.property
  pub writer : IsWriter p s w

-- a term is no property that has one
abbrev pub Unwritten : Part → Scope → Option Property → Type 0
Unwritten p s None = Unit {0}
Unwritten p s (Some x) = property_with p s (space_view x.space.now) (written_view x.written).name ≡ None

abbrev pub NoWriter : Part → Scope → Term → Type 0
NoWriter p s x = Unwritten p s (property_in x)
