-- Serves the code: values that numbers in brackets index, and what doesn't take its arguments.
use Rattle.std.specs.Prelude.{◌≡◌, Bool, true, false, List, [], ◌∷◌}
use Rattle.vba_base.specs.declared.place.Place.{Place}
use Rattle.vba_expression.specs.Tree.{Expr, no_args}
use Rattle.vba_expression.specs.Nodes as nodes
use Rattle.bound_project.specs.declared.declared_type.DeclaredType.{DeclaredType}
use Rattle.bound_project.specs.Expressions as bound
use Rattle.bound_project.specs.Pieces.{Piece, an_expr}
use Rattle.bound_project.specs.Drafts.{Drafted}
use Rattle.declared_names.specs.binder.specs.Signatures.{is_property}
use Rattle.declared_names.specs.View.{written_view}
use Rattle.bound_accesses.specs.bound_names.specs.bound_members.specs.bound_calls.specs.bound_forms.specs.Terms.{Env, a_host_member}
use Rattle.bound_accesses.specs.bound_names.specs.bound_members.specs.bound_calls.specs.bound_forms.specs.Operands.{place_told}
use Rattle.bound_accesses.specs.bound_names.specs.bound_members.specs.bound_calls.specs.bound_forms.specs.ExpressionsBound.{callee, term_of}
use Rattle.bound_accesses.specs.bound_names.specs.bound_members.specs.bound_calls.specs.declared.term.HostMember.{HostMember}
use Rattle.bound_accesses.specs.bound_names.specs.bound_members.specs.bound_calls.specs.declared.term.Item.{Item}
use Rattle.bound_accesses.specs.bound_names.specs.bound_members.specs.bound_calls.specs.declared.term.Item.TheVariants as item
use Rattle.bound_accesses.specs.bound_names.specs.bound_members.specs.bound_calls.specs.declared.term.Refuser.{Refuser}
use Rattle.bound_accesses.specs.bound_names.specs.bound_members.specs.bound_calls.specs.declared.term.Refuser.TheVariants as refuser
use Rattle.bound_accesses.specs.bound_names.specs.bound_members.specs.bound_calls.specs.declared.term.Routine.{Routine}
use Rattle.bound_accesses.specs.bound_names.specs.bound_members.specs.bound_calls.specs.declared.term.Tree.{Tree}
use Rattle.bound_accesses.specs.bound_names.specs.bound_members.specs.bound_calls.specs.Standing.{Base, Grown, ItemNamed, Stands, TakesMember, member_is}
use Rattle.bound_accesses.specs.bound_names.specs.bound_members.specs.bound_calls.specs.Taking.{values_of}

-- a property whose Get has no parameters, and what is no such property
pub record IndexesValue (r : Routine) : Type 0 where
  pub property : is_property (written_view r.written).kind ≡ true
  pub none : r.parameters.now ≡ []

abbrev pub NotIndexed : Routine → Type 0
NotIndexed r = IndexesValue r → ⊥

-- what doesn't take its arguments, at a place
abbrev pub untaken_at : Place → Refuser → Item
untaken_at place r = item.Untaken (record { place = place; refuser = r })

-- a procedure, a value and a member as what doesn't take its arguments: the last two by whether a property gave the value, or
-- the member's object
abbrev pub procedure_refuser : Routine → Refuser
procedure_refuser r = refuser.Procedure (values_of r.receiver) r.parameters r.of

abbrev pub value_refuser : DeclaredType → (of_property : Bool) → Refuser
value_refuser of true = refuser.Called of
value_refuser of false = refuser.Value of 0

abbrev pub member_refuser : HostMember → (of_property : Bool) → Refuser
member_refuser m true = refuser.Behind m
member_refuser m false = refuser.Member m

-- arguments begin of a member whose object was pushed
pub record OpensItem (of_property : Bool) (env : Env) (x : Tree) (m : HostMember) (d e : Drafted) (i : Item) : Type 0 where
  pub grown : Grown d e
  pub named : ItemNamed e.tables i
  pub stands : (tree : Expr) (items : List Item) (is : List nodes.Item) (object : bound.Expr) (below : List Piece) (base : Base) → x.place ≡ place_told tree
      → TakesMember of_property env (place_told tree) (callee env tree (term_of env tree)) (a_host_member object (member_is d.tables m)) → d.pieces ≡ an_expr object ∷ below → Stands env e.tables items is below base
      → Stands env e.tables (i ∷ items) (nodes.arguments no_args ∷ nodes.tree tree ∷ is) e.pieces base
