-- Serves the code: members of objects, behind a dot and before brackets.
use Rattle.std.specs.Prelude.{◌≡◌, ℕ, Bool, true, false, ◌&&◌, List, Option, Some, None, if◌then◌else◌}
use Rattle.vba_base.specs.declared.place.Place.{Place}
use Rattle.vba_values.specs.Types as type
use Rattle.vba_values.specs.declared.object.HostRef.TheVariants as host
use Rattle.bound_project.specs.declared.declared_type.DeclaredType.{DeclaredType}
use Rattle.bound_project.specs.declared.declared_type.DeclaredType.TheVariants.{Plain}
use Rattle.bound_project.specs.declared.declared_type.ElementType.TheVariants as element
use Rattle.bound_project.specs.declared.node.NodeKind.{NodeKind}
use Rattle.bound_project.specs.declared.node.NodeKind.TheVariants as kinds
use Rattle.bound_project.specs.View.{declared_view}
use Rattle.bound_project.specs.Expressions.{is_type, new_object, Lvalue}
use Rattle.bound_project.specs.Expressions as bound
use Rattle.bound_project.specs.Pieces.{Piece, Tables}
use Rattle.bound_project.specs.Drafts.{Drafted}
use Rattle.bound_names.specs.bound_members.specs.bound_calls.specs.bound_forms.specs.Terms.{Env, a_host_member, a_value, expression_of, no_term, read_of}
use Rattle.bound_names.specs.bound_members.specs.bound_calls.specs.bound_forms.specs.Terms as plain
use Rattle.binder.specs.Types.{is_object}
use Rattle.bound_names.specs.bound_members.specs.bound_calls.specs.bound_forms.specs.Operands.{is_host_type, kind_by_type}
use Rattle.bound_names.specs.bound_members.specs.bound_calls.specs.bound_forms.specs.Members.{found_member, item_of, object_member, unknown_member, host_behind}
use Rattle.binder.specs.Classes.{has_class}
use Rattle.bound_names.specs.bound_members.specs.bound_calls.specs.declared.term.Ending.{Ending}
use Rattle.bound_names.specs.bound_members.specs.bound_calls.specs.declared.term.HostMember.{HostMember}
use Rattle.bound_names.specs.bound_members.specs.bound_calls.specs.declared.term.Term.{Term}
use Rattle.bound_names.specs.bound_members.specs.bound_calls.specs.declared.term.Term.TheVariants as term
use Rattle.bound_names.specs.bound_members.specs.bound_calls.specs.References.{is_typed_kind}
use Rattle.bound_names.specs.bound_members.specs.bound_calls.specs.Standing.{PlaceEnds, ValueEnds, TermNamed, TermStands, Grown}
use Rattle.bound_names.specs.ClassMembers.{unknown_term}

abbrev pub found_term : Option HostMember → (dot : Place) → Term
found_term None dot = unknown_term dot
found_term (Some m) dot = term.HostMember m

-- whether a term is what New and TypeOf are, whose class a dot behind them belongs to: none, a new object or Collection, or
-- whether an object is of a type
abbrev pub may_be_class : plain.Term → Bool
may_be_class no_term = true
may_be_class (a_value (is_type e of) type.boolean) = true
may_be_class (a_value (new_object c) (type.class number)) = true
may_be_class (a_value (new_object c) type.collection) = true
may_be_class t = false

-- whether a node is the last one of a value behind which a dot may stand: of none that New or TypeOf gives
abbrev pub is_before_dot : NodeKind → Bool
is_before_dot (kinds.HostObject reference) = true
is_before_dot (kinds.NewObject c) = false
is_before_dot (kinds.IsType of) = false
is_before_dot kind = is_typed_kind kind

-- a type is no object's, so what has it has no members
pub record LacksMembers (of : DeclaredType) (found : Option HostMember) : Type 0 where
  pub none : found ≡ None
  pub no_object : is_object (declared_view of) ≡ false

-- the same of a value, by its last node and its type
pub record ValueLacks (e : Ending) (found : Option HostMember) : Type 0 where
  pub lacks : LacksMembers e.of found
  pub no_kind : kind_by_type (declared_view e.of) ≡ None
  pub typed : is_typed_kind e.kind ≡ true

-- a member of the object at a place, and of the object that a value gives, which are pushed; or that there is none. What the
-- member is the object says
pub record FindsAtPlace (env : Env) (member : (dot : Place) → bound.Node → plain.Term) (at : Ending) (makes : Bool) (d e : Drafted) (found : Option HostMember) : Type 0 where
  pub grown : Grown d e
  pub named : (dot : Place) → TermNamed e.tables (found_term found dot)
  pub stands : (dot : Place) (x : Lvalue) (below : List Piece) → PlaceEnds d.tables at.kind x d.pieces below → TermStands env e.tables (found_term found dot) (member dot (read_of makes x)) e.pieces below

pub record FindsInValue (env : Env) (member : (dot : Place) → bound.Node → plain.Term) (ending : Ending) (d e : Drafted) (found : Option HostMember) : Type 0 where
  pub grown : Grown d e
  pub named : (dot : Place) → TermNamed e.tables (found_term found dot)
  pub stands : (dot : Place) (made : bound.Node) (below : List Piece) → ValueEnds d.tables ending.kind made d.pieces below → TermStands env e.tables (found_term found dot) (member dot made) e.pieces below

-- where no object of a class is there
abbrev pub FindsOfPlace : Place → Ending → (makes : Bool) → (fold : List ℕ) → (d e : Drafted) → Option HostMember → Type 0
FindsOfPlace place at makes fold d e found = (env : Env) → FindsAtPlace env (λ (dot : Place) (node : bound.Node). object_member place dot node (declared_view at.of) fold) at makes d e found

abbrev pub FindsOfValue : Place → Ending → (fold : List ℕ) → (d e : Drafted) → Option HostMember → Type 0
FindsOfValue place v fold d e found = (env : Env) → FindsInValue env (λ (dot : Place) (node : bound.Node). object_member place dot node (declared_view v.of) fold) v d e found

-- where the run finds it
abbrev pub FindsLatePlace : Place → Ending → (makes : Bool) → (fold : List ℕ) → (d e : Drafted) → Option HostMember → Type 0
FindsLatePlace place at makes fold d e found =
    (env : Env) → FindsAtPlace env (λ (dot : Place) (node : bound.Node). a_host_member (expression_of node place (declared_view at.of)) (found_member true fold)) at makes d e found

abbrev pub FindsLateValue : Place → Ending → (fold : List ℕ) → (d e : Drafted) → Option HostMember → Type 0
FindsLateValue place v fold d e found =
    (env : Env) → FindsInValue env (λ (dot : Place) (node : bound.Node). a_host_member (expression_of node place (declared_view v.of)) (found_member true fold)) v d e found

-- one of the two
abbrev pub FindsBehindPlace : Env → Place → Ending → (makes : Bool) → (fold : List ℕ) → (d e : Drafted) → Option HostMember → Type 0
FindsBehindPlace env place at makes fold d e found = FindsAtPlace env (λ (dot : Place) (node : bound.Node). host_behind env place dot node (declared_view at.of) fold) at makes d e found

abbrev pub FindsBehindValue : Env → Place → Ending → (fold : List ℕ) → (d e : Drafted) → Option HostMember → Type 0
FindsBehindValue env place v fold d e found = FindsInValue env (λ (dot : Place) (node : bound.Node). host_behind env place dot node (declared_view v.of) fold) v d e found

-- whether a term is of an object's type, or a member of one
abbrev pub is_host_term : Term → Bool
is_host_term (term.Place kind of bounds lends makes) = is_host_type (declared_view of)
is_host_term (term.Value e) = is_host_type (declared_view e.of)
is_host_term (term.HostMember m) = true
is_host_term (term.SheetMember m) = true
is_host_term x = false

-- the type of sheets, and the last nodes of Application and of the workbook
abbrev pub is_sheet : DeclaredType → Bool
is_sheet (Plain element.Worksheet) = true
is_sheet of = false

abbrev pub is_bare : NodeKind → Bool
is_bare (kinds.HostObject host.Application) = true
is_bare (kinds.HostObject host.Workbook) = true
is_bare kind = false

-- whether an object has no default member with arguments
abbrev pub lacks_item : Term → Bool
lacks_item (term.Place kind of bounds lends makes) = is_sheet of
lacks_item (term.Value e) = if is_sheet e.of then is_typed_kind e.kind else is_host_type (declared_view e.of) && is_bare e.kind
lacks_item x = false

pub record LacksItem (env : Env) (place : Place) (z : plain.Term) : Type 0 where
  pub object : bound.Expr
  pub is : item_of env place z ≡ unknown_member place object

-- a term is a member, which brackets take with its arguments
abbrev pub is_member : Term → Bool
is_member (term.HostMember m) = true
is_member (term.SheetMember m) = true
is_member x = false

-- brackets behind a term take no member: they index it as it is
pub record KeepsTerm (has : Bool) (t : Tables) (x : Term) : Type 0 where
  pub other : is_member x ≡ false
  pub kept : (env : Env) → has_class env.scope.spaces ≡ has → (place : Place) (z : plain.Term) (ps below : List Piece) → TermStands env t x z ps below → item_of env place z ≡ z

-- the same, or it lacks a default member with arguments
abbrev pub ItemKept : (lacks : Bool) → Env → Place → plain.Term → Type 0
ItemKept true env place z = LacksItem env place z
ItemKept false env place z = item_of env place z ≡ z

pub record KeepsItem (has : Bool) (t : Tables) (x : Term) : Type 0 where
  pub other : is_member x ≡ false
  pub kept : (env : Env) → has_class env.scope.spaces ≡ has → (place : Place) (z : plain.Term) (ps below : List Piece) → TermStands env t x z ps below → ItemKept (lacks_item x) env place z

-- what brackets behind a term take
pub record MakesItem (env : Env) (place : Place) (x : Term) (d e : Drafted) (y : Term) : Type 0 where
  pub grown : Grown d e
  pub named : TermNamed e.tables y
  pub stands : (z : plain.Term) (below : List Piece) → TermStands env d.tables x z d.pieces below → TermStands env e.tables y (item_of env place z) e.pieces below

-- the same of an object at a place, and of one that a value gives
abbrev pub MakesPlaceItem : Env → Place → Ending → (makes : Bool) → Drafted → Drafted → Term → Type 0
MakesPlaceItem env place at makes d e y = (bounds : ℕ) (lends : Bool) → is_host_type (declared_view at.of) ≡ true → MakesItem env place (term.Place at.kind at.of bounds lends makes) d e y

abbrev pub MakesValueItem : Env → Place → Ending → Drafted → Drafted → Term → Type 0
MakesValueItem env place v d e y = is_host_type (declared_view v.of) ≡ true → MakesItem env place (term.Value v) d e y
