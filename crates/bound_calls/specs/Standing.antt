-- Serves the code: what stands on the stack of a pass over the nodes of an expression, beside the pieces of the draft.
use Rattle.std.specs.Prelude.{◌≡◌, ℕ, zero, suc, ◌+◌, ◌<◌, ◌≤◌, ◌==◌, length, take, Bool, true, false, ◌&&◌, List, [], ◌∷◌, ◌++◌, map, Option, Some, None, option_map, slice_get, if◌then◌else◌}
use Rattle.vba_base.specs.declared.place.Place.{Place}
use Rattle.vba_values.specs.Types.{Declared}
use Rattle.vba_values.specs.Types as type
use Rattle.vba_words.specs.declared.identifier.Identifier.{Identifier}
use Rattle.vba_lib.specs.declared.function.LibraryFunction.{LibraryFunction}
use Rattle.vba_lexer.specs.declared.token.Token.{Token}
use Rattle.vba_expression.specs.Tree.{Expr, Args, missing, named}
use Rattle.vba_expression.specs.Tree as tree
use Rattle.vba_expression.specs.Reader.{name_in}
use Rattle.vba_expression.specs.Nodes as nodes
use Rattle.bound_project.specs.declared.declared_type.DeclaredType.{DeclaredType}
use Rattle.bound_project.specs.declared.declared_type.DeclaredType.TheVariants.{Plain}
use Rattle.bound_project.specs.declared.declared_type.ElementType.TheVariants.{Variant}
use Rattle.bound_project.specs.declared.node.NodeKind.{NodeKind}
use Rattle.bound_project.specs.declared.node.Node.{Node}
use Rattle.bound_project.specs.declared.node.ArgumentNames.{ArgumentNames}
use Rattle.bound_project.specs.declared.node.LateName.{LateName}
use Rattle.bound_project.specs.declared.node.LateUse.{LateUse}
use Rattle.bound_project.specs.declared.variable.Variable.{Variable}
use Rattle.bound_project.specs.View.{declarations_view, declared_view, parameter_view, variable_view}
use Rattle.bound_project.specs.Expressions.{expr, element_value, late_item, not_given, active_sheet, Exprs, also, given_count, Lvalue, operand_type, this, value_place}
use Rattle.bound_project.specs.Expressions as bound
use Rattle.bound_project.specs.Lists.{above, exprs_of, given_pieces}
use Rattle.bound_project.specs.Pieces.{Argument, GivenArgument, Piece, Tables, a_late, a_member, a_named_member, an_argument, an_expr, expr_of, flags, is_there, order_in, place_there, put_kind, sought_in, value_there, with_argument, with_given, an_object}
use Rattle.bound_project.specs.Pieces as piece
use Rattle.bound_project.specs.Project.{Parameter, nowhere}
use Rattle.bound_project.specs.Drafts.{Drafted, LateNamed, NamesNamed, NodeNamed}
use Rattle.bound_project.proofs.Drafts.{Extends}
use Rattle.bound_declarations.specs.constant_values.specs.declared_names.specs.binder.specs.Classes.{has_class}
use Rattle.bound_declarations.specs.constant_values.specs.declared_names.specs.binder.specs.Declarations.{Written}
use Rattle.bound_declarations.specs.constant_values.specs.declared_names.specs.View.{space_view, written_view}
use Rattle.bound_declarations.specs.constant_values.specs.declared_names.specs.binder.specs.Options.{from_two}
use Rattle.bound_declarations.specs.constant_values.specs.declared_names.specs.binder.specs.Scopes.{Space, qualifier_of}
use Rattle.bound_declarations.specs.constant_values.specs.declared_names.specs.binder.specs.Constants.{compare_in}
use Rattle.bound_declarations.specs.constant_values.specs.declared_names.specs.binder.specs.Storage.{procedure_number}
use Rattle.bound_forms.specs.Terms.{Env, Given, routine_term, a_place, a_value, a_function, a_host_member, err_object, err_raise, err_clear, error_word, no_term, expression_of, given_to, listed_values, parameter_named, taken_by, takes, read_of}
use Rattle.bound_forms.specs.Terms as plain
use Rattle.bound_forms.specs.ClassDefaults.{declared_in}
use Rattle.bound_declarations.specs.constant_values.specs.declared_names.specs.binder.specs.Signatures.{reader, parameters_in, call_type}
use Rattle.bound_forms.specs.Operands.{element_place, argument_of, first_given, is_wrong, numbers_of, operand_of, reference_of, place_told, indexed_type, is_found_late, is_host_type, along_of, along_type, are_places}
use Rattle.bound_forms.specs.Members.{item_of}
use Rattle.bound_forms.specs.Targets.{value_before}
use Rattle.bound_forms.specs.ExpressionsBound.{callee, arguments_rule, may_index, member_takes, wrong_arguments, function_values, givens, indexed, term_of, along_value, late_arguments}
use Rattle.bound_calls.specs.declared.term.Dotted.{Dotted}
use Rattle.bound_calls.specs.declared.term.Ending.{Ending}
use Rattle.bound_calls.specs.declared.term.Property.{Property}
use Rattle.bound_calls.specs.declared.term.Routine.{Routine}
use Rattle.bound_calls.specs.declared.term.Function.{Function}
use Rattle.bound_calls.specs.declared.term.FunctionCall.{FunctionCall}
use Rattle.bound_calls.specs.declared.term.HostMember.{HostMember}
use Rattle.bound_calls.specs.declared.term.Looked.{Looked}
use Rattle.bound_calls.specs.declared.term.Looked.TheVariants as looked
use Rattle.bound_calls.specs.declared.term.MemberCall.{MemberCall}
use Rattle.bound_calls.specs.declared.term.Term.{Term}
use Rattle.bound_calls.specs.declared.term.Term.TheVariants as term
use Rattle.bound_calls.specs.declared.term.Tree.{Tree}
use Rattle.bound_calls.specs.declared.term.Operand.{Operand}
use Rattle.bound_calls.specs.declared.term.Named.{Named}
use Rattle.bound_calls.specs.declared.term.Passed.{Passed}
use Rattle.bound_calls.specs.declared.term.Call.{Call}
use Rattle.bound_calls.specs.declared.term.Indexed.{Indexed}
use Rattle.bound_calls.specs.declared.term.Target.{Target}
use Rattle.bound_calls.specs.declared.term.Target.TheVariants as target
use Rattle.bound_calls.specs.declared.term.Refuser.{Refuser}
use Rattle.bound_calls.specs.declared.term.Refuser.TheVariants as refuser
use Rattle.bound_calls.specs.declared.term.Shape.{Shape}
use Rattle.bound_calls.specs.declared.term.Untaken.{Untaken}
use Rattle.bound_calls.specs.declared.term.Item.{Item}
use Rattle.bound_calls.specs.declared.term.Item.TheVariants as item
use Rattle.bound_calls.specs.Passing.{AllTaken}
use Rattle.class_defaults.specs.Items.{ArePlain}
use Rattle.bound_calls.specs.Shapes.{IsShaped}
use Rattle.bound_calls.specs.declared.term.Receiver.{Receiver}
use Rattle.bound_calls.specs.declared.term.Receiver.TheVariants as receiver

-- ---- pieces that a last node would make

-- a place, and a value, above these pieces, made by one more node
abbrev pub PlaceEnds : Tables → NodeKind → Lvalue → (ps below : List Piece) → Type 0
PlaceEnds t kind x ps below = (n : Node) → put_kind t n kind ps ≡ piece.a_place x ∷ below

abbrev pub ValueEnds : Tables → NodeKind → bound.Node → (ps below : List Piece) → Type 0
ValueEnds t kind made ps below = (n : Node) → put_kind t n kind ps ≡ expr_of n made ∷ below

pub record PlaceStands (t : Tables) (kind : NodeKind) (of : DeclaredType) (bounds : ℕ) (lends makes : Bool) (x : plain.Term) (ps below : List Piece) : Type 0 where
  pub at : Lvalue
  pub is : x ≡ a_place at (declared_view of) bounds lends makes
  pub ends : PlaceEnds t kind at ps below

pub record ValueStands (t : Tables) (e : Ending) (x : plain.Term) (ps below : List Piece) : Type 0 where
  pub made : bound.Node
  pub is : x ≡ a_value made (declared_view e.of)
  pub ends : ValueEnds t e.kind made ps below

-- the own object, which a type says
abbrev pub own_expression : DeclaredType → bound.Expr
own_expression of = expression_of this nowhere (declared_view of)

-- what a procedure is called of: nothing; the own object, for which nothing is pushed; or an object that was pushed
abbrev pub IsReceiver : Receiver → Option bound.Expr → Type 0
IsReceiver receiver.Module None = Unit {0}
IsReceiver (receiver.Own of) (Some base) = base ≡ own_expression of
IsReceiver (receiver.Pushed of) (Some base) = Unit {0}
IsReceiver r base = ⊥

abbrev pub ReceiverStands : Receiver → Option bound.Expr → (ps below : List Piece) → Type 0
ReceiverStands (receiver.Pushed of) (Some base) ps below = ps ≡ an_expr base ∷ below
ReceiverStands r base ps below = ps ≡ below

-- the same behind it where a call begins
abbrev pub ReceiverThere : Option bound.Expr → (ps below : List Piece) → Type 0
ReceiverThere None ps below = ps ≡ below
ReceiverThere (Some base) ps below = ps ≡ an_object base ∷ below

-- a procedure, by what a call of it needs
pub record RoutineIs (env : Env) (r : Routine) (x : plain.Term) : Type 0 where
  pub base : Option bound.Expr
  pub space : Space
  pub number : ℕ
  pub written : Written
  pub read : ℕ × Written
  pub is : x ≡ routine_term base space number written
  pub received : IsReceiver r.receiver base
  pub reads : reader env.scope space number written ≡ Some read
  pub procedure_is : r.procedure ≡ procedure_number env.scope space read.0
  pub parameters_are : map parameter_view r.parameters.now ≡ parameters_in env.scope space read.1
  pub of_is : declared_view r.of ≡ call_type env.scope space read.1
  pub space_is : space ≡ space_view r.space.now
  pub written_is : written ≡ written_view r.written
  pub placed : slice_get env.scope.spaces space.number ≡ Some space

pub record RoutineStands (env : Env) (r : Routine) (x : plain.Term) (ps below : List Piece) : Type 0 where
  pub routine : RoutineIs env r x
  pub pushed : ReceiverStands r.receiver routine.base ps below

-- a property, by one of its procedures
pub record PropertyStands (env : Env) (p : Property) (x : plain.Term) (ps below : List Piece) : Type 0 where
  pub base : Option bound.Expr
  pub number : ℕ
  pub is : x ≡ routine_term base (space_view p.space.now) number (written_view p.written)
  pub received : IsReceiver p.receiver base
  pub placed : slice_get env.scope.spaces (space_view p.space.now).number ≡ Some (space_view p.space.now)
  pub pushed : ReceiverStands p.receiver base ps below

-- the same of one without a Get
pub record UnreadStands (env : Env) (p : Property) (x : plain.Term) (ps below : List Piece) : Type 0 where
  pub property : PropertyStands env p x ps below
  pub unread : reader env.scope (space_view p.space.now) property.number (written_view p.written) ≡ None

-- a function of the library, for which nothing is pushed
abbrev pub base_number : (is_one : Bool) → ℕ
base_number true = 1
base_number false = 0

pub record FunctionIs (env : Env) (f : Function) (x : plain.Term) : Type 0 where
  pub is : x ≡ a_function f.function f.is_text_form (base_number f.is_base_one)
  pub compare_is : f.compare ≡ compare_in env.scope

-- a member of an object of the host, and the object that was pushed
abbrev pub member_is : Tables → HostMember → plain.HostMember
member_is t m = record { name = piece.name_in t m.name; of = declared_view m.of; least = m.least; greatest = m.greatest; late = m.is_late }

pub record HostMemberStands (t : Tables) (m : HostMember) (x : plain.Term) (ps below : List Piece) : Type 0 where
  pub object : bound.Expr
  pub is : x ≡ a_host_member object (member_is t m)
  pub on_top : ps ≡ an_expr object ∷ below

-- a term of the code is one of the binder; of what isn't bound no piece is told
abbrev pub TermStands : Env → Tables → Term → plain.Term → (ps below : List Piece) → Type 0
TermStands env t (term.Place kind of bounds lends makes) x ps below = PlaceStands t kind of bounds lends makes x ps below
TermStands env t (term.Value e) x ps below = ValueStands t e x ps below
TermStands env t (term.Routine r) x ps below = RoutineStands env r x ps below
TermStands env t (term.Property p) x ps below = UnreadStands env p x ps below
TermStands env t (term.Function f) x ps below = FunctionIs env f x × (ps ≡ below)
TermStands env t (term.HostMember m) x ps below = HostMemberStands t m x ps below
TermStands env t (term.SheetMember m) x ps below = (x ≡ a_host_member (expression_of active_sheet nowhere type.worksheet) (member_is t m)) × (ps ≡ below)
TermStands env t term.Err x ps below = (x ≡ err_object) × (ps ≡ below)
TermStands env t term.ErrRaise x ps below = (x ≡ err_raise) × (ps ≡ below)
TermStands env t term.ErrClear x ps below = (x ≡ err_clear) × (ps ≡ below)
TermStands env t term.ErrorWord x ps below = (x ≡ error_word) × (ps ≡ below)
TermStands env t term.Nothing x ps below = x ≡ no_term

-- a value that begins at a place and whose last node isn't pushed, where there is one
pub record EndingIs (t : Tables) (e : Ending) (place : Place) (found : Option bound.Expr) (ps below : List Piece) : Type 0 where
  pub made : bound.Node
  pub is : found ≡ Some (expr made place (declared_view e.of) (declared_view e.of))
  pub ends : ValueEnds t e.kind made ps below

abbrev pub EndingStands : Tables → Option Ending → Place → (found : Option bound.Expr) → (ps below : List Piece) → Type 0
EndingStands t None place found ps below = found ≡ None
EndingStands t (Some e) place found ps below = EndingIs t e place found ps below

-- a value that was pushed, by its type, where there is one
pub record PushedIs (of : DeclaredType) (found : Option bound.Expr) (ps below : List Piece) : Type 0 where
  pub made : bound.Expr
  pub is : found ≡ Some made
  pub operand : operand_type made ≡ declared_view of
  pub on_top : ps ≡ an_expr made ∷ below

abbrev pub PushedStands : Option DeclaredType → (found : Option bound.Expr) → (ps below : List Piece) → Type 0
PushedStands None found ps below = found ≡ None
PushedStands (Some of) found ps below = PushedIs of found ps below

-- ---- the stack, the last item first

-- two names with a dot between them, for which nothing is pushed
pub record DottedStands (x : Dotted) (e : Expr) (ps below : List Piece) : Type 0 where
  pub dot : Token
  pub is : e ≡ tree.member (tree.name x.before.now) dot x.name.now
  pub none_pushed : ps ≡ below

-- in an expression that is no name, and no two names, no name behind a dot is looked up; of a name that is looked up there
abbrev pub QualifierStands : Env → (name : Option Identifier) → Option Dotted → Expr → (ps below : List Piece) → Type 0
QualifierStands env (Some name) x e ps below = Unit {0}
QualifierStands env None (Some x) e ps below = DottedStands x e ps below
QualifierStands env None None e ps below = qualifier_of env.scope e ≡ None

-- for a name nothing is pushed
abbrev pub LeafStands : (name : Option Identifier) → (ps below : List Piece) → Type 0
LeafStands (Some name) ps below = ps ≡ below
LeafStands None ps below = Unit {0}

pub record TreeStands (env : Env) (t : Tables) (x : Tree) (e : Expr) (ps below : List Piece) : Type 0 where
  pub term_is : TermStands env t x.term (term_of env e) ps below
  pub place_is : x.place ≡ place_told e
  pub name_is : option_map (λ name. name.now) x.name ≡ name_in e
  pub qualifier_is : QualifierStands env (option_map (λ name. name.now) x.name) x.dotted e ps below
  pub leaf : LeafStands (option_map (λ name. name.now) x.name) ps below
  pub declared_is : declared_in env.scope ≡ declarations_view x.declared.now

-- a left operand: that of Is is a reference
abbrev pub left_of : Bool → Env → plain.Term → Place → Option bound.Expr
left_of true env t place = reference_of env t place
left_of false env t place = operand_of env t place

pub record OperandStands (env : Env) (x : Operand) (e : Expr) (ps below : List Piece) : Type 0 where
  pub pushed : PushedStands x.of (left_of x.is_reference env (term_of env e) (place_told e)) ps below

-- arguments that were pushed for the first of these parameters
pub record PassedStands (env : Env) (parameters : List Parameter) (x : Passed) (args : Args) (ps below : List Piece) : Type 0 where
  pub made : List Argument
  pub taken : AllTaken (argument_of env) parameters (givens env args) made (map parameter_view x.left.now)
  pub count_is : x.count ≡ length made
  pub on_top : ps ≡ above (map an_argument made) below

-- a procedure that is called, what it is called of, and the arguments that were pushed
pub record CallStands (env : Env) (x : Call) (e : Expr) (args : Args) (ps below : List Piece) : Type 0 where
  pub routine : RoutineIs env x.routine (callee env e (term_of env e))
  pub between : List Piece
  pub there : ReceiverThere routine.base between below
  pub place_is : x.place ≡ place_told e
  pub passed : PassedStands env (map parameter_view x.routine.parameters.now) x.passed args ps between

-- an expression that is given without a name, and an argument that isn't written
abbrev pub plain_given : Env → Expr → Given
plain_given env e = record { name = None; term = Some (term_of env e); place = place_told e }

abbrev pub missing_given : Given
missing_given = record { name = None; term = None; place = nowhere }

-- what an argument is that isn't written
abbrev pub missing_value : bound.Expr
missing_value = expression_of not_given nowhere type.variant

-- numbers that were pushed: each was given without a name, and is a value
pub record NumberIs (value : plain.Term → Place → Option bound.Expr) (g : Given) (e : bound.Expr) : Type 0 where
  pub no_name : g.name ≡ None
  pub term : plain.Term
  pub given : g.term ≡ Some term
  pub is : value term g.place ≡ Some e

abbrev pub AllNumbers : (plain.Term → Place → Option bound.Expr) → List Given → List bound.Expr → Type 0
AllNumbers value [] [] = Unit {0}
AllNumbers value (g ∷ gs) (e ∷ es) = NumberIs value g e × AllNumbers value gs es
AllNumbers value gs es = ⊥

-- a plain variable that is indexed, for which nothing is pushed: of an array with bounds, as many numbers as these are must
-- come
pub record VariableIndexed (env : Env) (v : Variable) (of : DeclaredType) (bounds : ℕ) (lends makes : Bool) (place : Place) (x : plain.Term) (ps below : List Piece) : Type 0 where
  pub whole : Declared
  pub is : x ≡ a_place (bound.variable (variable_view v)) whole bounds lends makes
  pub element_is : indexed_type env (expression_of (read_of makes (bound.variable (variable_view v))) place whole) ≡ Some (declared_view of)
  pub none_pushed : ps ≡ below

-- another place that is indexed, which was pushed
pub record PlaceIndexed (env : Env) (of : DeclaredType) (bounds : ℕ) (lends makes : Bool) (place : Place) (x : plain.Term) (ps below : List Piece) : Type 0 where
  pub at : Lvalue
  pub whole : Declared
  pub is : x ≡ a_place at whole bounds lends makes
  pub element_is : indexed_type env (expression_of (read_of makes at) place whole) ≡ Some (declared_view of)
  pub no_variable : (es : Exprs) → element_place at es ≡ bound.element at es
  pub on_top : ps ≡ piece.a_place at ∷ below

-- a value that is indexed, which was pushed: what a term is, or what a property without parameters gives
pub record ValueIndexed (env : Env) (of : DeclaredType) (place : Place) (x : plain.Term) (ps below : List Piece) : Type 0 where
  pub whole : bound.Expr
  pub is : (gs : List Given) (es : Exprs) → numbers_of (operand_of env) gs ≡ Some es → indexed env place (item_of env place x) gs ≡ a_value (element_value whole es) (declared_view of)
  pub on_top : ps ≡ an_expr whole ∷ below

-- a place from which arguments lead on as the run says, and a value in which they do, which was pushed; one of a class, by
-- how many of them there are
pub record PlaceAlong (env : Env) (of : DeclaredType) (lends makes : Bool) (place : Place) (x : plain.Term) (ps below : List Piece) : Type 0 where
  pub at : Lvalue
  pub whole : Declared
  pub bounds : ℕ
  pub is : x ≡ a_place at whole bounds lends makes
  pub late : is_found_late env (expression_of (read_of makes at) place whole) ≡ true
  pub of_is : declared_view of ≡ type.variant
  pub on_top : ps ≡ piece.a_place at ∷ below

pub record PlaceLed (env : Env) (count : ℕ) (of : DeclaredType) (lends makes : Bool) (place : Place) (x : plain.Term) (ps below : List Piece) : Type 0 where
  pub at : Lvalue
  pub whole : Declared
  pub bounds : ℕ
  pub is : x ≡ a_place at whole bounds lends makes
  pub no_host : is_host_type whole ≡ false
  pub leads : (gs : List Given) → ArePlain count gs → along_type env (expression_of (read_of makes at) place whole) gs ≡ Some (declared_view of)
  pub on_top : ps ≡ piece.a_place at ∷ below

pub record ValueAlong (env : Env) (of : DeclaredType) (place : Place) (x : plain.Term) (ps below : List Piece) : Type 0 where
  pub whole : bound.Expr
  pub is : (gs : List Given) (es : Exprs) → along_of (along_value env) gs ≡ Some es → indexed env place (item_of env place x) gs ≡ a_value (late_item whole es) type.variant
  pub of_is : declared_view of ≡ type.variant
  pub on_top : ps ≡ an_expr whole ∷ below

pub record ValueLed (env : Env) (count : ℕ) (of : DeclaredType) (place : Place) (x : plain.Term) (ps below : List Piece) : Type 0 where
  pub whole : bound.Expr
  pub is : (gs : List Given) (es : Exprs) → ArePlain count gs → along_of (along_value env) gs ≡ Some es → indexed env place (item_of env place x) gs ≡ a_value (late_item whole es) (declared_view of)
  pub on_top : ps ≡ an_expr whole ∷ below

-- the same value, which was pushed as a place: what arguments lead to in it is assigned to
pub record ValueAsPlace (env : Env) (of : DeclaredType) (place : Place) (x : plain.Term) (ps below : List Piece) : Type 0 where
  pub whole : bound.Expr
  pub is : (gs : List Given) (es : Exprs) → along_of (along_value env) gs ≡ Some es → indexed env place (item_of env place x) gs ≡ a_value (late_item whole es) type.variant
  pub of_is : declared_view of ≡ type.variant
  pub on_top : ps ≡ piece.a_place (value_place whole) ∷ below

pub record LedAsPlace (env : Env) (count : ℕ) (of : DeclaredType) (place : Place) (x : plain.Term) (ps below : List Piece) : Type 0 where
  pub whole : bound.Expr
  pub is : (gs : List Given) (es : Exprs) → ArePlain count gs → along_of (along_value env) gs ≡ Some es → indexed env place (item_of env place x) gs ≡ a_value (late_item whole es) (declared_view of)
  pub on_top : ps ≡ piece.a_place (value_place whole) ∷ below

abbrev pub TargetStands : Env → Target → DeclaredType → (bounds : ℕ) → (lends makes : Bool) → Place → plain.Term → (ps below : List Piece) → Type 0
TargetStands env (target.Variable v) of bounds lends makes place x ps below = VariableIndexed env v of bounds lends makes place x ps below
TargetStands env target.Place of bounds lends makes place x ps below = PlaceIndexed env of bounds lends makes place x ps below
TargetStands env target.Value of bounds lends makes place x ps below = ValueIndexed env of place x ps below
TargetStands env target.PlaceAlong of bounds lends makes place x ps below = PlaceAlong env of lends makes place x ps below
TargetStands env target.ValueAlong of bounds lends makes place x ps below = ValueAlong env of place x ps below
TargetStands env target.ValueAsPlace of bounds lends makes place x ps below = ValueAsPlace env of place x ps below
TargetStands env (target.PlaceLed count) of bounds lends makes place x ps below = PlaceLed env count of lends makes place x ps below
TargetStands env (target.ValueLed count) of bounds lends makes place x ps below = ValueLed env count of place x ps below
TargetStands env (target.LedAsPlace count) of bounds lends makes place x ps below = LedAsPlace env count of place x ps below

-- values that were pushed for arguments without names: each is what the list says of the first argument
pub record ValueIs (value : plain.Term → Place → Option bound.Expr) (g : Given) (e : bound.Expr) : Type 0 where
  pub no_name : g.name ≡ None
  pub is : (gs : List Given) → listed_values value (g ∷ gs) ≡ from_two also (Some e) (listed_values value gs)

abbrev pub AllListed : (plain.Term → Place → Option bound.Expr) → List Given → List bound.Expr → Type 0
AllListed value [] [] = Unit {0}
AllListed value (g ∷ gs) (e ∷ es) = ValueIs value g e × AllListed value gs es
AllListed value gs es = ⊥

-- what leads on as the run says, as a Variant takes it
abbrev pub along_given : Env → plain.Term → Place → Option bound.Expr
along_given env t place = option_map (given_to type.variant false place) (along_value env t place)

-- what was pushed for arguments: numbers; or what leads on as the run says, where one that isn't written is Missing, which
-- none is behind an object of a class
abbrev pub NumbersStand : Env → Target → List Given → List bound.Expr → Type 0
NumbersStand env target.PlaceAlong gs es = AllListed (along_given env) gs es
NumbersStand env target.ValueAlong gs es = AllListed (along_given env) gs es
NumbersStand env target.ValueAsPlace gs es = AllListed (along_given env) gs es
NumbersStand env (target.PlaceLed count) gs es = AllNumbers (along_given env) gs es
NumbersStand env (target.ValueLed count) gs es = AllNumbers (along_given env) gs es
NumbersStand env (target.LedAsPlace count) gs es = AllNumbers (along_given env) gs es
NumbersStand env other gs es = AllNumbers (operand_of env) gs es

-- what is indexed, and the numbers that were pushed
pub record IndexedStands (env : Env) (x : Indexed) (e : Expr) (args : Args) (ps below : List Piece) : Type 0 where
  pub between : List Piece
  pub target_is : TargetStands env x.target x.of x.bounds x.lends x.makes (place_told e) (callee env e (term_of env e)) between below
  pub place_is : x.place ≡ place_told e
  pub made : List bound.Expr
  pub numbers : NumbersStand env x.target (givens env args) made
  pub count_is : x.count ≡ length made
  pub on_top : ps ≡ above (map an_expr made) between

-- the same of a function that is called, by the numbers of its arguments, which may have names
pub record ArgumentIs (env : Env) (f : LibraryFunction) (i : ℕ) (g : Given) (e : bound.Expr) : Type 0 where
  pub is : (gs : List Given) → function_values env f i (g ∷ gs) ≡ from_two also (Some e) (function_values env f (suc i) gs)

abbrev pub AllValues : Env → LibraryFunction → ℕ → List Given → List bound.Expr → Type 0
AllValues env f i [] [] = Unit {0}
AllValues env f i (g ∷ gs) (e ∷ es) = ArgumentIs env f i g e × AllValues env f (suc i) gs es
AllValues env f i gs es = ⊥

pub record FunctionStands (env : Env) (x : FunctionCall) (e : Expr) (args : Args) (ps below : List Piece) : Type 0 where
  pub function_is : FunctionIs env x.function (callee env e (term_of env e))
  pub place_is : x.place ≡ place_told e
  pub made : List bound.Expr
  pub values : AllValues env x.function.function 0 (givens env args) made
  pub wrong_is : is_wrong x.function.function (givens env args) ≡ x.is_wrong
  pub first_is : first_given (givens env args) ≡ x.is_started
  pub count_is : x.count ≡ length made
  pub on_top : ps ≡ above (map an_expr made) below

-- the same of arguments that may have names
pub record GivenIs (value : plain.Term → Place → Option bound.Expr) (g : Given) (e : bound.Expr) : Type 0 where
  pub is : (gs : List Given) → listed_values value (g ∷ gs) ≡ from_two also (Some e) (listed_values value gs)

abbrev pub AllGiven : (plain.Term → Place → Option bound.Expr) → List Given → List bound.Expr → Type 0
AllGiven value [] [] = Unit {0}
AllGiven value (g ∷ gs) (e ∷ es) = GivenIs value g e × AllGiven value gs es
AllGiven value gs es = ⊥

-- an argument of a late-bound member that was pushed: what the list says of the first argument
pub record LateIs (env : Env) (g : Given) (a : GivenArgument) : Type 0 where
  pub is : (gs : List Given) → late_arguments env (g ∷ gs) ≡ option_map (with_given a) (late_arguments env gs)

abbrev pub AllLate : Env → List Given → List GivenArgument → Type 0
AllLate env [] [] = Unit {0}
AllLate env (g ∷ gs) (a ∷ args) = LateIs env g a × AllLate env gs args
AllLate env gs args = ⊥

-- whether an argument is written
abbrev pub argument_there : GivenArgument → Bool
argument_there (place_there x) = true
argument_there (value_there e) = is_there e

-- how arguments are to be named of a member that was looked up, and their names, where some are to have names
abbrev pub names_looked : Looked → Option ArgumentNames
names_looked (looked.Early names given) = names
names_looked (looked.Late aim found) = Some found.names

abbrev pub names_told : Tables → Option ArgumentNames → List (List ℕ)
names_told t None = []
names_told t (Some by) = piece.names_in t by.order

-- the names of so many arguments that have none
abbrev pub nameless : ℕ → List (Option (List ℕ))
nameless zero = []
nameless (suc n) = None ∷ nameless n

-- so many arguments without names, and behind them so many with the first of these names
pub record NamesCame (names : List (List ℕ)) (count : ℕ) (gs : List Given) : Type 0 where
  pub unnamed : ℕ
  pub are : map (λ (g : Given). g.name) gs ≡ nameless unnamed ++ map (λ (x : List ℕ). Some x) (take count names)
  pub there : count ≤ length names

-- the object whose member was looked up
abbrev pub looked_for : Tables → (name : ℕ) → Looked → bound.Expr → Piece
looked_for t name (looked.Early None given) object = a_member object (piece.name_in t name) given
looked_for t name (looked.Early (Some by) given) object = a_named_member object (piece.name_in t name) (piece.by_name_in t by) given
looked_for t name (looked.Late aim found) object = a_late object (sought_in t aim found)

-- values that were pushed for a member of the host, of which so many are written
pub record ValuesStand (env : Env) (t : Tables) (x : MemberCall) (names : Option ArgumentNames) (given : ℕ) (object : bound.Expr) (gs : List Given) (ps below : List Piece) : Type 0 where
  pub made : List bound.Expr
  pub values : AllGiven (argument_of env type.variant) gs made
  pub written_is : (more : List bound.Expr) → given_count (exprs_of (made ++ more)) ≡ x.written + given_count (exprs_of more)
  pub count_is : x.count ≡ length made
  pub on_top : ps ≡ above (map an_expr made) (looked_for t x.member.name (looked.Early names given) object ∷ below)

-- places and values that were pushed for a late-bound member, which is looked up by this; the first ones of those that are
-- to be written are
pub record LateStands (env : Env) (t : Tables) (x : MemberCall) (aim : LateUse) (found : LateName) (object : bound.Expr) (gs : List Given) (ps below : List Piece) : Type 0 where
  pub made : List GivenArgument
  pub arguments : AllLate env gs made
  pub given_are : map argument_there made ≡ flags (length made) (order_in t found.given)
  pub name_is : found.name ≡ x.member.name
  pub count_is : x.count ≡ length made
  pub on_top : ps ≡ above (given_pieces (sought_in t aim found) 0 made) (a_late object (sought_in t aim found) ∷ below)

abbrev pub ArgumentsStand : Looked → Env → Tables → MemberCall → bound.Expr → List Given → (ps below : List Piece) → Type 0
ArgumentsStand (looked.Early names given) env t x object gs ps below = ValuesStand env t x names given object gs ps below
ArgumentsStand (looked.Late aim found) env t x object gs ps below = LateStands env t x aim found object gs ps below

-- what brackets stand behind is such a member; where its object is what a property gave, behind some arguments
abbrev pub TakesMember : (of_property : Bool) → Env → Place → (x member : plain.Term) → Type 0
TakesMember false env place x member = item_of env place x ≡ member
TakesMember true env place x member = (g : Given) (gs : List Given) → value_before env place (g ∷ gs) x ≡ member

-- a member whose object was looked at, and the arguments that were pushed for it, by their names
pub record MemberStands (env : Env) (t : Tables) (x : MemberCall) (e : Expr) (args : Args) (ps below : List Piece) : Type 0 where
  pub object : bound.Expr
  pub is : TakesMember x.of_property env (place_told e) (callee env e (term_of env e)) (a_host_member object (member_is t x.member))
  pub place_is : x.place ≡ place_told e
  pub classes : has_class env.scope.spaces ≡ x.has_class
  pub names : NamesCame (names_told t (names_looked x.looked)) x.named (givens env args)
  pub pushed : ArgumentsStand x.looked env t x object (givens env args) ps below

-- the arguments before those with names
abbrev pub passed_below : List Item → Option Passed
passed_below (item.Named x ∷ items) = passed_below items
passed_below (item.Call x ∷ items) = Some x.passed
passed_below (item.Listed x ∷ items) = Some x
passed_below items = None

-- an argument that was pushed for a parameter by its name, among those that the arguments before leave
pub record NamedStands (env : Env) (passed : Passed) (x : Named) (name : Identifier) (e : Expr) (ps below : List Piece) : Type 0 where
  pub parameter : Parameter
  pub found : parameter_named passed.count (map parameter_view passed.left.now) name.name ≡ Some (x.number, parameter)
  pub made : Argument
  pub makes : (rest : bound.Args) → taken_by (argument_of env) parameter (record { name = Some name.name; term = Some (term_of env e); place = place_told e }) rest ≡ Some (with_argument made rest)
  pub on_top : ps ≡ an_argument made ∷ below

abbrev pub NamedAbove : Env → Option Passed → Named → Identifier → Expr → (ps below : List Piece) → Type 0
NamedAbove env None x name e ps below = ⊥
NamedAbove env (Some passed) x name e ps below = NamedStands env passed x name e ps below

-- whether the first of these parameters is a ParamArray
abbrev pub is_gathering : List Parameter → Bool
is_gathering [] = false
is_gathering (p ∷ ps) = p.many

-- the arguments before the values of a ParamArray
abbrev pub gathered_below : List Item → Option Passed
gathered_below (item.Gathered ∷ items) = gathered_below items
gathered_below (item.Call x ∷ items) = Some x.passed
gathered_below (item.Listed x ∷ items) = Some x
gathered_below items = None

-- a value that was pushed for a ParamArray, which is the first parameter that the arguments before leave; one that isn't
-- written is Missing
pub record GatheredStands (env : Env) (passed : Passed) (g : Given) (ps below : List Piece) : Type 0 where
  pub many : is_gathering (map parameter_view passed.left.now) ≡ true
  pub made : bound.Expr
  pub is : ValueIs (argument_of env type.variant) g made
  pub on_top : ps ≡ an_expr made ∷ below

abbrev pub GatheredAbove : Env → Option Passed → Given → (ps below : List Piece) → Type 0
GatheredAbove env None g ps below = ⊥
GatheredAbove env (Some passed) g ps below = GatheredStands env passed g ps below

-- ---- arguments that aren't taken

-- so many values were pushed before them
abbrev pub values_before : Refuser → ℕ
values_before (refuser.Procedure values ps of) = values
values_before (refuser.Value of bounds) = 1
values_before (refuser.Called of) = 1
values_before (refuser.Member m) = 1
values_before (refuser.Behind m) = 1
values_before (refuser.Led rule count) = 1
values_before refuser.Bare = 0

-- the declared type of what is called, which says that of what is marked
abbrev pub refused_type : Refuser → DeclaredType
refused_type (refuser.Procedure values ps of) = of
refused_type (refuser.Member m) = m.of
refused_type (refuser.Behind m) = m.of
refused_type r = Plain Variant

abbrev pub behind_values : List bound.Expr → Exprs → Exprs
behind_values [] es = es
behind_values (x ∷ xs) es = also x (behind_values xs es)

-- the rule that arguments break; none where they are taken, or where that isn't known
abbrev pub refused_rule : Tables → Refuser → List Given → Option ℕ
refused_rule t (refuser.Procedure values ps of) gs = if takes (map parameter_view ps.now) gs then None else Some 25
refused_rule t (refuser.Value of bounds) gs = if may_index (declared_view of) bounds gs then None else Some 25
refused_rule t (refuser.Called of) [] = None
refused_rule t (refuser.Called of) (g ∷ gs) = if may_index (declared_view of) 0 (g ∷ gs) then None else Some 25
refused_rule t (refuser.Member m) gs = if member_takes (member_is t m) gs then None else arguments_rule (member_is t m)
refused_rule t (refuser.Behind m) [] = None
refused_rule t (refuser.Behind m) (g ∷ gs) = if member_takes (member_is t m) (g ∷ gs) then None else arguments_rule (member_is t m)
refused_rule t refuser.Bare [] = None
refused_rule t refuser.Bare (g ∷ gs) = Some 25
refused_rule t (refuser.Led rule count) gs = if are_places gs && (length gs == count) then Some rule else None

-- what doesn't take its arguments, and the values that were pushed of it
pub record UntakenStands (env : Env) (t : Tables) (x : Untaken) (e : Expr) (ps below : List Piece) : Type 0 where
  pub place_is : x.place ≡ place_told e
  pub before : List bound.Expr
  pub before_long : length before ≡ values_before x.refuser
  pub wrong : (gs : List Given) (rule : ℕ) → refused_rule t x.refuser gs ≡ Some rule
      → indexed env (place_told e) (item_of env (place_told e) (callee env e (term_of env e))) gs ≡ wrong_arguments env (place_told e) rule (declared_view (refused_type x.refuser)) (behind_values before) gs
  pub on_top : ps ≡ above (map an_expr before) below

-- an argument of one, which was pushed as a Variant takes it
pub record ShapeStands (env : Env) (s : Shape) (g : Given) (ps below : List Piece) : Type 0 where
  pub shaped : IsShaped s g
  pub made : bound.Expr
  pub is : GivenIs (argument_of env type.variant) g made
  pub on_top : ps ≡ an_expr made ∷ below

abbrev pub named_given : Env → Identifier → Expr → Given
named_given env name e = record { name = Some name.name; term = Some (term_of env e); place = place_told e }

-- what is below the stack: pieces, the parameters of the statement whose arguments are read, and items
pub record Base : Type 0 where
  pub pieces : List Piece
  pub parameters : List Parameter
  pub items : List nodes.Item

abbrev pub on_pieces : List Piece → Base
on_pieces ps = record { pieces = ps; parameters = []; items = [] }

abbrev pub Stands : Env → Tables → List Item → List nodes.Item → (ps : List Piece) → Base → Type 0
Stands env t [] is ps base = (is ≡ base.items) × (ps ≡ base.pieces)
Stands env t (item.Tree x ∷ items) (nodes.tree e ∷ is) ps base =
    (below : List Piece) × (TreeStands env t x e ps below × Stands env t items is below base)
Stands env t (item.Operand x ∷ items) (nodes.tree e ∷ is) ps base =
    (below : List Piece) × (OperandStands env x e ps below × Stands env t items is below base)
Stands env t (item.Call x ∷ items) (nodes.arguments args ∷ nodes.tree e ∷ is) ps base =
    (below : List Piece) × (CallStands env x e args ps below × Stands env t items is below base)
Stands env t (item.Listed x ∷ items) (nodes.arguments args ∷ is) ps base =
    (below : List Piece) × (PassedStands env base.parameters x args ps below × Stands env t items is below base)
Stands env t (item.Indexed x ∷ items) (nodes.arguments args ∷ nodes.tree e ∷ is) ps base =
    (below : List Piece) × (IndexedStands env x e args ps below × Stands env t items is below base)
Stands env t (item.Function x ∷ items) (nodes.arguments args ∷ nodes.tree e ∷ is) ps base =
    (below : List Piece) × (FunctionStands env x e args ps below × Stands env t items is below base)
Stands env t (item.Member x ∷ items) (nodes.arguments args ∷ nodes.tree e ∷ is) ps base =
    (below : List Piece) × (MemberStands env t x e args ps below × Stands env t items is below base)
Stands env t (item.Named x ∷ items) (nodes.arguments (named before comma name mark e) ∷ is) ps base =
    (below : List Piece) × (NamedAbove env (passed_below items) x name e ps below × Stands env t items (nodes.arguments before ∷ is) below base)
Stands env t (item.Gathered ∷ items) (nodes.arguments (tree.plain before comma e) ∷ is) ps base =
    (below : List Piece) × (GatheredAbove env (gathered_below items) (plain_given env e) ps below × Stands env t items (nodes.arguments before ∷ is) below base)
Stands env t (item.Gathered ∷ items) (nodes.arguments (missing before comma) ∷ is) ps base =
    (below : List Piece) × (GatheredAbove env (gathered_below items) missing_given ps below × Stands env t items (nodes.arguments before ∷ is) below base)
Stands env t (item.Untaken x ∷ items) (nodes.arguments tree.no_args ∷ nodes.tree e ∷ is) ps base =
    (below : List Piece) × (UntakenStands env t x e ps below × Stands env t items is below base)
Stands env t (item.Unlisted ∷ items) (nodes.arguments tree.no_args ∷ is) ps base = Stands env t items is ps base
Stands env t (item.Shape s ∷ items) (nodes.arguments (tree.plain before comma e) ∷ is) ps base =
    (below : List Piece) × (ShapeStands env s (plain_given env e) ps below × Stands env t items (nodes.arguments before ∷ is) below base)
Stands env t (item.Shape s ∷ items) (nodes.arguments (missing before comma) ∷ is) ps base =
    (below : List Piece) × (ShapeStands env s missing_given ps below × Stands env t items (nodes.arguments before ∷ is) below base)
Stands env t (item.Shape s ∷ items) (nodes.arguments (named before comma name mark e) ∷ is) ps base =
    (below : List Piece) × (ShapeStands env s (named_given env name e) ps below × Stands env t items (nodes.arguments before ∷ is) below base)
Stands env t items is ps base = ⊥

-- ---- numbers of constants that are in the tables

abbrev pub TermNamed : Tables → Term → Type 0
TermNamed t (term.Place kind of bounds lends makes) = NodeNamed t kind
TermNamed t (term.Value e) = NodeNamed t e.kind
TermNamed t (term.HostMember m) = m.name < length t.constants
TermNamed t (term.SheetMember m) = m.name < length t.constants
TermNamed t x = Unit {0}

abbrev pub EndingNamed : Tables → Option Ending → Type 0
EndingNamed t None = Unit {0}
EndingNamed t (Some e) = NodeNamed t e.kind

abbrev pub AreNamed : Tables → Option ArgumentNames → Type 0
AreNamed t None = Unit {0}
AreNamed t (Some by) = NamesNamed t by

abbrev pub LookedNamed : Tables → Looked → Type 0
LookedNamed t (looked.Early names given) = AreNamed t names
LookedNamed t (looked.Late aim found) = LateNamed t found

abbrev pub MemberNamed : Tables → MemberCall → Type 0
MemberNamed t x = (x.member.name < length t.constants) × LookedNamed t x.looked

abbrev pub RefuserNamed : Tables → Refuser → Type 0
RefuserNamed t (refuser.Member m) = m.name < length t.constants
RefuserNamed t (refuser.Behind m) = m.name < length t.constants
RefuserNamed t r = Unit {0}

abbrev pub ItemNamed : Tables → Item → Type 0
ItemNamed t (item.Tree x) = TermNamed t x.term
ItemNamed t (item.Member x) = MemberNamed t x
ItemNamed t (item.Untaken x) = RefuserNamed t x.refuser
ItemNamed t x = Unit {0}

abbrev pub AllNamed : Tables → List Item → Type 0
AllNamed t [] = Unit {0}
AllNamed t (x ∷ xs) = ItemNamed t x × AllNamed t xs

-- ---- a draft of which only the pieces change, and the tables grow
pub record Grown (d e : Drafted) : Type 0 where
  pub tables : Extends d.tables e.tables
  pub statements : e.statements ≡ d.statements
  pub bodies : e.bodies ≡ d.bodies
