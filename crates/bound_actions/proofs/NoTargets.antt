-- What can't be assigned to: a Sub, and a ParamArray.
use Rattle.std.proofs.Common.{◌≡◌, ℕ, Bor, Bool, true, false, ◌&&◌, not, length, ◌==◌, List, [], ◌∷◌, Option, Some, None, option_map, if◌then◌else◌, refl, sym, ap, subst, ◌∙◌}
use Rattle.std.specs.Prelude.{◌||◌}
use Rattle.std.proofs.Math.Bool.{or-false}
use Rattle.std.proofs.lemmas.Bool.{and_right}
use Rattle.vba_base.specs.declared.place.Place.{Place}
use Rattle.vba_words.specs.declared.identifier.Identifier.{Identifier}
use Rattle.vba_tree.specs.declared.procedure.Parameter.{Parameter as ParameterHere}
use Rattle.vba_tree.specs.declared.procedure.ProcedureWords.{ProcedureWords}
use Rattle.vba_tree.specs.declared.procedure.ProcedureWords.TheVariants as words
use Rattle.vba_expression.specs.Tree.{Expr, index, name}
use Rattle.vba_expression.specs.Reader.{name_in}
use Rattle.vba_expression.specs.Nodes.{tree_in}
use Rattle.vba_expression.specs.declared.node.ExpressionNode.{ExpressionNode}
use Rattle.bound_project.specs.declared.declared_type.DeclaredType.{DeclaredType}
use Rattle.bound_project.specs.declared.statement.ActionKind.{ActionKind}
use Rattle.bound_project.specs.Bodies.{action_of}
use Rattle.bound_project.specs.Drafts.{Drafted}
use Rattle.bound_project.specs.Expressions.{no_exprs}
use Rattle.bound_project.specs.Expressions as bound
use Rattle.bound_project.specs.Pieces.{Piece, Tables, an_expr}
use Rattle.declared_names.specs.binder.specs.Declarations.{Own, Written, a_parameter}
use Rattle.declared_names.specs.binder.specs.Declarations as declared
use Rattle.declared_names.specs.binder.specs.Scopes.{Meant, Scope, Space, declares, of_procedure, plainly}
use Rattle.declared_names.specs.binder.specs.Scopes as scopes
use Rattle.declared_names.specs.binder.specs.Signatures.{call_type, is_get, is_property, procedure_with, reader}
use Rattle.declared_names.specs.binder.specs.Storage.{gives_value}
use Rattle.declared_names.specs.View.{meant_view, own_view, space_view, written_view}
use Rattle.declared_names.specs.declared.local.Local.{Local}
use Rattle.declared_names.specs.declared.local.Own.{Own as OwnHere}
use Rattle.declared_names.specs.declared.local.Own.TheVariants as own
use Rattle.declared_names.specs.declared.scope.Meant.{Meant as MeantHere}
use Rattle.declared_names.specs.declared.scope.Meant.TheVariants as meant
use Rattle.bound_terms.specs.bound_accesses.specs.bound_names.specs.bound_members.specs.bound_calls.specs.bound_forms.specs.Terms.{Env, Given, a_routine, routine_term}
use Rattle.bound_terms.specs.bound_accesses.specs.bound_names.specs.bound_members.specs.bound_calls.specs.bound_forms.specs.Terms as plain
use Rattle.bound_terms.specs.bound_accesses.specs.bound_names.specs.bound_members.specs.bound_calls.specs.bound_forms.specs.Operands.{place_told}
use Rattle.bound_terms.specs.bound_accesses.specs.bound_names.specs.bound_members.specs.bound_calls.specs.bound_forms.specs.ExpressionsBound.{callee, givens, indexes_value, meant_term, own_term, term_of}
use Rattle.bound_terms.specs.bound_accesses.specs.bound_names.specs.bound_members.specs.bound_calls.specs.bound_forms.specs.Targets.{broken_target, is_given_with, is_no_target, is_param_array, is_sub, is_sub_kind, is_indexed_late, sub_object, property_takes, property_type, takes_value, target_of_call, value_before, written_to}
use Rattle.bound_terms.specs.bound_accesses.specs.bound_names.specs.bound_members.specs.bound_calls.specs.declared.term.Property.{Property}
use Rattle.bound_terms.specs.bound_accesses.specs.bound_names.specs.bound_members.specs.bound_calls.specs.declared.term.Receiver.{Receiver}
use Rattle.bound_terms.specs.bound_accesses.specs.bound_names.specs.bound_members.specs.bound_calls.specs.declared.term.Routine.{Routine}
use Rattle.bound_terms.specs.bound_accesses.specs.bound_names.specs.bound_members.specs.bound_calls.specs.declared.term.Term.{Term}
use Rattle.bound_terms.specs.bound_accesses.specs.bound_names.specs.bound_members.specs.bound_calls.specs.declared.term.Term.TheVariants as term
use Rattle.bound_terms.specs.bound_accesses.specs.bound_names.specs.bound_members.specs.bound_calls.specs.declared.term.Tree.{Tree}
use Rattle.bound_terms.specs.bound_accesses.specs.bound_names.specs.bound_members.specs.bound_calls.specs.Standing.{LeafStands, TermStands, TreeStands}
use Rattle.bound_terms.specs.bound_accesses.specs.bound_names.specs.bound_members.specs.bound_calls.specs.Steps.{Leaves}
use Rattle.bound_terms.specs.bound_accesses.specs.bound_names.specs.bound_members.specs.bound_calls.proofs.Growing.{grown_twice}
use Rattle.bound_terms.specs.bound_accesses.specs.bound_names.specs.Callee.{CalleeIs}
use Rattle.statement_terms.specs.declared.trees.Split.{Split}
use Rattle.statement_terms.specs.Called.{AssignsTo, IsBare, LeavesAlone, SplitAt}
use Rattle.statement_terms.specs.Heights.{AddsOne}
use Rattle.statement_terms.proofs.Assigned.{bare_given, index_at}
use Rattle.statement_terms.proofs.SetTargets.{bare_callee}
use Rattle.bound_actions.specs.Assigning.{IsNoTarget, TakesLet, is_member, named_list}
use Rattle.bound_actions.specs.Behind.{TakesType}
use Rattle.bound_actions.specs.NoTargets.{IsProperty, IsSub, NoRoutine, RefusesTarget, TypesProperty, is_property_term, means_list, owns_list}
use Rattle.bound_actions.proofs.Behind.{term_called}

-- ---- Subs and properties

-- a procedure is a Sub where it neither gives a value nor is a property
kind_by : (kind : ProcedureWords) → is_sub_kind kind ≡ (not (gives_value kind) && not (is_property kind))
kind_by (words.Sub token) = refl
kind_by (words.Function token) = refl
kind_by (words.PropertyGet property_word get_word) = refl
kind_by (words.PropertyLet property_word let_word) = refl
kind_by (words.PropertySet property_word set_word) = refl

pub sub_kind : (kind : ProcedureWords) → (not (gives_value kind) && not (is_property kind)) ≡ is_sub_kind kind
sub_kind kind = sym (kind_by kind)

-- what isn't read is a property
unread_property : (s : Scope) (space : Space) (number : ℕ) (w : Written) → reader s space number w ≡ None → is_property w.kind ≡ true
unread_property s space number w h = by (is_property w.kind) refl
  where
    by : (b : Bool) → is_property w.kind ≡ b → is_property w.kind ≡ true
    by true e = e
    by false e = let found : Option (ℕ × Written) = Some (number, w) in let k : found ≡ None = sym (ap (λ (b : Bool). if b then procedure_with s is_get space w.name else Some (number, w)) e) ∙ h in absurd cc

-- whatever it is called of
routine_kind : (base : Option bound.Expr) (space : Space) (number : ℕ) (w : Written) → is_sub (routine_term base space number w) ≡ is_sub_kind w.kind
routine_kind None space number w = refl
routine_kind (Some b) space number w = refl

-- and a property is none
property_kind : (kind : ProcedureWords) → is_property kind ≡ true → is_sub_kind kind ≡ false
property_kind kind h = kind_by kind ∙ and_right (not (gives_value kind)) (not (is_property kind)) (ap not h)

pub routine_sub : (r : Routine) (sub : Bool) → sub ≡ is_sub_kind (written_view r.written).kind → IsSub (term.Routine r) sub
routine_sub r sub e = λ env t y ps below h.
    let s = h.routine in
    ap is_sub s.is ∙ routine_kind s.base s.space s.number s.written ∙ ap (λ (w : Written). is_sub_kind w.kind) s.written_is ∙ sym e

pub other_sub : (x : Term) → ((r : Routine) → (x ≡ term.Routine r) → ⊥) → IsSub x false
other_sub (term.Place kind of bounds lends makes) n = λ env t y ps below h. ap is_sub h.is
other_sub (term.Value e) n = λ env t y ps below h. ap is_sub h.is
other_sub (term.Routine r) n = absurd (n r refl)
other_sub (term.Property p) n = λ env t y ps below h.
    let s = h.property in
    let w = written_view p.written in
    ap is_sub s.is ∙ routine_kind s.base (space_view p.space.now) s.number w ∙ property_kind w.kind (unread_property env.scope (space_view p.space.now) s.number w h.unread)
other_sub (term.Function f) n = λ env t y ps below h. ap is_sub h.0.is
other_sub (term.HostMember m) n = λ env t y ps below h. ap is_sub h.is
other_sub (term.SheetMember m) n = λ env t y ps below h. ap is_sub h.0
other_sub term.Err n = λ env t y ps below h. ap is_sub h.0
other_sub term.ErrRaise n = λ env t y ps below h. ap is_sub h.0
other_sub term.ErrClear n = λ env t y ps below h. ap is_sub h.0
other_sub term.ErrorWord n = λ env t y ps below h. ap is_sub h.0
other_sub term.Nothing n = λ env t y ps below h. ap is_sub h

pub property_by : (base : Option bound.Expr) (space : Space) (number : ℕ) (w : Written) → is_property_term (routine_term base space number w) ≡ is_property w.kind
property_by None space number w = refl
property_by (Some b) space number w = refl

pub routine_property : (r : Routine) (property : Bool) → property ≡ is_property (written_view r.written).kind → IsProperty (term.Routine r) property
routine_property r property e = λ env t y ps below h.
    let s = h.routine in
    ap is_property_term s.is ∙ property_by s.base s.space s.number s.written ∙ ap (λ (w : Written). is_property w.kind) s.written_is ∙ sym e

pub property_property : (p : Property) → IsProperty (term.Property p) true
property_property p = λ env t y ps below h.
    let s = h.property in
    let w = written_view p.written in
    ap is_property_term s.is ∙ property_by s.base (space_view p.space.now) s.number w ∙ unread_property env.scope (space_view p.space.now) s.number w h.unread

pub other_property : (x : Term) → ((r : Routine) → (x ≡ term.Routine r) → ⊥) → ((p : Property) → (x ≡ term.Property p) → ⊥) → IsProperty x false
other_property (term.Place kind of bounds lends makes) n o = λ env t y ps below h. ap is_property_term h.is
other_property (term.Value e) n o = λ env t y ps below h. ap is_property_term h.is
other_property (term.Routine r) n o = absurd (n r refl)
other_property (term.Property p) n o = absurd (o p refl)
other_property (term.Function f) n o = λ env t y ps below h. ap is_property_term h.0.is
other_property (term.HostMember m) n o = λ env t y ps below h. ap is_property_term h.is
other_property (term.SheetMember m) n o = λ env t y ps below h. ap is_property_term h.0
other_property term.Err n o = λ env t y ps below h. ap is_property_term h.0
other_property term.ErrRaise n o = λ env t y ps below h. ap is_property_term h.0
other_property term.ErrClear n o = λ env t y ps below h. ap is_property_term h.0
other_property term.ErrorWord n o = λ env t y ps below h. ap is_property_term h.0
other_property term.Nothing n o = λ env t y ps below h. ap is_property_term h

-- a property that is read is of the type that its Get gives
read_type : (env : Env) (space : Space) (number : ℕ) (w : Written) (read : ℕ × Written) → reader env.scope space number w ≡ Some read → property_type env space number w ≡ call_type env.scope space read.1
read_type env space number w read h = rw h refl

pub routine_typed : (env : Env) (r : Routine) → is_property (written_view r.written).kind ≡ true → TypesProperty env (term.Routine r) (Some (r.receiver, r.of))
routine_typed env r property = λ t y ps below h.
    let s = h.routine in
    record {
      base = s.base;
      space = s.space;
      number = s.number;
      written = s.written;
      is = s.is;
      property = ap (λ (w : Written). is_property w.kind) s.written_is ∙ property;
      received = s.received;
      pushed = h.pushed;
      type_is = read_type env s.space s.number s.written s.read s.reads ∙ sym s.of_is;
    }

-- and one that isn't of the type that its Let takes
unread_type : (env : Env) (space : Space) (number : ℕ) (w : Written) → reader env.scope space number w ≡ None → property_type env space number w ≡ property_takes env space w
unread_type env space number w h = rw h refl

pub property_typed : (env : Env) (p : Property) (of : DeclaredType) → TakesType env p of → TypesProperty env (term.Property p) (Some (p.receiver, of))
property_typed env p of takes = λ t y ps below h.
    let s = h.property in
    let space = space_view p.space.now in
    let w = written_view p.written in
    record {
      base = s.base;
      space = space;
      number = s.number;
      written = w;
      is = s.is;
      property = unread_property env.scope space s.number w h.unread;
      received = s.received;
      pushed = s.pushed;
      type_is = unread_type env space s.number w h.unread ∙ takes s.placed;
    }

pub typed_at : (env : Env) (x y : Term) (found : Option (Receiver × DeclaredType)) → x ≡ y → TypesProperty env y found → TypesProperty env x found
typed_at env x y found is h = let P : Term → Type 0 = λ (z : Term). TypesProperty env z found in subst P (sym is) h

-- ---- ParamArrays

pub other_own : (o : OwnHere) → ((p : Bor ParameterHere) → (o ≡ own.Parameter p) → ⊥) → owns_list (own_view o) ≡ false
other_own (own.Result w) n = refl
other_own (own.Parameter p) n = absurd (n p refl)
other_own (own.Variable v static) n = refl
other_own (own.Constant c) n = refl
other_own (own.Array clause static) n = refl
other_own (own.Undeclared static) n = refl

pub other_meant : (m : MeantHere) → ((number : ℕ) (l : Local) → (m ≡ meant.OfProcedure number l) → ⊥) → means_list (Some (meant_view m)) ≡ false
other_meant (meant.OfProcedure number l) n = absurd (n number l refl)
other_meant (meant.OfModule space number entry) n = refl
other_meant (meant.Module space) n = refl
other_meant meant.Library n = refl
other_meant meant.OfHost n = refl
other_meant meant.OfLibrary n = refl

-- an expression is that of a ParamArray by its name
pub list_named : (env : Env) (e : Expr) → is_param_array env e ≡ named_list env (name_in e)
list_named env (name x) = refl
list_named env e = refl

-- ---- what can't be assigned to

pub no_target_is : (env : Env) (x : Tree) (sub list : Bool) → IsSub x.term sub → list ≡ named_list env (option_map (λ name. name.now) x.name) → IsNoTarget env x (sub || list)
no_target_is env x sub list s n = λ t tree ps below bare h.
    ap (λ (y : plain.Term). is_sub y || is_param_array env tree) (bare_callee env tree bare) ∙ ap (λ (b : Bool). b || is_param_array env tree) (s env t (term_of env tree) ps below h.term_is)
    ∙ ap (λ (b : Bool). sub || b) (list_named env tree ∙ ap (λ (o : Option Identifier). named_list env o) (sym h.name_is) ∙ sym n)

sub_member : (y : plain.Term) → is_sub y ≡ true → is_member y ≡ false
sub_member (plain.a_host_member e m) h = let z : false ≡ true = h in absurd cc
sub_member y h = refl

-- the value that a Sub is given doesn't come as it is
sub_early : (env : Env) (place : Place) (y : plain.Term) → is_sub y ≡ true → is_indexed_late env place y ≡ false
sub_early env place (plain.a_place x of bounds lends makes) h = let z : false ≡ true = h in absurd cc
sub_early env place (plain.a_value node of) h = let z : false ≡ true = h in absurd cc
sub_early env place y h = refl

not_get : (kind : ProcedureWords) → is_property kind ≡ false → is_get kind ≡ false
not_get (words.Sub token) h = refl
not_get (words.Function token) h = refl
not_get (words.PropertyGet property_word get_word) h = let z : true ≡ false = h in absurd cc
not_get (words.PropertyLet property_word let_word) h = refl
not_get (words.PropertySet property_word set_word) h = refl

not_indexing : (w : Written) (gs : List Given) → is_property w.kind ≡ false → indexes_value w gs ≡ false
not_indexing w [] h = refl
not_indexing w (g ∷ gs) h = ap (λ (b : Bool). b && (length w.parameters == 0)) (not_get w.kind h)

-- nor do they index what it gives
read_itself : (env : Env) (space : Space) (number : ℕ) (w : Written) → is_property w.kind ≡ false → reader env.scope space number w ≡ Some (number, w)
read_itself env space number w k = ap (λ (b : Bool). if b then procedure_with env.scope is_get space w.name else Some (number, w)) k

no_property : (kind : ProcedureWords) → is_sub_kind kind ≡ true → is_property kind ≡ false
no_property (words.Sub token) h = refl
no_property (words.Function token) h = let z : false ≡ true = h in absurd cc
no_property (words.PropertyGet property_word get_word) h = let z : false ≡ true = h in absurd cc
no_property (words.PropertyLet property_word let_word) h = let z : false ≡ true = h in absurd cc
no_property (words.PropertySet property_word set_word) h = let z : false ≡ true = h in absurd cc

sub_before : (env : Env) (place : Place) (gs : List Given) (y : plain.Term) → is_sub y ≡ true → value_before env place gs y ≡ y
sub_before env place gs (a_routine space number w) h = let k = no_property w.kind h in rw (read_itself env space number w k, not_indexing w gs k) refl
sub_before env place gs (plain.a_method base space number w) h = let k = no_property w.kind h in rw (read_itself env space number w k, not_indexing w gs k) refl
sub_before env place gs (plain.a_place x of bounds lends makes) h = let z : false ≡ true = h in absurd cc
sub_before env place gs (plain.a_value node of) h = let z : false ≡ true = h in absurd cc
sub_before env place gs (plain.a_function f text_form base) h = let z : false ≡ true = h in absurd cc
sub_before env place gs (plain.a_host_member e m) h = let z : false ≡ true = h in absurd cc
sub_before env place gs plain.err_object h = let z : false ≡ true = h in absurd cc
sub_before env place gs plain.err_raise h = let z : false ≡ true = h in absurd cc
sub_before env place gs plain.err_clear h = let z : false ≡ true = h in absurd cc
sub_before env place gs plain.error_word h = let z : false ≡ true = h in absurd cc
sub_before env place gs plain.no_term h = let z : false ≡ true = h in absurd cc

-- nothing is pushed for a name
named_pushes : (env : Env) (x : Option Identifier) (ps below : List Piece) → named_list env x ≡ true → LeafStands x ps below → ps ≡ below
named_pushes env None ps below l h = let z : false ≡ true = l in absurd cc
named_pushes env (Some x) ps below l h = h

-- a ParamArray is a place
own_member : (env : Env) (x : Identifier) (number : ℕ) (l : declared.Local) (o : Own) → l.own ≡ o → owns_list o ≡ true → is_member (own_term env x number l) ≡ false
own_member env x number l (declared.the_result w) k h = let z : false ≡ true = h in absurd cc
own_member env x number l (a_parameter p) k h = rw k refl
own_member env x number l (declared.a_local v static) k h = let z : false ≡ true = h in absurd cc
own_member env x number l (declared.a_local_constant c) k h = let z : false ≡ true = h in absurd cc
own_member env x number l (declared.an_array clause static) k h = let z : false ≡ true = h in absurd cc
own_member env x number l (declared.undeclared static) k h = let z : false ≡ true = h in absurd cc

meant_member : (env : Env) (x : Identifier) (m : Option Meant) → means_list m ≡ true → is_member (meant_term env x m) ≡ false
meant_member env x None h = let z : false ≡ true = h in absurd cc
meant_member env x (Some (of_procedure number l)) h = own_member env x number l l.own refl h
meant_member env x (Some (scopes.of_module space number entry)) h = let z : false ≡ true = h in absurd cc
meant_member env x (Some (scopes.a_module space)) h = let z : false ≡ true = h in absurd cc
meant_member env x (Some scopes.the_library) h = let z : false ≡ true = h in absurd cc
meant_member env x (Some scopes.of_host) h = let z : false ≡ true = h in absurd cc
meant_member env x (Some scopes.of_library) h = let z : false ≡ true = h in absurd cc

list_member : (env : Env) (e : Expr) → is_param_array env e ≡ true → is_member (term_of env e) ≡ false
list_member env (name x) h = meant_member env x (declares plainly env.scope x) (sym (list_named env (name x)) ∙ h)
list_member env e h = let z : false ≡ true = h in absurd cc

-- which is called of nothing
own_object : (env : Env) (x : Identifier) (number : ℕ) (l : declared.Local) (o : Own) → l.own ≡ o → owns_list o ≡ true → sub_object (own_term env x number l) ≡ no_exprs
own_object env x number l (declared.the_result w) k h = let z : false ≡ true = h in absurd cc
own_object env x number l (a_parameter p) k h = rw k refl
own_object env x number l (declared.a_local v static) k h = let z : false ≡ true = h in absurd cc
own_object env x number l (declared.a_local_constant c) k h = let z : false ≡ true = h in absurd cc
own_object env x number l (declared.an_array clause static) k h = let z : false ≡ true = h in absurd cc
own_object env x number l (declared.undeclared static) k h = let z : false ≡ true = h in absurd cc

meant_object : (env : Env) (x : Identifier) (m : Option Meant) → means_list m ≡ true → sub_object (meant_term env x m) ≡ no_exprs
meant_object env x None h = let z : false ≡ true = h in absurd cc
meant_object env x (Some (of_procedure number l)) h = own_object env x number l l.own refl h
meant_object env x (Some (scopes.of_module space number entry)) h = let z : false ≡ true = h in absurd cc
meant_object env x (Some (scopes.a_module space)) h = let z : false ≡ true = h in absurd cc
meant_object env x (Some scopes.the_library) h = let z : false ≡ true = h in absurd cc
meant_object env x (Some scopes.of_host) h = let z : false ≡ true = h in absurd cc
meant_object env x (Some scopes.of_library) h = let z : false ≡ true = h in absurd cc

list_object : (env : Env) (e : Expr) → is_param_array env e ≡ true → sub_object (term_of env e) ≡ no_exprs
list_object env (name x) h = meant_object env x (declares plainly env.scope x) (sym (list_named env (name x)) ∙ h)
list_object env e h = let z : false ≡ true = h in absurd cc

-- what is no procedure that is read was the name of a ParamArray
target_parts : (env : Env) (t : Tables) (x : Tree) (e : Expr) (ps below : List Piece) → IsBare e → is_no_target env e ≡ true → NoRoutine x.term → TreeStands env t x e ps below → (ps ≡ below) × (sub_object (term_of env e) ≡ no_exprs)
target_parts env t x e ps below bare none other h = by (is_sub (target_of_call env e)) refl
  where
    by : (b : Bool) → is_sub (target_of_call env e) ≡ b → (ps ≡ below) × (sub_object (term_of env e) ≡ no_exprs)
    by true s = (let z : false ≡ true = sym (other_sub x.term other env t (term_of env e) ps below h.term_is) ∙ sym (ap is_sub (bare_callee env e bare)) ∙ s in absurd cc)
    by false s =
        let l : is_param_array env e ≡ true = sym (ap (λ (b : Bool). b || is_param_array env e) s) ∙ none in
        (named_pushes env (option_map (λ name. name.now) x.name) ps below (ap (λ (o : Option Identifier). named_list env o) h.name_is ∙ sym (list_named env e) ∙ l) h.leaf, list_object env e l)

target_member : (env : Env) (e : Expr) → IsBare e → is_no_target env e ≡ true → is_member (term_of env e) ≡ false
target_member env e bare none = by (is_sub (target_of_call env e)) refl
  where
    by : (b : Bool) → is_sub (target_of_call env e) ≡ b → is_member (term_of env e) ≡ false
    by true s = sub_member (term_of env e) (sym (ap is_sub (bare_callee env e bare)) ∙ s)
    by false s = list_member env e (sym (ap (λ (b : Bool). b || is_param_array env e) s) ∙ none)

pub bare_refused : (env : Env) (may : Option Bool) (place : Expr) (x : Tree) (given : Bool) (d f e : Drafted) (kind : ActionKind) → IsBare place → Leaves env place d f x → IsNoTarget env x true → TakesLet env x.term given → RefusesTarget x.term x.place f e kind → AssignsTo env may place d e kind given
bare_refused env may place x given d f e kind bare l n g r =
    let y = term_of env place in
    let p = place_told place in
    let none : is_no_target env place ≡ true = n f.tables place f.pieces d.pieces bare l.stands in
    record {
      grown = grown_twice d f e l.grown r.grown;
      named = r.named;
      takes = bare_given env place bare ∙ g f.tables y f.pieces d.pieces (target_member env place bare none) l.stands.term_is;
      stands = λ value goes alone.
          let below = an_expr value ∷ [] in
          let T : List Piece → Type 0 = λ (ps : List Piece). TreeStands env f.tables x place f.pieces ps in
          let there = subst T alone l.stands in
          let F : Place → Type 0 = λ (q : Place). action_of e.tables kind e.pieces ≡ Some (broken_target 27 q value (sub_object y)) in
          record {
            made = broken_target 27 p value (sub_object y);
            is = ap (λ (b : Bool). if b then Some (broken_target 27 p value (sub_object (target_of_call env place))) else written_to env place value) none
                ∙ ap (λ (t : plain.Term). Some (broken_target 27 p value (sub_object t))) (bare_callee env place bare);
            fits = subst F l.stands.place_is (r.does env y value there.term_is (λ other. target_parts env f.tables x place f.pieces below bare none other there));
          };
    }

-- a Sub is one that is read
sub_routine : (env : Env) (t : Tables) (x : Term) (y : plain.Term) (ps below qs rs : List Piece) → is_sub y ≡ true → TermStands env t x y ps below → NoRoutine x → (qs ≡ rs) × (sub_object y ≡ no_exprs)
sub_routine env t x y ps below qs rs is h other = let z : false ≡ true = sym (other_sub x other env t y ps below h) ∙ is in absurd cc

-- and what is done with it
pub sub_done : (env : Env) (x : Term) (y : plain.Term) (place p : Place) (below : List Piece) (value : bound.Expr) (d e : Drafted) (kind : ActionKind) → RefusesTarget x place d e kind → is_sub y ≡ true → TermStands env d.tables x y d.pieces below → below ≡ an_expr value ∷ [] → place ≡ p
    → action_of e.tables kind e.pieces ≡ Some (broken_target 27 p value (sub_object y))
sub_done env x y place p below value d e kind r is h alone at =
    let T : List Piece → Type 0 = λ (ps : List Piece). TermStands env d.tables x y d.pieces ps in
    let F : Place → Type 0 = λ (q : Place). action_of e.tables kind e.pieces ≡ Some (broken_target 27 q value (sub_object y)) in
    let there = subst T alone h in
    subst F at (r.does env y value there (sub_routine env d.tables x y d.pieces (an_expr value ∷ []) d.pieces (an_expr value ∷ []) is there))

pub split_refused : (env : Env) (may : Option Bool) (split : Split) (all : List ExpressionNode) (x : Tree) (y : Term) (given : Bool) (d f g e : Drafted) (kind : ActionKind) → SplitAt split all → AddsOne split.arguments.now → LeavesAlone env split.target.now d f x
    → CalleeIs env x f g y → IsSub y true → TakesLet env y given → RefusesTarget y x.place g e kind → AssignsTo env may (tree_in all) d e kind given
split_refused env may split all x y given d f g e kind at one l c sub has r =
    let base = tree_in split.target.now in
    let there = index_at split all at l.alone one in
    let args = there.0 in
    let tree = index base at.left args at.right in
    let z = callee env base (term_of env base) in
    let p = place_told base in
    let s = term_called env split.target.now x y d f g l c in
    let is : is_sub z ≡ true = sub env g.tables z g.pieces d.pieces s in
    let takes : takes_value env z ≡ given = has g.tables z g.pieces d.pieces (sub_member z is) s in
    let P : Expr → Type 0 = λ (t : Expr). AssignsTo env may t d e kind given in
    subst P (sym there.1) (record {
      grown = grown_twice d f e l.leaves.grown (grown_twice f g e c.grown r.grown);
      named = r.named;
      takes = ap (λ (q : plain.Term). takes_value env q || is_indexed_late env p q) (sub_before env p (givens env args) z is) ∙ ap (λ (b : Bool). b || is_indexed_late env p z) takes
          ∙ ap (λ (b : Bool). given || b) (sub_early env p z is) ∙ or-false given;
      stands = λ value goes alone.
          record {
            made = broken_target 27 p value (sub_object z);
            is = ap (λ (b : Bool). if b || is_param_array env tree then Some (broken_target 27 p value (sub_object z)) else written_to env tree value) is;
            fits = sub_done env y z x.place p d.pieces value g e kind r is s alone l.leaves.stands.place_is;
          };
    })
