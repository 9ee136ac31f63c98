-- What brackets stand behind: a term, or what a property without parameters gives.
use Rattle.std.proofs.Common.{◌≡◌, ℕ, Bool, true, false, List, [], ◌∷◌, length, Option, Some, None, option_map, if◌then◌else◌, refl, sym, ap, ◌∙◌}
use Rattle.std.specs.Prelude.{◌&&◌, ◌||◌, ◌==◌, bytes_eq, codes, unwrap_or}
use Rattle.std.proofs.lemmas.Bool.{eqb-true}
use Rattle.std.proofs.lemmas.List.{nil_from_length}
use Rattle.vba_base.specs.declared.place.Place.{Place}
use Rattle.vba_values.specs.Types.{Declared}
use Rattle.bound_project.specs.Expressions as bound
use Rattle.bound_project.specs.Project.{Parameter}
use Rattle.bound_declarations.specs.constant_values.specs.declared_names.specs.binder.specs.Constants.{home}
use Rattle.bound_declarations.specs.constant_values.specs.declared_names.specs.binder.specs.Declarations.{Written}
use Rattle.bound_declarations.specs.constant_values.specs.declared_names.specs.binder.specs.Names.{scope_in}
use Rattle.bound_declarations.specs.constant_values.specs.declared_names.specs.binder.specs.Scopes.{Scope, Space}
use Rattle.bound_declarations.specs.constant_values.specs.declared_names.specs.binder.specs.Signatures.{call_type, is_get, parameters_in, reader}
use Rattle.bound_declarations.specs.constant_values.specs.declared_names.specs.binder.specs.Storage.{bound_parameters, procedure_number, takes_value}
use Rattle.bound_declarations.specs.constant_values.specs.declared_names.specs.binder.specs.Types.{is_object}
use Rattle.bound_forms.specs.Terms.{Env, Given, HostMember, Term, a_function, a_host_member, a_method, a_place, a_routine, a_value, bound_arguments, err_clear, err_object, err_raise, error_word, expression_of, no_term, routine_term, takes}
use Rattle.bound_forms.specs.Operands.{HostKind, argument_of, bare_call, behind_base, call_node, call_value, host_kind, if_there, term_or, workbook}
use Rattle.bound_forms.specs.Members.{has_item_member, item_of, member_in, member_of_kind, member_of_other, object_member, sheets_value, unknown_member}
use Rattle.bound_forms.specs.ExpressionsBound.{call_with, indexed, indexes_value, node_or, taken_by_term, value_indexed, wrong_arguments, wrong_call, wrong_term, wrong_value}
use Rattle.bound_forms.specs.Targets.{value_before}

-- ---- what brackets take of a value: a value, a member, or nothing

abbrev is_value_or_member : Term → Bool
is_value_or_member (a_value node of) = true
is_value_or_member (a_host_member e m) = true
is_value_or_member no_term = true
is_value_or_member t = false

-- brackets behind one of these are brackets behind a property's value
value_brackets : (env : Env) (place : Place) (t : Term) (gs : List Given) → is_value_or_member t ≡ true → indexed env place t gs ≡ term_or (value_indexed env place t gs) (wrong_value env place t gs)
value_brackets env place (a_value node of) gs h = refl
value_brackets env place (a_host_member e m) gs h = refl
value_brackets env place no_term gs h = refl
value_brackets env place t gs h = let e : false ≡ true = h in absurd cc

one_if : (b : Bool) (t u : Term) → is_value_or_member t ≡ true → is_value_or_member u ≡ true → is_value_or_member (if b then t else u) ≡ true
one_if true t u h k = h
one_if false t u h k = k

one_unwrap : {A : Type 0} (f : A → Term) (o : Option A) (t : Term) → ((a : A) → is_value_or_member (f a) ≡ true) → is_value_or_member t ≡ true → is_value_or_member (unwrap_or (option_map f o) t) ≡ true
one_unwrap f None t h k = k
one_unwrap f (Some a) t h k = h a

one_kind : (kind : HostKind) (dot : Place) (e : bound.Expr) (fold : List ℕ) → is_value_or_member (member_of_kind kind dot e fold) ≡ true
one_kind workbook dot e fold = one_if (bytes_eq fold (codes "worksheets") || bytes_eq fold (codes "sheets")) sheets_value (unknown_member dot e) refl refl
one_kind kind dot e fold = one_unwrap (λ (m : HostMember). a_host_member e m) (member_in kind fold) (unknown_member dot e) (λ m. refl) refl

one_member : (place dot : Place) (node : bound.Node) (of : Declared) (fold : List ℕ) → is_value_or_member (object_member place dot node of fold) ≡ true
one_member place dot node of fold =
    let e = expression_of node place of in
    one_unwrap (λ (kind : HostKind). member_of_kind kind dot e fold) (host_kind node of) (member_of_other dot e) (λ kind. one_kind kind dot e fold) (one_if (is_object of) no_term (unknown_member dot e) refl refl)

pub item_of_value : (env : Env) (place : Place) (node : bound.Node) (of : Declared) → is_value_or_member (item_of env place (a_value node of)) ≡ true
item_of_value env place node of =
    one_if (has_item_member env (expression_of node place of)) (object_member place place node of (codes "item")) (a_value node of) (one_member place place node of (codes "item")) refl

-- ---- a property that has no parameters

-- none are bound where none are written
no_parameters : (env : Env) (space : Space) (w : Written) → (length w.parameters == 0) ≡ true → parameters_in env.scope space w ≡ []
no_parameters env space w h =
    ap (λ l. bound_parameters (scope_in (home env.scope space) w) (takes_value w.kind) l) (nil_from_length w.parameters (eqb-true (length w.parameters) 0 h))

-- the value of a call of it
abbrev property_node : Env → Option bound.Expr → Space → ℕ × Written → bound.Node
property_node env base space f = call_node base (procedure_number env.scope space f.0) bound.no_args

bare_property : (env : Env) (base : Option bound.Expr) (space : Space) (number : ℕ) (w : Written) (f : ℕ × Written) → reader env.scope space number w ≡ Some f → (length f.1.parameters == 0) ≡ true
    → bare_call env base space number w ≡ a_value (property_node env base space f) (call_type env.scope space f.1)
bare_property env base space number w f reads none =
    let no_value : Declared → Term → Place → Option bound.Expr = λ of t place. None in
    let bare : ℕ × Written → Term = λ (g : ℕ × Written). call_value env base space g.0 g.1 (bound_arguments no_value (parameters_in env.scope space g.1) []) in
    ap (λ (o : Option (ℕ × Written)). if_there (option_map bare o)) reads
    ∙ ap (λ (ps : List Parameter). call_value env base space f.0 f.1 (bound_arguments no_value ps [])) (no_parameters env space f.1 none)

both_hold : (a b : Bool) → (a && b) ≡ true → b ≡ true
both_hold true b h = h
both_hold false b h = let e : false ≡ true = h in absurd cc

no_more : (f : ℕ × Written) (gs : List Given) → indexes_value f.1 gs ≡ true → (length f.1.parameters == 0) ≡ true
no_more f [] h = let e : false ≡ true = h in absurd cc
no_more f (g ∷ gs) h = both_hold (is_get f.1.kind) (length f.1.parameters == 0) h

-- ---- brackets behind a term are brackets behind what they index

indexed_property : (env : Env) (place : Place) (base : Option bound.Expr) (space : Space) (number : ℕ) (w : Written) (gs : List Given) → indexed env place (routine_term base space number w) gs ≡ indexed env place (value_before env place gs (routine_term base space number w)) gs
indexed_property env place None space number w gs = by (reader env.scope space number w) refl
  where
    split : (f : ℕ × Written) → reader env.scope space number w ≡ Some f → (b : Bool) → indexes_value f.1 gs ≡ b → indexed env place (a_routine space number w) gs ≡ indexed env place (value_before env place gs (a_routine space number w)) gs
    split f is true h =
        let made = property_node env None space f in
        let of = call_type env.scope space f.1 in
        rw (is, h, no_parameters env space f.1 (no_more f gs h)) (sym (value_brackets env place (item_of env place (a_value made of)) gs (item_of_value env place made of)))
    split f is false h = rw (is, h) (rw (is, h) refl)

    by : (o : Option (ℕ × Written)) → reader env.scope space number w ≡ o → indexed env place (a_routine space number w) gs ≡ indexed env place (value_before env place gs (a_routine space number w)) gs
    by None is = rw is (rw is refl)
    by (Some f) is = split f is (indexes_value f.1 gs) refl
indexed_property env place (Some base) space number w gs = by (reader env.scope space number w) refl
  where
    split : (f : ℕ × Written) → reader env.scope space number w ≡ Some f → (b : Bool) → indexes_value f.1 gs ≡ b → indexed env place (a_method base space number w) gs ≡ indexed env place (value_before env place gs (a_method base space number w)) gs
    split f is true h =
        let made = property_node env (Some base) space f in
        let of = call_type env.scope space f.1 in
        rw (is, h, no_parameters env space f.1 (no_more f gs h)) (sym (value_brackets env place (item_of env place (a_value made of)) gs (item_of_value env place made of)))
    split f is false h = rw (is, h) (rw (is, h) refl)

    by : (o : Option (ℕ × Written)) → reader env.scope space number w ≡ o → indexed env place (a_method base space number w) gs ≡ indexed env place (value_before env place gs (a_method base space number w)) gs
    by None is = rw is (rw is refl)
    by (Some f) is = split f is (indexes_value f.1 gs) refl

pub indexed_before : (env : Env) (place : Place) (z : Term) (gs : List Given) → indexed env place (item_of env place z) gs ≡ indexed env place (value_before env place gs z) gs
indexed_before env place (a_place x of bounds lends makes) gs = refl
indexed_before env place (a_value node of) gs = refl
indexed_before env place (a_routine space number w) gs = indexed_property env place None space number w gs
indexed_before env place (a_method base space number w) gs = indexed_property env place (Some base) space number w gs
indexed_before env place (a_function f text_form base) gs = refl
indexed_before env place (a_host_member e m) gs = refl
indexed_before env place err_object gs = refl
indexed_before env place err_raise gs = refl
indexed_before env place err_clear gs = refl
indexed_before env place error_word gs = refl
indexed_before env place no_term gs = refl
