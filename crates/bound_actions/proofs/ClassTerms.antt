-- What is declared as of a class, and what isn't, before arguments in brackets.
use Rattle.std.proofs.Common.{◌≡◌, ℕ, Bool, true, false, not, ◌||◌, List, [], Option, Some, None, refl, sym, ap, subst, ◌∙◌}
use Rattle.std.specs.Prelude.{option_map, if◌then◌else◌}
use Rattle.vba_base.specs.declared.place.Place.{Place}
use Rattle.vba_values.specs.Types.{Declared}
use Rattle.vba_values.specs.Types as type
use Rattle.bound_project.specs.Expressions as bound
use Rattle.bound_project.specs.Expressions.{Exprs, also, element_value, late_item, marked, no_exprs}
use Rattle.bound_project.specs.Pieces.{Piece, Tables}
use Rattle.declared_names.specs.View.{space_view, written_view}
use Rattle.declared_names.specs.binder.specs.Classes.{class_in}
use Rattle.declared_names.specs.binder.specs.Constants.{is_variant}
use Rattle.declared_names.specs.binder.specs.Declarations.{Written}
use Rattle.declared_names.specs.binder.specs.Scopes.{Space}
use Rattle.bound_terms.specs.bound_accesses.specs.bound_names.specs.bound_members.specs.bound_calls.specs.bound_forms.specs.ClassDefaults.{class_let, declared_in}
use Rattle.bound_terms.specs.bound_accesses.specs.bound_names.specs.bound_members.specs.bound_calls.specs.bound_forms.specs.Terms.{Env, Given, a_place, a_value, expression_of, no_term, read_of, routine_term}
use Rattle.bound_terms.specs.bound_accesses.specs.bound_names.specs.bound_members.specs.bound_calls.specs.bound_forms.specs.Terms as plain
use Rattle.bound_terms.specs.bound_accesses.specs.bound_names.specs.bound_members.specs.bound_calls.specs.bound_forms.specs.Operands.{along_of, along_type, element_of_value, if_there, indexed_type, indexed_value, is_found_late, is_of_class, numbers_of, operand_of, term_or, with_type}
use Rattle.bound_terms.specs.bound_accesses.specs.bound_names.specs.bound_members.specs.bound_calls.specs.bound_forms.specs.Members.{item_of}
use Rattle.bound_terms.specs.bound_accesses.specs.bound_names.specs.bound_members.specs.bound_calls.specs.bound_forms.specs.ExpressionsBound.{along_value, indexed, may_index, variant_arguments, wrong_arguments, wrong_index}
use Rattle.bound_terms.specs.bound_accesses.specs.bound_names.specs.bound_members.specs.bound_calls.specs.bound_forms.specs.Targets.{assigned, class_of_term, index_assigned, is_indexed_late, led_assigned}
use Rattle.bound_terms.specs.bound_accesses.specs.bound_names.specs.bound_members.specs.bound_calls.specs.declared.term.Term.{Term}
use Rattle.bound_terms.specs.bound_accesses.specs.bound_names.specs.bound_members.specs.bound_calls.specs.declared.term.Term.TheVariants as term
use Rattle.bound_terms.specs.bound_accesses.specs.bound_names.specs.bound_members.specs.bound_calls.specs.Standing.{TermStands}
use Rattle.bound_terms.specs.bound_accesses.specs.bound_names.specs.bound_members.specs.bound_calls.specs.class_defaults.proofs.Passed.{class_is}
use Rattle.bound_terms.specs.bound_accesses.specs.Items.{ItemKept}
use Rattle.bound_actions.specs.ClassItems.{term_class}

-- a procedure is declared as of no class
pub routine_class : (base : Option bound.Expr) (space : Space) (number : ℕ) (w : Written) → class_of_term (routine_term base space number w) ≡ None
routine_class None space number w = refl
routine_class (Some b) space number w = refl

pub class_stands : (env : Env) (t : Tables) (x : Term) (z : plain.Term) (ps below : List Piece) → TermStands env t x z ps below → class_of_term z ≡ term_class x
class_stands env t (term.Place kind of bounds lends makes) z ps below h = ap class_of_term h.is
class_stands env t (term.Value e) z ps below h = ap class_of_term h.is
class_stands env t (term.Routine r) z ps below h = let q = h.routine in ap class_of_term q.is ∙ routine_class q.base q.space q.number q.written
class_stands env t (term.Property p) z ps below h = let q = h.property in ap class_of_term q.is ∙ routine_class q.base (space_view p.space.now) q.number (written_view p.written)
class_stands env t (term.Function f) z ps below h = ap class_of_term h.0.is
class_stands env t (term.HostMember m) z ps below h = ap class_of_term h.is
class_stands env t (term.SheetMember m) z ps below h = ap class_of_term h.0
class_stands env t term.Err z ps below h = ap class_of_term h.0
class_stands env t term.ErrRaise z ps below h = ap class_of_term h.0
class_stands env t term.ErrClear z ps below h = ap class_of_term h.0
class_stands env t term.ErrorWord z ps below h = ap class_of_term h.0
class_stands env t term.Nothing z ps below h = ap class_of_term h

-- what brackets take of what is of none is of none
pub kept_class : (lacks : Bool) (env : Env) (place : Place) (z : plain.Term) → ItemKept lacks env place z → class_of_term z ≡ None → class_of_term (item_of env place z) ≡ None
kept_class true env place z m n = ap class_of_term m.is
kept_class false env place z same n = ap class_of_term same ∙ n

-- and what is of one they index as it is
pub item_class : (env : Env) (place : Place) (z : plain.Term) (number : ℕ) → class_of_term z ≡ Some number → item_of env place z ≡ z
item_class env place (a_place x of bounds lends makes) number h =
    let P : Declared → Type 0 = λ (u : Declared). item_of env place (a_place x u bounds lends makes) ≡ a_place x u bounds lends makes in subst P (sym (class_is of number h)) refl
item_class env place (a_value node of) number h =
    let P : Declared → Type 0 = λ (u : Declared). item_of env place (a_value node u) ≡ a_value node u in subst P (sym (class_is of number h)) refl
item_class env place z number h = let e : ◌≡◌ {A = Option ℕ} None (Some number) = h in absurd cc

-- an object comes as it is to what they lead to
pub class_late : (env : Env) (place : Place) (z : plain.Term) (number : ℕ) → class_of_term z ≡ Some number → is_indexed_late env place z ≡ true
class_late env place (a_place x of bounds lends makes) number h =
    ap (λ (u : Declared). is_variant u || (is_of_class u || is_found_late env (expression_of (read_of makes x) place u))) (class_is of number h)
class_late env place (a_value node of) number h = ap (λ (u : Declared). is_variant u || (is_of_class u || is_found_late env (expression_of node place u))) (class_is of number h)
class_late env place z number h = let e : ◌≡◌ {A = Option ℕ} None (Some number) = h in absurd cc

-- what is assigned to, by whether it is of a class
pub index_plain : (env : Env) (place : Place) (t : plain.Term) (gs : List Given) (v : bound.Expr) → class_of_term t ≡ None → index_assigned env place t gs v ≡ assigned env place v [] (indexed env place t gs)
index_plain env place t gs v h = rw h refl

pub index_led : (env : Env) (place : Place) (t : plain.Term) (gs : List Given) (v : bound.Expr) (number : ℕ) → class_of_term t ≡ Some number
    → index_assigned env place t gs v ≡ led_assigned env (class_let (declared_in env.scope) number gs) place t gs v
index_led env place t gs v number h = rw h refl

-- ---- what arguments lead to behind a value of no class

-- a term doesn't lead on behind an object of a class
abbrev is_led_plain : plain.Term → Bool
is_led_plain (a_value (late_item e es) of) = not (is_of_class (bound.operand_type e))
is_led_plain t = true

either_plain : (t u : plain.Term) → is_led_plain t ≡ true → is_led_plain u ≡ true → is_led_plain (term_or t u) ≡ true
either_plain no_term u h k = k
either_plain t u h k = h

there_plain : (f : Exprs → plain.Term) → ((es : Exprs) → is_led_plain (f es) ≡ true) → (o : Option Exprs) → is_led_plain (if_there (option_map f o)) ≡ true
there_plain f h None = refl
there_plain f h (Some es) = h es

typed_plain : (f : Declared → Exprs → plain.Term) → ((u : Declared) (es : Exprs) → is_led_plain (f u es) ≡ true) → (a : Option Declared) (b : Option Exprs) → is_led_plain (with_type a b f) ≡ true
typed_plain f h None b = refl
typed_plain f h (Some u) None = refl
typed_plain f h (Some u) (Some es) = h u es

value_plain : (env : Env) (place : Place) (node : bound.Node) (of : Declared) (gs : List Given) → is_of_class of ≡ false → (o : Option Declared) → along_type env (expression_of node place of) gs ≡ o
    → is_led_plain (indexed_value (operand_of env) (along_value env) env place node of gs) ≡ true
value_plain env place node of gs h None k =
    let e = expression_of node place of in
    rw k (typed_plain (λ u xs. a_value (element_value e xs) u) (λ u xs. refl) (indexed_type env e) (numbers_of (operand_of env) gs))
value_plain env place node of gs h (Some u) k =
    let e = expression_of node place of in
    rw k (there_plain (λ es. a_value (late_item e es) u) (λ es. ap not h) (along_of (along_value env) gs))

wrong_plain : (env : Env) (place : Place) (rule : ℕ) (of : Declared) (before : Exprs → Exprs) (gs : List Given) → is_led_plain (wrong_arguments env place rule of before gs) ≡ true
wrong_plain env place rule of before gs = there_plain (λ es. plain.broken_call rule place of (before es)) (λ es. refl) (variant_arguments env gs)

test_plain : (b : Bool) (t : plain.Term) → is_led_plain t ≡ true → is_led_plain (if b then no_term else t) ≡ true
test_plain true t h = refl
test_plain false t h = h

refused_plain : (env : Env) (place : Place) (node : bound.Node) (of : Declared) (gs : List Given) → is_of_class of ≡ false → is_led_plain (wrong_index env place node of 0 gs) ≡ true
refused_plain env place node (type.class number) gs h = let e : true ≡ false = h in absurd cc
refused_plain env place node of gs h =
    test_plain (may_index of 0 gs) (wrong_arguments env place 25 type.variant (also (expression_of node place of)) gs) (wrong_plain env place 25 type.variant (also (expression_of node place of)) gs)

not_true : (b : Bool) → not b ≡ true → b ≡ false
not_true true h = let e : false ≡ true = h in absurd cc
not_true false h = refl

of_none : (of : Declared) → class_in of ≡ None → is_of_class of ≡ false
of_none (type.class number) h = let e : ◌≡◌ {A = Option ℕ} (Some number) None = h in absurd cc
of_none of h = refl

-- what arguments lead to behind a value of no class is behind no object of a class
abbrev LedPlain : Env → Place → plain.Term → Type 0
LedPlain env place t = (gs : List Given) (e : bound.Expr) (es : Exprs) (u : Declared) → indexed env place t gs ≡ a_value (late_item e es) u → is_of_class (bound.operand_type e) ≡ false

led_plain : (env : Env) (place : Place) (node : bound.Node) (of : Declared) → is_of_class of ≡ false → LedPlain env place (a_value node of)
led_plain env place node of h gs e es u is =
    let x = expression_of node place of in
    let one : is_led_plain (indexed env place (a_value node of) gs) ≡ true =
    either_plain (indexed_value (operand_of env) (along_value env) env place node of gs) (wrong_index env place node of 0 gs)
    (value_plain env place node of gs h (along_type env x gs) refl) (refused_plain env place node of gs h) in
    not_true (is_of_class (bound.operand_type e)) (sym (ap is_led_plain is) ∙ one)

pub kept_led : (lacks : Bool) (env : Env) (place : Place) (z : plain.Term) (node : bound.Node) (of : Declared) → ItemKept lacks env place z → z ≡ a_value node of → class_in of ≡ None → LedPlain env place (item_of env place z)
kept_led true env place z node of m is none =
    let P : plain.Term → Type 0 = λ (t : plain.Term). LedPlain env place t in
    subst P (sym m.is) (led_plain env place (marked (record { rule = 34; place = place }) (also m.object no_exprs)) type.variant refl)
kept_led false env place z node of same is none =
    let P : plain.Term → Type 0 = λ (t : plain.Term). LedPlain env place t in
    subst P (sym (same ∙ is)) (led_plain env place node of (of_none of none))
