-- The value of an assignment: as it is, or as an operand.
use Rattle.std.proofs.Common.{◌≡◌, ℕ, Bool, true, false, List, [], Option, Some, None, if◌then◌else◌, refl, sym, ap, subst, ◌∙◌, ◌==◌}
use Rattle.std.specs.Prelude.{◌==◌, ◌&&◌, ◌||◌, not, option_map, option_and_then, IfSome}
use Rattle.vba_base.specs.declared.place.Place.{Place}
use Rattle.vba_values.specs.Types.{Declared}
use Rattle.vba_values.specs.Types as type
use Rattle.vba_expression.specs.Tree.{Expr}
use Rattle.bound_project.specs.declared.declared_type.DeclaredType.{DeclaredType}
use Rattle.bound_project.specs.Expressions as bound
use Rattle.bound_project.specs.Drafts.{Drafted}
use Rattle.bound_project.specs.Pieces.{Piece, Tables, put}
use Rattle.bound_project.specs.Project.{Declarations}
use Rattle.bound_project.specs.View.{declared_view}
use Rattle.bound_members.specs.bound_calls.specs.bound_declarations.specs.constant_values.specs.declared_names.specs.binder.specs.Options.{or_else}
use Rattle.bound_members.specs.bound_calls.specs.bound_declarations.specs.constant_values.specs.declared_names.specs.binder.specs.Types.{is_object}
use Rattle.bound_members.specs.bound_calls.specs.bound_declarations.specs.constant_values.specs.declared_names.specs.binder.specs.Constants.{is_variant}
use Rattle.bound_members.specs.bound_calls.specs.bound_forms.specs.Terms.{Env, a_place, a_value, a_routine, a_function, a_host_member, err_object, err_raise, err_clear, error_word, no_term, expression_of, given_rule, given_to, typed_value, unless_broken, a_method, read_as, read_of, broken_rule}
use Rattle.bound_members.specs.bound_calls.specs.bound_forms.specs.Terms as plain
use Rattle.bound_members.specs.bound_calls.specs.bound_forms.specs.ClassDefaults.{declared_in, default_read}
use Rattle.bound_members.specs.bound_calls.specs.bound_forms.specs.ClassDefaults as defaults
use Rattle.bound_members.specs.bound_calls.specs.bound_forms.specs.Operands.{default_value, given_as, may_be_object as may_be_object_at, operand_of, plain_operand, reference_of, value_of, place_told, alone, class_given_way, has_object, is_instance_type, is_of_host, may_be_instance, given_way, default_rule, host_kind}
use Rattle.bound_members.specs.bound_calls.specs.bound_forms.specs.ExpressionsBound.{bound_as_given, bound_operand, term_of}
use Rattle.bound_members.specs.bound_calls.specs.bound_forms.specs.Targets.{given_to_term, is_given_with, property_takes, target_term, value_for, value_given}
use Rattle.bound_members.specs.bound_calls.specs.declared.term.Term.{Term}
use Rattle.bound_members.specs.bound_calls.specs.declared.term.Term.TheVariants as term
use Rattle.bound_members.specs.bound_calls.specs.declared.term.Tree.{Tree}
use Rattle.bound_members.specs.bound_calls.specs.Standing.{TermStands, ValueEnds}
use Rattle.bound_members.specs.bound_calls.specs.Steps.{Leaves, PushesOperand, PushesValue}
use Rattle.bound_members.specs.bound_calls.proofs.Growing.{grown_twice, grown_pieces}
use Rattle.statement_terms.specs.Terms.{may_be_object}
use Rattle.statement_terms.specs.Assigning.{ExprPushed, PushesFor, ValueBound, ValueFor, is_plain, marked_may, operand_may, taken_for}
use Rattle.statement_terms.specs.Called.{MayBe}
use Rattle.statement_terms.specs.declared.takers.Taker.{Taker}
use Rattle.statement_terms.specs.Takers.{MarksTaken, TakenBy, given_by, may_break}
use Rattle.bound_members.specs.bound_calls.specs.bound_declarations.specs.constant_values.specs.declared_names.specs.binder.specs.Classes.{has_class}
use Rattle.bound_members.specs.bound_calls.specs.declared.term.Ending.{Ending}
use Rattle.bound_members.specs.bound_calls.specs.Calls.{node_of}
use Rattle.bound_members.specs.bound_calls.specs.References.{IsInstance, TakesGiven}

value_as_given : (env : Env) (t : plain.Term) (place : Place) (made : bound.Expr) → value_of env t place ≡ Some made → given_as env t place ≡ Some made
value_as_given env t place made h = ap (λ (o : Option bound.Expr). or_else o (reference_of env t place)) h

valued : (env : Env) (t : plain.Term) (place : Place) (made : bound.Expr) → value_of env t place ≡ Some made → plain_operand made ≡ made
    → or_else (option_map plain_operand (value_of env t place)) (option_and_then (default_value (declared_in env.scope) place) (reference_of env t place)) ≡ Some made
valued env t place made h p =
    let other = option_and_then (default_value (declared_in env.scope) place) (reference_of env t place) in
    ap (λ (o : Option bound.Expr). or_else (option_map plain_operand o) other) h ∙ ap (λ (e : bound.Expr). Some e) p

value_operand : (env : Env) (t : plain.Term) (place : Place) (made : bound.Expr) → value_of env t place ≡ Some made → plain_operand made ≡ made → operand_of env t place ≡ Some made
value_operand env (a_place x of bounds lends makes) place made h p = valued env (a_place x of bounds lends makes) place made h p
value_operand env (a_value node of) place made h p = valued env (a_value node of) place made h p
value_operand env (a_routine space number w) place made h p = valued env (a_routine space number w) place made h p
value_operand env (a_method base space number w) place made h p = valued env (a_method base space number w) place made h p
value_operand env (a_function f text_form base) place made h p = valued env (a_function f text_form base) place made h p
value_operand env (a_host_member e m) place made h p = valued env (a_host_member e m) place made h p
value_operand env err_object place made h p = let k : None ≡ Some made = h in absurd cc
value_operand env err_raise place made h p = valued env err_raise place made h p
value_operand env err_clear place made h p = valued env err_clear place made h p
value_operand env error_word place made h p = valued env error_word place made h p
value_operand env no_term place made h p = valued env no_term place made h p

value_taken : (given : Bool) (env : Env) (t : plain.Term) (place : Place) (made : bound.Expr) → value_of env t place ≡ Some made → plain_operand made ≡ made → taken_for given env t place ≡ Some made
value_taken true env t place made h p = value_as_given env t place made h
value_taken false env t place made h p = value_operand env t place made h p

-- what is no object and can be none stays itself as an operand
not_false : (b : Bool) → not b ≡ true → b ≡ false
not_false false h = refl
not_false true h = absurd cc

no_right : (a b : Bool) → (a || b) ≡ false → b ≡ false
no_right false b h = h
no_right true b h = let e : true ≡ false = h in absurd cc

stays_itself : (made : bound.Node) (place : Place) (of : DeclaredType) (e : bound.Expr) → not (may_be_object of) ≡ true → typed_value made place (declared_view of) ≡ Some e → plain_operand e ≡ e
stays_itself made place of e plain h = by_type (is_object (declared_view of)) h
  where
    variant : is_variant (declared_view of) ≡ false
    variant = no_right (is_object (declared_view of)) (is_variant (declared_view of)) (not_false (may_be_object of) plain)

    by_type : (b : Bool) → (if b then None else Some (expression_of made place (declared_view of))) ≡ Some e → plain_operand e ≡ e
    by_type true k = let none : None ≡ Some e = k in absurd cc
    by_type false k =
        let x = expression_of made place (declared_view of) in
        let same : x ≡ e = (let j : Some x ≡ Some e = k in cc) in
        let P : bound.Expr → Type 0 = λ (y : bound.Expr). plain_operand y ≡ y in
        subst P same (ap (λ (c : Bool). if c && may_be_object_at made then expression_of (bound.default_of x) place type.variant else x) variant)

plain_itself : (env : Env) (t : Tables) (x : Term) (z : plain.Term) (ps below : List Piece) (place : Place) (made : bound.Expr) → is_plain x ≡ true → TermStands env t x z ps below → value_of env z place ≡ Some made → plain_operand made ≡ made
plain_itself env t (term.Place kind of bounds lends makes) z ps below place made p h v =
    stays_itself (read_of makes h.at) place of made p (ap (λ (y : plain.Term). value_of env y place) (sym h.is) ∙ v)
plain_itself env t (term.Value e) z ps below place made p h v =
    stays_itself h.made place e.of made p (ap (λ (y : plain.Term). value_of env y place) (sym h.is) ∙ v)
plain_itself env t x z ps below place made p h v = let e : false ≡ true = p in absurd cc

-- ---- what may be an object of a class

no_right_and : (b : Bool) → (b && false) ≡ false
no_right_and true = refl
no_right_and false = refl

abbrev type_in : bound.Expr → Declared
type_in (bound.expr node place of operand) = of

free_of : (env : Env) (node : bound.Node) (place : Place) (of operand : Declared) → is_instance_type node of ≡ false → may_be_instance env (bound.expr node place of operand) ≡ false
free_of env node place of operand h = ap (λ (b : Bool). has_class env.scope.spaces && (b && not (is_of_host node))) h ∙ no_right_and (has_class env.scope.spaces)

not_instance : (node : bound.Node) (of : Declared) → is_object of ≡ false → has_object node of ≡ false → is_instance_type node of ≡ false
not_instance node type.object p h = let e : true ≡ false = p in absurd cc
not_instance node (type.class number) p h = let e : true ≡ false = p in absurd cc
not_instance node type.variant p h = h
not_instance node of p h = refl

-- what gives way to its default member's value is none
plain_free : (env : Env) (e : bound.Expr) → is_object (type_in e) ≡ false → may_be_instance env (plain_operand e) ≡ false
plain_free env (bound.expr node at of operand) p = by (has_object node of) refl
  where
    x : bound.Expr
    x = bound.expr node at of operand

    by : (b : Bool) → has_object node of ≡ b → may_be_instance env (if b then expression_of (bound.default_of x) at type.variant else x) ≡ false
    by true h = free_of env (bound.default_of x) at type.variant type.variant refl
    by false h = free_of env node at of operand (not_instance node of p h)

typed_plain : (node : bound.Node) (place : Place) (of : Declared) (e : bound.Expr) → typed_value node place of ≡ Some e → is_object (type_in e) ≡ false
typed_plain node place of e h = by (is_object of) refl h
  where
    by : (b : Bool) → is_object of ≡ b → (if b then None else Some (expression_of node place of)) ≡ Some e → is_object (type_in e) ≡ false
    by true k q = let none : None ≡ Some e = q in absurd cc
    by false k q =
        let same : expression_of node place of ≡ e = (let j : Some (expression_of node place of) ≡ Some e = q in cc) in
        let A : bound.Expr → Type 0 = λ (y : bound.Expr). is_object (type_in y) ≡ false in
        subst A same k

read_plain : (t : plain.Term) (place : Place) (e : bound.Expr) → read_as typed_value t place ≡ Some e → is_object (type_in e) ≡ false
read_plain (a_place x of bounds lends makes) place e h = typed_plain (read_of makes x) place of e h
read_plain (a_value node of) place e h = typed_plain node place of e h
read_plain t place e h = let none : None ≡ Some e = h in absurd cc

value_typed : (env : Env) (t : plain.Term) (place : Place) (e : bound.Expr) → value_of env t place ≡ Some e → is_object (type_in e) ≡ false
value_typed env t place e h = read_plain (alone env place t) place e h

-- what is marked is no object of a class
host_free : (has b : Bool) → (has && (b && false)) ≡ false
host_free true true = refl
host_free true false = refl
host_free false b = refl

marked_free : (env : Env) (rule : ℕ) (place : Place) (es : bound.Exprs) → may_be_instance env (broken_rule rule place es) ≡ false
marked_free env rule place es = host_free (has_class env.scope.spaces) (is_instance_type (bound.marked (record { rule = rule; place = place }) es) type.variant)

class_free : (env : Env) (found : defaults.Known) (place : Place) (x e : bound.Expr) → class_given_way found place x ≡ Some e → is_object (bound.operand_type e) ≡ false → may_be_instance env e ≡ false
class_free env (defaults.known of) place x e h p =
    let made = expression_of (bound.default_of x) place of in
    let same : made ≡ e = (let j : Some made ≡ Some e = h in cc) in
    let plainly : is_object of ≡ false = ap (λ (y : bound.Expr). is_object (bound.operand_type y)) same ∙ p in
    let A : bound.Expr → Type 0 = λ (y : bound.Expr). may_be_instance env y ≡ false in
    subst A same (free_of env (bound.default_of x) place of of (not_instance (bound.default_of x) of plainly (no_right_and (is_variant of))))
class_free env (defaults.breaks rule) place x e h p =
    let made = broken_rule rule place (bound.also x bound.no_exprs) in
    let same : made ≡ e = (let j : Some made ≡ Some e = h in cc) in
    let A : bound.Expr → Type 0 = λ (y : bound.Expr). may_be_instance env y ≡ false in
    subst A same (marked_free env rule place (bound.also x bound.no_exprs))
class_free env defaults.not_said place x e h p = let none : None ≡ Some e = h in absurd cc

other_free : (env : Env) (rule : Option ℕ) (place : Place) (x e : bound.Expr) → Some (given_way rule place x) ≡ Some e → may_be_instance env e ≡ false
other_free env None place x e h =
    let made = expression_of (bound.default_of x) place type.variant in
    let same : made ≡ e = (let j : Some made ≡ Some e = h in cc) in
    let A : bound.Expr → Type 0 = λ (y : bound.Expr). may_be_instance env y ≡ false in
    subst A same (free_of env (bound.default_of x) place type.variant type.variant refl)
other_free env (Some rule) place x e h =
    let made = broken_rule rule place (bound.also x bound.no_exprs) in
    let same : made ≡ e = (let j : Some made ≡ Some e = h in cc) in
    let A : bound.Expr → Type 0 = λ (y : bound.Expr). may_be_instance env y ≡ false in
    subst A same (marked_free env rule place (bound.also x bound.no_exprs))

default_free : (env : Env) (d : Declarations) (place : Place) (found : Option bound.Expr) (e : bound.Expr) → option_and_then (default_value d place) found ≡ Some e → is_object (bound.operand_type e) ≡ false → may_be_instance env e ≡ false
default_free env d place None e h p = let none : None ≡ Some e = h in absurd cc
default_free env d place (Some (bound.expr node at (type.class number) operand)) e h p = class_free env (default_read d number) place (bound.expr node at (type.class number) operand) e h p
default_free env d place (Some (bound.expr node at of operand)) e h p = other_free env (default_rule (host_kind node of)) place (bound.expr node at of operand) e h

either_free : (env : Env) (t : plain.Term) (place : Place) (e : bound.Expr) → or_else (option_map plain_operand (value_of env t place)) (option_and_then (default_value (declared_in env.scope) place) (reference_of env t place)) ≡ Some e
    → is_object (bound.operand_type e) ≡ false → may_be_instance env e ≡ false
either_free env t place e h p = by (value_of env t place) refl h
  where
    by : (o : Option bound.Expr) → value_of env t place ≡ o → or_else (option_map plain_operand o) (option_and_then (default_value (declared_in env.scope) place) (reference_of env t place)) ≡ Some e → may_be_instance env e ≡ false
    by None k q = default_free env (declared_in env.scope) place (reference_of env t place) e q p
    by (Some x) k q =
        let same : plain_operand x ≡ e = (let j : Some (plain_operand x) ≡ Some e = q in cc) in
        let A : bound.Expr → Type 0 = λ (y : bound.Expr). may_be_instance env y ≡ false in
        subst A same (plain_free env x (value_typed env t place x k))

-- an operand is no object of a class, unless its type says that a default member gives an object
operand_free : (env : Env) (t : plain.Term) (place : Place) (e : bound.Expr) → operand_of env t place ≡ Some e → is_object (bound.operand_type e) ≡ false → may_be_instance env e ≡ false
operand_free env err_object place e h p =
    let made = expression_of (bound.err_value bound.err_number) place type.long in
    let same : made ≡ e = (let j : Some made ≡ Some e = h in cc) in
    let A : bound.Expr → Type 0 = λ (y : bound.Expr). may_be_instance env y ≡ false in
    subst A same (free_of env (bound.err_value bound.err_number) place type.long type.long refl)
operand_free env t place e h p = either_free env t place e h p

may_known : (b : Bool) (env : Env) (e : bound.Expr) → (b ≡ false → may_be_instance env e ≡ false) → MayBe env (if b then None else Some false) e
may_known true env e free = tt
may_known false env e free = free refl

pub plain_pushed : (has given : Bool) (x : Tree) (of : DeclaredType) (d e : Drafted) → is_plain x.term ≡ true → PushesValue x d e (Some of) → PushesFor has (Some false) given x d e of
plain_pushed has given x of d e plain p = record {
  grown = p.grown;
  stands = λ env known tree below k.
      let m = p.stands env tree below k in
      let t = term_of env tree in
      let at = place_told tree in
      let itself = plain_itself env d.tables x.term t d.pieces below at m.made plain k.term_is m.is in
      record {
        pushed = record { made = m.made; is = value_taken given env t at m.made m.is itself; operand = m.operand; on_top = m.on_top };
        known = (let A : bound.Expr → Type 0 = λ (y : bound.Expr). may_be_instance env y ≡ false in subst A itself (plain_free env m.made (value_typed env t at m.made m.is)));
      };
}

-- whether a value may be an object of a class, where that is known of its last node
ending_may : (has : Bool) (may : Option Bool) (t : Tables) (v : Ending) → IfSome may (λ b. IsInstance has t v b) → (env : Env) (made : bound.Node) (place : Place) (ps below : List Piece) → has_class env.scope.spaces ≡ has → ValueEnds t v.kind made ps below
    → MayBe env may (expression_of made place (declared_view v.of))
ending_may has None t v h env made place ps below known ends = tt
ending_may has (Some b) t v h env made place ps below known ends = h env made place ps below known ends

pub given_pushed : (has : Bool) (may : Option Bool) (x : Tree) (d m e : Drafted) (v : Ending) → TakesGiven x.term x.place d m v → e ≡ record m { pieces = put m.tables (node_of v.kind x.place v.of) m.pieces } → IfSome may (λ b. IsInstance has m.tables v b)
    → PushesFor has may true x d e v.of
given_pushed has may x d m e v t eq same =
    let P : Drafted → Type 0 = λ (z : Drafted). PushesFor has may true x d z v.of in
    let n = node_of v.kind x.place v.of in
    subst P (sym eq) (record {
      grown = grown_twice d m (record m { pieces = put m.tables n m.pieces }) t.grown (grown_pieces m (put m.tables n m.pieces));
      stands = λ env known tree below k.
          let g = t.stands env (term_of env tree) below k.term_is in
          let made = expression_of g.made x.place (declared_view v.of) in
          let A : Place → Type 0 = λ (place : Place). given_as env (term_of env tree) place ≡ Some made in
          record {
            pushed = record { made = made; is = subst A k.place_is g.is; operand = refl; on_top = g.ends n };
            known = ending_may has may m.tables v same env g.made x.place m.pieces below known g.ends;
          };
    })

pub operand_pushed : (has given : Bool) (x : Tree) (of : DeclaredType) (d e : Drafted) → given ≡ false → PushesOperand x d e (Some of) → PushesFor has (operand_may of) given x d e of
operand_pushed has given x of d e b p =
    let P : Bool → Type 0 = λ (c : Bool). PushesFor has (operand_may of) c x d e of in
    subst P (sym b) (record {
      grown = p.grown;
      stands = λ env known tree below k.
          let m = p.stands env tree below k in
          let free = λ (n : is_object (declared_view of) ≡ false). operand_free env (term_of env tree) (place_told tree) m.made m.is (ap is_object m.operand ∙ n) in
          record { pushed = m; known = may_known (is_object (declared_view of)) env m.made free };
    })

-- ---- of an assignment to an expression

taken_is : (given : Bool) (env : Env) (e : Expr) → taken_for given env (term_of env e) (place_told e) ≡ (if given then bound_as_given env e else bound_operand env e)
taken_is true env e = refl
taken_is false env e = refl

-- the value was pushed, and its type
pub value_bound : (has : Bool) (may : Option Bool) (env : Env) (place value : Expr) (x : Tree) (of : DeclaredType) (d f e : Drafted) → has_class env.scope.spaces ≡ has → Leaves env value d f x → PushesFor has may (is_given_with env place) x f e of
    → ValueBound env may of (value_for env place value) d e
value_bound has may env place value x of d f e known l p =
    let m = p.stands env known value d.pieces l.stands in
    let v = m.pushed in
    record {
      grown = grown_twice d f e l.grown p.grown;
      pushed = record { pushed = record { made = v.made; is = sym (taken_is (is_given_with env place) env value) ∙ v.is; operand = v.operand; on_top = v.on_top }; known = m.known };
    }

-- one that is taken everywhere
not_broken : (of given : Declared) (bounded : Bool) → may_break given ≡ false → given_rule of bounded given ≡ None
not_broken of (type.udt number) bounded h = let e : true ≡ false = h in absurd cc
not_broken of (type.array_of element) bounded h = let e : true ≡ false = h in absurd cc
not_broken of given bounded h = kept of
  where
    kept : (of : Declared) → given_rule of bounded given ≡ None
    kept (type.array_of element) = refl
    kept of = refl

unmarked : (of : Declared) (bounded : Bool) (place : Place) (v : bound.Expr) (given : DeclaredType) → bound.operand_type v ≡ declared_view given → may_break (declared_view given) ≡ false → given_to of bounded place v ≡ v
unmarked of bounded place v given is h =
    ap (λ (u : Declared). unless_broken (given_rule of bounded u) place v) is ∙ ap (λ (o : Option ℕ). unless_broken o place v) (not_broken of (declared_view given) bounded h)

stays : (env : Env) (t : plain.Term) (place : Place) (v : bound.Expr) (given : DeclaredType) → bound.operand_type v ≡ declared_view given → may_break (declared_view given) ≡ false → given_to_term env t place v ≡ v
stays env (a_place x of bounds lends makes) place v given is h = unmarked of (not (bounds == 0)) place v given is h
stays env (a_host_member e m) place v given is h = unmarked type.variant false place v given is h
stays env (a_routine space number p) place v given is h = unmarked (property_takes env space p) false place v given is h
stays env (a_method base space number p) place v given is h = unmarked (property_takes env space p) false place v given is h
stays env t place v given is h = refl

by_taker : (env : Env) (t : plain.Term) (taker : Option Taker) (place : Place) (found : Option bound.Expr) → TakenBy env t taker → option_map (given_to_term env t place) found ≡ option_map (given_by taker place) found
by_taker env t taker place None h = refl
by_taker env t taker place (Some v) h = ap (λ (e : bound.Expr). Some e) (h place v)

pub value_kept : (env : Env) (may : Option Bool) (place value : Expr) (of : DeclaredType) (d e : Drafted) → may_break (declared_view of) ≡ false → ValueBound env may of (value_for env place value) d e → ValueFor env may (value_given env place value) d e
value_kept env may place value of d e h b =
    let u = b.pushed.pushed in
    let v = u.made in
    let term = target_term env place in
    let at = place_told value in
    let kept : given_to_term env term at v ≡ v = stays env term at v of u.operand h in
    record {
      grown = b.grown;
      pushed = record {
        made = v;
        is = ap (λ (o : Option bound.Expr). option_map (given_to_term env term at) o) u.is ∙ ap (λ (e : bound.Expr). Some e) kept;
        on_top = u.on_top;
      };
      known = b.pushed.known;
    }

-- marking makes no object of a class
unless_free : (env : Env) (o : Option ℕ) (place : Place) (v : bound.Expr) → may_be_instance env v ≡ false → may_be_instance env (unless_broken o place v) ≡ false
unless_free env None place v h = h
unless_free env (Some rule) place v h = marked_free env rule place (bound.also v bound.no_exprs)

taker_free : (env : Env) (taker : Option Taker) (place : Place) (v : bound.Expr) → may_be_instance env v ≡ false → may_be_instance env (given_by taker place v) ≡ false
taker_free env None place v h = h
taker_free env (Some k) place v h = unless_free env (given_rule (declared_view k.of) k.is_bounded (bound.operand_type v)) place v h

-- what is known of a value once it was marked
marked_known : (env : Env) (may : Option Bool) (taker : Option Taker) (place : Place) (v w : bound.Expr) → given_by taker place v ≡ w → MayBe env may v → MayBe env (marked_may may) w
marked_known env None taker place v w same h = tt
marked_known env (Some true) taker place v w same h = tt
marked_known env (Some false) taker place v w same h = let F : bound.Expr → Type 0 = λ (y : bound.Expr). may_be_instance env y ≡ false in subst F same (taker_free env taker place v h)

-- one that was marked where the target doesn't take it
pub value_marked : (env : Env) (may : Option Bool) (place value : Expr) (x : Tree) (of : DeclaredType) (taker : Option Taker) (d f e g : Drafted) → Leaves env value d f x → TakenBy env (target_term env place) taker
    → ValueBound env may of (value_for env place value) d e → MarksTaken taker x.place of e g → ValueFor env (marked_may may) (value_given env place value) d g
value_marked env may place value x of taker d f e g l t b m =
    let u = b.pushed.pushed in
    let v = u.made in
    let at = place_told value in
    let term = target_term env place in
    let pushed = m.stands (value_for env place value) d.pieces u in
    let P : Place → Type 0 = λ (p : Place). ExprPushed (option_map (given_by taker p) (value_for env place value)) g.pieces d.pieces in
    let there = subst P l.stands.place_is pushed in
    let given : option_map (given_to_term env term at) (value_for env place value) ≡ option_map (given_by taker at) (value_for env place value) = by_taker env term taker at (value_for env place value) t in
    let both : Some (given_by taker at v) ≡ Some there.made = ap (λ (o : Option bound.Expr). option_map (given_by taker at) o) (sym u.is) ∙ there.is in
    let same : given_by taker at v ≡ there.made = cc in
    record {
      grown = grown_twice d e g b.grown m.grown;
      pushed = record { made = there.made; is = given ∙ there.is; on_top = there.on_top };
      known = marked_known env may taker at v there.made same b.pushed.known;
    }
