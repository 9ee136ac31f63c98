-- What doesn't take its arguments, which are read from now on.
use Rattle.std.proofs.Common.{◌≡◌, ℕ, zero, suc, ◌<◌, ◌==◌, Bool, true, false, ◌&&◌, ◌||◌, not, List, [], ◌∷◌, map, length, is_some, Option, Some, None, option_map, if◌then◌else◌, refl, sym, ap, subst, ◌∙◌, arith}
use Rattle.std.specs.Prelude.{codes}
use Rattle.std.proofs.lemmas.Bool.{and_right, eqb-true}
use Rattle.vba_base.specs.declared.place.Place.{Place}
use Rattle.vba_values.specs.Types.{Declared}
use Rattle.vba_values.specs.Types as type
use Rattle.vba_tree.specs.Tree.{Parameter}
use Rattle.vba_tree.specs.declared.procedure.ProcedureWords.{ProcedureWords}
use Rattle.vba_tree.specs.declared.procedure.ProcedureWords.TheVariants as words
use Rattle.vba_expression.specs.Tree.{Expr}
use Rattle.bound_project.specs.declared.node.NodeKind.{NodeKind}
use Rattle.bound_project.specs.declared.declared_type.DeclaredType.{DeclaredType}
use Rattle.bound_project.specs.declared.declared_type.DeclaredType.TheVariants.{Plain}
use Rattle.bound_project.specs.declared.declared_type.ElementType.TheVariants as element
use Rattle.bound_project.specs.declared.declarations.Parameter.{Parameter as ParameterHere}
use Rattle.bound_project.specs.View.{declared_view, parameter_view}
use Rattle.bound_project.specs.Expressions.{Exprs, Lvalue, also, element_value, host_member, named_member}
use Rattle.bound_project.specs.Expressions as bound
use Rattle.bound_project.specs.Project as project
use Rattle.bound_project.specs.Lists.{above}
use Rattle.bound_project.specs.Pieces.{Piece, Tables, an_expr, put}
use Rattle.bound_project.specs.Drafts.{Drafted}
use Rattle.declared_names.specs.binder.specs.Classes.{has_class}
use Rattle.declared_names.specs.binder.specs.Constants.{home}
use Rattle.declared_names.specs.binder.specs.Declarations.{Written}
use Rattle.declared_names.specs.binder.specs.Scopes.{Scope, Space}
use Rattle.declared_names.specs.binder.specs.Names.{scope_in}
use Rattle.declared_names.specs.binder.specs.Signatures.{call_type, is_get, is_property, parameters_in, procedure_with, reader}
use Rattle.declared_names.specs.binder.specs.Options.{from_two}
use Rattle.declared_names.specs.binder.specs.Storage.{bound_parameters, takes_value}
use Rattle.bound_accesses.specs.bound_names.specs.bound_members.specs.bound_calls.specs.bound_forms.specs.Terms.{Env, Given, HostMember, a_value, bound_arguments, expression_of, has_names, no_term, read_of, routine_term, takes}
use Rattle.bound_accesses.specs.bound_names.specs.bound_members.specs.bound_calls.specs.bound_forms.specs.Terms as terms
use Rattle.bound_accesses.specs.bound_names.specs.bound_members.specs.bound_calls.specs.bound_forms.specs.Operands.{along_type, are_places, argument_of, behind_base, call_value, element_place, element_type, fits_bounds, if_there, indexed_value, is_found_late, is_host_type, may_be_instance, numbers_of, operand_of, place_told, term_or, with_type}
use Rattle.bound_accesses.specs.bound_names.specs.bound_members.specs.bound_calls.specs.bound_forms.specs.Members.{item_of, object_member}
use Rattle.bound_accesses.specs.bound_names.specs.bound_members.specs.bound_calls.specs.bound_forms.specs.ExpressionsBound.{along_value, arguments_rule, call_with, callee, host_called, indexed, indexed_place, indexes_value, is_called_late, late_called, may_index, member_called, member_takes, names_taken, node_or, takes_arguments, term_of, value_indexed, variant_arguments, wrong_arguments, wrong_call, wrong_index, wrong_term, wrong_value}
use Rattle.bound_accesses.specs.bound_names.specs.bound_members.specs.bound_calls.specs.declared.term.Ending.{Ending}
use Rattle.declared_names.specs.View.{written_view}
use Rattle.bound_accesses.specs.bound_names.specs.bound_members.specs.bound_calls.specs.declared.term.HostMember.{HostMember as MemberHere}
use Rattle.bound_accesses.specs.bound_names.specs.bound_members.specs.bound_calls.specs.declared.term.Item.TheVariants as items
use Rattle.bound_accesses.specs.bound_names.specs.bound_members.specs.bound_calls.specs.declared.term.Refuser.{Refuser}
use Rattle.bound_accesses.specs.bound_names.specs.bound_members.specs.bound_calls.specs.declared.term.Refuser.TheVariants as refuser
use Rattle.bound_accesses.specs.bound_names.specs.bound_members.specs.bound_calls.specs.declared.term.MemberCall.{MemberCall}
use Rattle.bound_accesses.specs.bound_names.specs.bound_members.specs.bound_calls.specs.declared.term.Receiver.{Receiver}
use Rattle.bound_accesses.specs.bound_names.specs.bound_members.specs.bound_calls.specs.declared.term.Receiver.TheVariants as receiver
use Rattle.bound_accesses.specs.bound_names.specs.bound_members.specs.bound_calls.specs.declared.term.Routine.{Routine}
use Rattle.bound_accesses.specs.bound_names.specs.bound_members.specs.bound_calls.specs.declared.term.Term.{Term}
use Rattle.bound_accesses.specs.bound_names.specs.bound_members.specs.bound_calls.specs.declared.term.Term.TheVariants as term
use Rattle.bound_accesses.specs.bound_names.specs.bound_members.specs.bound_calls.specs.declared.term.Tree.{Tree}
use Rattle.bound_accesses.specs.bound_names.specs.bound_members.specs.bound_calls.specs.Calls.{node_of}
use Rattle.bound_accesses.specs.bound_names.specs.bound_members.specs.bound_calls.specs.Indexing.{OpensTerm}
use Rattle.bound_accesses.specs.bound_names.specs.bound_members.specs.bound_calls.specs.Taking.{BaseThere, PushesObject, read_kind, values_of}
use Rattle.bound_accesses.specs.bound_names.specs.bound_members.specs.MemberCalls.{OpensMember}
use Rattle.bound_operands.specs.Indexing.{OpensBehind}
use Rattle.bound_operands.proofs.Elements.{HasSome, brackets_given}
use Rattle.bound_terms.specs.Indexing.{NotIndexed, OpensItem, member_refuser, procedure_refuser, untaken_at, value_refuser}
use Rattle.bound_accesses.specs.bound_names.specs.bound_members.specs.bound_calls.specs.Standing.{Grown, IsReceiver, RefuserNamed, RoutineIs, TakesMember, TermStands, behind_values, member_is, refused_rule, refused_type, values_before}
use Rattle.bound_accesses.specs.bound_names.specs.bound_members.specs.bound_calls.proofs.Growing.{grown_pieces, grown_same, grown_twice}
use Rattle.bound_accesses.specs.bound_names.specs.bound_members.specs.bound_calls.proofs.CallSteps.{routine_item, taken_routine}
use Rattle.bound_accesses.specs.bound_names.specs.bound_members.specs.bound_calls.proofs.Before.{indexed_before}
use Rattle.bound_accesses.specs.bound_names.specs.bound_members.specs.bound_calls.proofs.Refusing.{refused}
use Rattle.bound_accesses.specs.bound_names.specs.bound_members.specs.bound_calls.proofs.Taking.{read_ends}

-- ---- what is refused, by its term

abbrev number_or : ℕ → Option ℕ → ℕ
number_or n None = n
number_or n (Some m) = m

broken_by : (b : Bool) (rule : ℕ) → (if b then None else Some 25) ≡ Some rule → (b ≡ false) × (25 ≡ rule)
broken_by true rule h = let e : ◌≡◌ {A = Option ℕ} None (Some rule) = h in absurd cc
broken_by false rule h = (refl, ap (λ o. number_or rule o) h)

not_host : (of : Declared) (bounds : ℕ) (gs : List Given) → may_index of bounds gs ≡ false → is_host_type of ≡ false
not_host (type.array_of of) bounds gs h = refl
not_host type.variant bounds gs h = refl
not_host type.boolean bounds gs h = refl
not_host type.byte bounds gs h = refl
not_host type.integer bounds gs h = refl
not_host type.long bounds gs h = refl
not_host type.long_long bounds gs h = refl
not_host type.currency bounds gs h = refl
not_host type.text bounds gs h = refl
not_host (type.fixed_text n) bounds gs h = refl
not_host (type.class n) bounds gs h = refl
not_host type.collection bounds gs h = h
not_host (type.udt n) bounds gs h = refl
not_host type.object bounds gs h = h
not_host type.worksheet bounds gs h = h
not_host type.range bounds gs h = h

and_true : (a : Bool) → (a && true) ≡ false → a ≡ false
and_true true h = h
and_true false h = h

-- where the number is right it is no matter
index_fitting : (of : Declared) (bounds : ℕ) (gs : List Given) → fits_bounds bounds gs ≡ true → may_index of 0 gs ≡ may_index of bounds gs
index_fitting (type.array_of of) bounds gs h = ap (λ (b : Bool). are_places gs && b) (sym h)
index_fitting type.variant bounds gs h = refl
index_fitting of bounds gs h = refl

-- no numbers index it
not_numbers : (value : terms.Term → Place → Option bound.Expr) (of : Declared) (gs : List Given) (T : Declared → Exprs → terms.Term) → may_index of 0 gs ≡ false → with_type (element_type of) (numbers_of value gs) T ≡ no_term
not_numbers value (type.array_of of) gs T h = rw (and_true (are_places gs) h) refl
not_numbers value type.variant gs T h = let e : true ≡ false = h in absurd cc
not_numbers value type.boolean gs T h = refl
not_numbers value type.byte gs T h = refl
not_numbers value type.integer gs T h = refl
not_numbers value type.long gs T h = refl
not_numbers value type.long_long gs T h = refl
not_numbers value type.currency gs T h = refl
not_numbers value type.text gs T h = refl
not_numbers value (type.fixed_text n) gs T h = refl
not_numbers value (type.class n) gs T h = refl
not_numbers value type.collection gs T h = refl
not_numbers value (type.udt n) gs T h = refl
not_numbers value type.object gs T h = refl
not_numbers value type.worksheet gs T h = refl
not_numbers value type.range gs T h = refl

not_numbers_of : (b : Bool) (value : terms.Term → Place → Option bound.Expr) (of : Declared) (gs : List Given) (T : Declared → Exprs → terms.Term) → may_index of 0 gs ≡ false
    → with_type (if b then None else element_type of) (numbers_of value gs) T ≡ no_term
not_numbers_of true value of gs T h = refl
not_numbers_of false value of gs T h = not_numbers value of gs T h

-- nor those of another number than an array is declared with bounds
not_fitting : (value : terms.Term → Place → Option bound.Expr) (of : Declared) (bounds : ℕ) (gs : List Given) (T : Declared → Exprs → terms.Term) (b : Bool) → may_index of bounds gs ≡ false
    → (if fits_bounds bounds gs then with_type (if b then None else element_type of) (numbers_of value gs) T else no_term) ≡ no_term
not_fitting value of bounds gs T b h = at (fits_bounds bounds gs) refl
  where
    at : (fits : Bool) → fits_bounds bounds gs ≡ fits → (if fits then with_type (if b then None else element_type of) (numbers_of value gs) T else no_term) ≡ no_term
    at false e = refl
    at true e = not_numbers_of b value of gs T (index_fitting of bounds gs e ∙ h)

-- the run says nothing of it
not_found : (env : Env) (place : Place) (node : bound.Node) (of : Declared) (bounds : ℕ) (gs : List Given) → may_index of bounds gs ≡ false → is_found_late env (expression_of node place of) ≡ false
not_found env place node type.variant bounds gs h = let e : true ≡ false = h in absurd cc
not_found env place node type.object bounds gs h = let e : true ≡ false = h in absurd cc
not_found env place node (type.class n) bounds gs h = let e : true ≡ false = h in absurd cc
not_found env place node of bounds gs h = and_right (has_class env.scope.spaces) false refl

-- nor what is of a class
not_along : (env : Env) (place : Place) (node : bound.Node) (of : Declared) (bounds : ℕ) (gs : List Given) → may_index of bounds gs ≡ false → along_type env (expression_of node place of) gs ≡ None
not_along env place node (type.class n) bounds gs h = let e : true ≡ false = h in absurd cc
not_along env place node of bounds gs h = ap (λ (b : Bool). if b then Some type.variant else None) (not_found env place node of bounds gs h)

-- so the rule for what is of no class is broken
wrong_of : (env : Env) (place : Place) (node : bound.Node) (of : Declared) (bounds : ℕ) (gs : List Given) → may_index of bounds gs ≡ false → wrong_index env place node of bounds gs ≡ wrong_arguments env place 25 type.variant (also (expression_of node place of)) gs
wrong_of env place node (type.class n) bounds gs h = let e : true ≡ false = h in absurd cc
wrong_of env place node of bounds gs h = ap (λ (b : Bool). if b then no_term else wrong_arguments env place 25 type.variant (also (expression_of node place of)) gs) h

not_indexed_value : (env : Env) (place : Place) (made : bound.Node) (of : Declared) (gs : List Given) → may_index of 0 gs ≡ false → indexed_value (operand_of env) (along_value env) env place made of gs ≡ no_term
not_indexed_value env place made of gs h =
    let T : Declared → Exprs → terms.Term = λ (u : Declared) (xs : Exprs). a_value (element_value (expression_of made place of) xs) u in
    rw (not_along env place made of 0 gs h) (not_numbers_of (may_be_instance env (expression_of made place of)) (operand_of env) of gs T h)

value_refused : (env : Env) (place : Place) (made : bound.Node) (of : Declared) (gs : List Given) (rule : ℕ) → (if may_index of 0 gs then None else Some 25) ≡ Some rule
    → indexed env place (item_of env place (a_value made of)) gs ≡ wrong_arguments env place rule type.variant (also (expression_of made place of)) gs
value_refused env place made of gs rule h =
    let b = broken_by (may_index of 0 gs) rule h in
    let no_class : Bool = not (may_be_instance env (expression_of made place of)) in
    ap (λ (c : Bool). indexed env place (if c && no_class then object_member place place made of (codes "item") else a_value made of) gs) (not_host of 0 gs b.0)
    ∙ ap (λ (z : terms.Term). term_or z (wrong_term env place (a_value made of) gs)) (not_indexed_value env place made of gs b.0)
    ∙ wrong_of env place made of 0 gs b.0 ∙ ap (λ (n : ℕ). wrong_arguments env place n type.variant (also (expression_of made place of)) gs) b.1

place_refused : (env : Env) (place : Place) (at : Lvalue) (of : Declared) (bounds : ℕ) (lends makes : Bool) (gs : List Given) (rule : ℕ) → (if may_index of bounds gs then None else Some 25) ≡ Some rule
    → indexed env place (item_of env place (terms.a_place at of bounds lends makes)) gs ≡ wrong_arguments env place rule type.variant (also (expression_of (read_of makes at) place of)) gs
place_refused env place at of bounds lends makes gs rule h =
    let b = broken_by (may_index of bounds gs) rule h in
    let T : Declared → Exprs → terms.Term = λ (u : Declared) (xs : Exprs). terms.a_place (element_place at xs) u 0 lends makes in
    let wrong = wrong_term env place (terms.a_place at of bounds lends makes) gs in
    let instance : Bool = may_be_instance env (expression_of (read_of makes at) place of) in
    let taken : indexed_place env (expression_of (read_of makes at) place of) at bounds lends makes gs ≡ no_term =
    rw (not_along env place (read_of makes at) of bounds gs b.0) (not_fitting (operand_of env) of bounds gs T instance b.0) in
    ap (λ (c : Bool). indexed env place (if c && not instance then object_member place place (read_of makes at) of (codes "item") else terms.a_place at of bounds lends makes) gs) (not_host of bounds gs b.0)
    ∙ ap (λ (z : terms.Term). term_or z wrong) taken ∙ wrong_of env place (read_of makes at) of bounds gs b.0
    ∙ ap (λ (n : ℕ). wrong_arguments env place n type.variant (also (expression_of (read_of makes at) place of)) gs) b.1

-- what takes no arguments at all
error_refused : (env : Env) (t : Tables) (place : Place) (gs : List Given) (rule : ℕ) → refused_rule t refuser.Bare gs ≡ Some rule → indexed env place terms.err_object gs ≡ wrong_arguments env place rule type.variant (λ es. es) gs
error_refused env t place [] rule h = let e : ◌≡◌ {A = Option ℕ} None (Some rule) = h in absurd cc
error_refused env t place (g ∷ gs) rule h = ap (λ (n : ℕ). wrong_arguments env place n type.variant (λ es. es) (g ∷ gs)) (ap (λ o. number_or rule o) h)

clear_refused : (env : Env) (t : Tables) (place : Place) (gs : List Given) (rule : ℕ) → refused_rule t refuser.Bare gs ≡ Some rule → indexed env place terms.err_clear gs ≡ wrong_arguments env place rule type.variant (λ es. es) gs
clear_refused env t place [] rule h = let e : ◌≡◌ {A = Option ℕ} None (Some rule) = h in absurd cc
clear_refused env t place (g ∷ gs) rule h = ap (λ (n : ℕ). wrong_arguments env place n type.variant (λ es. es) (g ∷ gs)) (ap (λ o. number_or rule o) h)

-- ---- what stands then

record Refuses (env : Env) (t : Tables) (r : Refuser) (place : Place) (z : terms.Term) (ps below : List Piece) : Type 0 where
  pub before : List bound.Expr
  pub before_long : length before ≡ values_before r
  pub wrong : (gs : List Given) (rule : ℕ) → refused_rule t r gs ≡ Some rule → indexed env place (item_of env place z) gs ≡ wrong_arguments env place rule (declared_view (refused_type r)) (behind_values before) gs
  pub on_top : ps ≡ above (map an_expr before) below

opens_refused : (env : Env) (x : Tree) (y : Term) (r : Refuser) (d e : Drafted) → Grown d e → RefuserNamed e.tables r
    → ((tree : Expr) (below : List Piece) → x.place ≡ place_told tree → TermStands env d.tables y (callee env tree (term_of env tree)) d.pieces below → Refuses env e.tables r (place_told tree) (callee env tree (term_of env tree)) e.pieces below)
    → OpensTerm env x y d e (untaken_at x.place r)
opens_refused env x y r d e grown named f = record {
  grown = grown;
  named = named;
  stands = λ tree xs is below base at h s.
      let u = f tree below at h in
      (below, (record { place_is = at; before = u.before; before_long = u.before_long; wrong = u.wrong; on_top = u.on_top }, s));
}

-- a value, which a property gave or which is another one
value_refuses : (b : Bool) (env : Env) (x : Tree) (v : Ending) (r : Refuser) (d e : Drafted) → 1 ≡ values_before r → refused_type r ≡ Plain element.Variant → RefuserNamed e.tables r
    → ((t : Tables) (gs : List Given) (rule : ℕ) → refused_rule t r gs ≡ Some rule → HasSome b gs × ((if may_index (declared_view v.of) 0 gs then None else Some 25) ≡ Some rule))
    → e ≡ record d { pieces = put d.tables (node_of v.kind x.place v.of) d.pieces } → OpensBehind b env x (term.Value v) d e (untaken_at x.place r)
value_refuses b env x v r d e one type_is named why eq =
    let n = node_of v.kind x.place v.of in
    let of = declared_view v.of in
    let E : Tables → Type 0 = λ (t : Tables). RefuserNamed t r in
    let P : Drafted → Type 0 = λ (z : Drafted). OpensBehind b env x (term.Value v) d z (untaken_at x.place r) in
    subst P (sym eq) (record {
      grown = grown_pieces d (put d.tables n d.pieces);
      named = subst E (ap (λ (z : Drafted). z.tables) eq) named;
      stands = λ tree xs is below base z at before h s.
          let place = place_told tree in
          let whole = expression_of h.made place of in (
            below,
            (
              record {
                place_is = at;
                before = whole ∷ [];
                before_long = one;
                wrong = λ gs rule k.
                    let w = why d.tables gs rule k in
                    brackets_given b env place (callee env tree (term_of env tree)) z gs before w.0 ∙ ap (λ (y : terms.Term). indexed env place (item_of env place y) gs) h.is ∙ value_refused env place h.made of gs rule w.1
                    ∙ ap (λ (u : DeclaredType). wrong_arguments env place rule (declared_view u) (also whole) gs) (sym type_is);
                on_top = h.ends n ∙ ap (λ (p : Place). an_expr (expression_of h.made p of) ∷ below) at;
              },
              s,
            ),
          );
    })

called_some : (t : Tables) (of : DeclaredType) (gs : List Given) (rule : ℕ) → refused_rule t (refuser.Called of) gs ≡ Some rule → HasSome true gs × ((if may_index (declared_view of) 0 gs then None else Some 25) ≡ Some rule)
called_some t of [] rule h = let e : ◌≡◌ {A = Option ℕ} None (Some rule) = h in absurd cc
called_some t of (g ∷ gs) rule h = (tt, h)

pub value_untaken : (b : Bool) (env : Env) (x : Tree) (v : Ending) (d e : Drafted) → e ≡ record d { pieces = put d.tables (node_of v.kind x.place v.of) d.pieces } → OpensBehind b env x (term.Value v) d e (untaken_at x.place (value_refuser v.of b))
value_untaken false env x v d e eq = value_refuses false env x v (refuser.Value v.of 0) d e refl refl tt (λ t gs rule k. (tt, k)) eq
value_untaken true env x v d e eq = value_refuses true env x v (refuser.Called v.of) d e refl refl tt (λ t gs rule k. called_some t v.of gs rule k) eq

-- a place, of which the value is pushed
pub place_untaken : (env : Env) (x : Tree) (kind : NodeKind) (of : DeclaredType) (bounds : ℕ) (lends makes : Bool) (d m e : Drafted) → m ≡ record d { pieces = put d.tables (node_of kind x.place of) d.pieces }
    → e ≡ record m { pieces = put m.tables (node_of (read_kind makes) x.place of) m.pieces } → OpensTerm env x (term.Place kind of bounds lends makes) d e (untaken_at x.place (refuser.Value of bounds))
place_untaken env x kind of bounds lends makes d m e first second =
    let y = term.Place kind of bounds lends makes in
    let n = node_of kind x.place of in
    let l = node_of (read_kind makes) x.place of in
    let between : Drafted = record d { pieces = put d.tables n d.pieces } in
    let after : Drafted = record between { pieces = put between.tables l between.pieces } in
    let same : e ≡ after = second ∙ ap (λ (z : Drafted). record z { pieces = put z.tables l z.pieces }) first in
    let P : Drafted → Type 0 = λ (z : Drafted). OpensTerm env x y d z (untaken_at x.place (refuser.Value of bounds)) in
    subst P (sym same) (opens_refused env x y (refuser.Value of bounds) d after (grown_twice d between after (grown_pieces d (put d.tables n d.pieces)) (grown_pieces between (put between.tables l between.pieces))) tt (λ tree below at h.
    let place = place_told tree in
    let u = declared_view of in
    record {
      before = expression_of (read_of makes h.at) place u ∷ [];
      before_long = refl;
      wrong = λ gs rule k. ap (λ (z : terms.Term). indexed env place (item_of env place z) gs) h.is ∙ place_refused env place h.at u bounds lends makes gs rule k;
      on_top = read_ends makes d.tables h.at between.pieces below (h.ends n) l ∙ ap (λ (p : Place). an_expr (expression_of (read_of makes h.at) p u) ∷ below) at;
    }))

-- the object Err, and its Clear
pub error_untaken : (env : Env) (x : Tree) (d : Drafted) → OpensTerm env x term.Err d d (untaken_at x.place refuser.Bare)
error_untaken env x d = opens_refused env x term.Err refuser.Bare d d (grown_same d) tt (λ tree below at h.
    record {
      before = [];
      before_long = refl;
      wrong = λ gs rule k. ap (λ (z : terms.Term). indexed env (place_told tree) (item_of env (place_told tree) z) gs) h.0 ∙ error_refused env d.tables (place_told tree) gs rule k;
      on_top = h.1;
    })

pub clear_untaken : (env : Env) (x : Tree) (d : Drafted) → OpensTerm env x term.ErrClear d d (untaken_at x.place refuser.Bare)
clear_untaken env x d = opens_refused env x term.ErrClear refuser.Bare d d (grown_same d) tt (λ tree below at h.
    record {
      before = [];
      before_long = refl;
      wrong = λ gs rule k. ap (λ (z : terms.Term). indexed env (place_told tree) (item_of env (place_told tree) z) gs) h.0 ∙ clear_refused env d.tables (place_told tree) gs rule k;
      on_top = h.1;
    })

-- ---- procedures, and what properties give

-- what has a parameter, or is no property, isn't indexed
both_hold : (a b : Bool) → (a && b) ≡ true → (a ≡ true) × (b ≡ true)
both_hold true b h = (refl, h)
both_hold false b h = let e : false ≡ true = h in absurd cc

get_is_property : (kind : ProcedureWords) → is_get kind ≡ true → is_property kind ≡ true
get_is_property (words.Sub a) h = let e : false ≡ true = h in absurd cc
get_is_property (words.Function a) h = let e : false ≡ true = h in absurd cc
get_is_property (words.PropertyGet a b) h = refl
get_is_property (words.PropertyLet a b) h = refl
get_is_property (words.PropertySet a b) h = refl

read_property : (s : Scope) (space : Space) (number : ℕ) (w : Written) (read : ℕ × Written) → reader s space number w ≡ Some read → is_get read.1.kind ≡ true → is_property w.kind ≡ true
read_property s space number w read reads get = at (is_property w.kind) refl
  where
    second : Option (ℕ × Written) → Written
    second None = w
    second (Some f) = f.1

    at : (b : Bool) → is_property w.kind ≡ b → b ≡ true
    at true e = refl
    at false e =
        let found : Some (number, w) ≡ Some read = ap (λ (b : Bool). if b then procedure_with s is_get space w.name else Some (number, w)) (sym e) ∙ reads in
        let same : w ≡ read.1 = ap (λ o. second o) found in
        sym e ∙ get_is_property w.kind (ap (λ (v : Written). is_get v.kind) same ∙ get)

none_bound : (s : Scope) (w : Bool) (ps : List Parameter) → (length ps == 0) ≡ true → bound_parameters s w ps ≡ []
none_bound s w [] h = refl
none_bound s w (p ∷ ps) h = let e : length (p ∷ ps) ≡ 0 = eqb-true (length (p ∷ ps)) 0 h in absurd (omega (arith, e))

none_mapped : (ps : List ParameterHere) → map parameter_view ps ≡ [] → ps ≡ []
none_mapped [] h = refl
none_mapped (p ∷ ps) h = let e : ◌≡◌ {A = List project.Parameter} (parameter_view p ∷ map parameter_view ps) [] = h in absurd cc

pub not_indexed : (env : Env) (r : Routine) {z : terms.Term} (s : RoutineIs env r z) → NotIndexed r → (gs : List Given) → indexes_value s.read.1 gs ≡ false
not_indexed env r s none [] = refl
not_indexed env r s none (g ∷ gs) = at (is_get s.read.1.kind && length s.read.1.parameters == 0) refl
  where
    at : (b : Bool) → (is_get s.read.1.kind && length s.read.1.parameters == 0) ≡ b → b ≡ false
    at false e = refl
    at true e =
        let h = both_hold (is_get s.read.1.kind) (length s.read.1.parameters == 0) e in
        let property : is_property (written_view r.written).kind ≡ true = ap (λ (w : Written). is_property w.kind) (sym s.written_is) ∙ read_property env.scope s.space s.number s.written s.read s.reads h.0 in
        let empty : map parameter_view r.parameters.now ≡ [] = s.parameters_are ∙ none_bound (scope_in (home env.scope s.space) s.read.1) (takes_value s.read.1.kind) s.read.1.parameters h.1 in
        absurd (none (record { property = property; none = none_mapped r.parameters.now empty }))

-- what is wrong of a call
wrong_routine : (env : Env) (place : Place) (base : Option bound.Expr) (space : Space) (number : ℕ) (w : Written) (gs : List Given) → wrong_term env place (routine_term base space number w) gs ≡ wrong_call env place base space number w gs
wrong_routine env place None space number w gs = refl
wrong_routine env place (Some b) space number w gs = refl

routine_indexed : (env : Env) (place : Place) (z : terms.Term) (base : Option bound.Expr) (space : Space) (number : ℕ) (w : Written) (gs : List Given) → z ≡ routine_term base space number w
    → indexed env place (item_of env place z) gs ≡ term_or (call_with env place gs base space number w) (wrong_call env place base space number w gs)
routine_indexed env place z base space number w gs is =
    let routine : terms.Term = routine_term base space number w in
    ap (λ (y : terms.Term). indexed env place y gs) (routine_item env place z base space number w is ∙ is) ∙ ap (λ (y : terms.Term). term_or y (wrong_term env place routine gs)) (taken_routine env place base space number w gs)
    ∙ ap (λ (y : terms.Term). term_or (call_with env place gs base space number w) y) (wrong_routine env place base space number w gs)

procedure_refused : (env : Env) (t : Tables) (place : Place) (r : Routine) (z : terms.Term) (s : RoutineIs env r z) → NotIndexed r → (gs : List Given) (rule : ℕ) → refused_rule t (procedure_refuser r) gs ≡ Some rule
    → indexed env place (item_of env place z) gs ≡ wrong_arguments env place rule (declared_view r.of) (behind_base s.base) gs
procedure_refused env t place r z s none gs rule h =
    let base = s.base in
    let ps = parameters_in env.scope s.space s.read.1 in
    let of = call_type env.scope s.space s.read.1 in
    let b = broken_by (takes (map parameter_view r.parameters.now) gs) rule h in
    let no_takes : takes ps gs ≡ false = ap (λ (l : List project.Parameter). takes l gs) (sym s.parameters_are) ∙ b.0 in
    let index : bound.Node → Declared → terms.Term = λ (n : bound.Node) (v : Declared). value_indexed env place (item_of env place (a_value n v)) gs in
    let wrong : bound.Node → Declared → terms.Term = λ (n : bound.Node) (v : Declared). wrong_value env place (item_of env place (a_value n v)) gs in
    let taken_as : ℕ × Written → terms.Term = λ (f : ℕ × Written).
    if indexes_value f.1 gs then node_or (call_value env base s.space f.0 f.1 (Some bound.no_args)) index else call_value env base s.space f.0 f.1 (bound_arguments (argument_of env) (parameters_in env.scope s.space f.1) gs) in
    let wrong_as : ℕ × Written → terms.Term = λ (f : ℕ × Written).
    if indexes_value f.1 gs then node_or (call_value env base s.space f.0 f.1 (Some bound.no_args)) wrong
    else if takes (parameters_in env.scope s.space f.1) gs then no_term else wrong_arguments env place 25 (call_type env.scope s.space f.1) (behind_base base) gs in
    let value = call_value env base s.space s.read.0 s.read.1 (Some bound.no_args) in
    let call : Option bound.Args → terms.Term = λ (o : Option bound.Args). call_value env base s.space s.read.0 s.read.1 o in
    let marked : terms.Term = wrong_arguments env place 25 of (behind_base base) gs in
    let broken : terms.Term = if takes ps gs then no_term else marked in
    routine_indexed env place z base s.space s.number s.written gs s.is ∙ ap (λ (o : Option (ℕ × Written)). term_or (if_there (option_map taken_as o)) (if_there (option_map wrong_as o))) s.reads
    ∙ ap (λ (c : Bool). term_or (if c then node_or value index else call (bound_arguments (argument_of env) ps gs)) (if c then node_or value wrong else broken)) (not_indexed env r s none gs)
    ∙ ap (λ (o : Option bound.Args). term_or (call o) broken) (refused (argument_of env) ps gs no_takes) ∙ ap (λ (c : Bool). if c then no_term else marked) no_takes
    ∙ ap (λ (n : ℕ). wrong_arguments env place n of (behind_base base) gs) b.1 ∙ ap (λ (u : Declared). wrong_arguments env place rule u (behind_base base) gs) (sym s.of_is)

-- the object that it is called of stands before its arguments
abbrev of_base : Option bound.Expr → List bound.Expr
of_base None = []
of_base (Some base) = base ∷ []

base_values : (base : Option bound.Expr) (env : Env) (place : Place) (rule : ℕ) (of : Declared) (gs : List Given) → wrong_arguments env place rule of (behind_base base) gs ≡ wrong_arguments env place rule of (behind_values (of_base base)) gs
base_values None env place rule of gs = refl
base_values (Some base) env place rule of gs = refl

base_long : (r : Receiver) (base : Option bound.Expr) → IsReceiver r base → length (of_base base) ≡ values_of r
base_long receiver.Module None h = refl
base_long receiver.Module (Some base) h = absurd h
base_long (receiver.Own of) None h = absurd h
base_long (receiver.Own of) (Some base) h = refl
base_long (receiver.Pushed of) None h = absurd h
base_long (receiver.Pushed of) (Some base) h = refl

base_there : (base : Option bound.Expr) (ps below : List Piece) → BaseThere base ps below → ps ≡ above (map an_expr (of_base base)) below
base_there None ps below h = h
base_there (Some base) ps below h = h

pub procedure_untaken : (env : Env) (x : Tree) (r : Routine) (d e : Drafted) → NotIndexed r → PushesObject r.receiver d e → OpensTerm env x (term.Routine r) d e (untaken_at x.place (procedure_refuser r))
procedure_untaken env x r d e none p = opens_refused env x (term.Routine r) (procedure_refuser r) d e p.grown tt (λ tree below at h.
    let s = h.routine in
    let place = place_told tree in
    record {
      before = of_base s.base;
      before_long = base_long r.receiver s.base s.received;
      wrong = λ gs rule k. procedure_refused env e.tables place r (callee env tree (term_of env tree)) s none gs rule k ∙ base_values s.base env place rule (declared_view r.of) gs;
      on_top = base_there s.base e.pieces below (p.there s.base below s.received h.pushed);
    })

-- ---- members

only_first : (a n : Bool) → (a && (not n || true)) ≡ false → a ≡ false
only_first true true h = h
only_first true false h = h
only_first false n h = refl

no_names_taken : (e : bound.Expr) (m : HostMember) (a n late : Bool) (names : Option bound.ByName) (es : Option Exprs) (other called : Option bound.Node) → (a && (not n || is_some names)) ≡ false
    → (if a then if_there (option_map (λ (node : bound.Node). a_value node m.of) (if not late then (if n then from_two (λ by xs. named_member e m.name by xs) names es else other) else if not n || is_some names then called else None)) else no_term) ≡ no_term
no_names_taken e m false n late names es other called h = refl
no_names_taken e m true true false None es other called h = refl
no_names_taken e m true true true None es other called h = refl
no_names_taken e m true true late (Some by) es other called h = let no : true ≡ false = h in absurd cc
no_names_taken e m true false late names es other called h = let no : true ≡ false = h in absurd cc

not_called_by : (env : Env) (e : bound.Expr) (m : HostMember) (o : Option ℕ) (gs : List Given) → member_takes (record m { greatest = o }) gs ≡ false → host_called env e (record m { greatest = o }) gs ≡ no_term
not_called_by env e m None gs h =
    let x : HostMember = record m { greatest = None } in
    ap (λ (c : Bool). if c then if_there (option_map (λ (node : bound.Node). a_value node x.of) (member_called env e x gs)) else no_term) (only_first (takes_arguments x (length gs)) (has_names gs) h)
not_called_by env e m (Some zero) gs h =
    let x : HostMember = record m { greatest = Some zero } in
    ap (λ (c : Bool). if c then if_there (option_map (λ (node : bound.Node). a_value node x.of) (member_called env e x gs)) else no_term) (only_first (takes_arguments x (length gs)) (has_names gs) h)
not_called_by env e m (Some (suc k)) gs h =
    let x : HostMember = record m { greatest = Some (suc k) } in
    no_names_taken e x (takes_arguments x (length gs)) (has_names gs) (is_called_late env x gs) (names_taken x gs) (variant_arguments env gs) (option_map (λ es. host_member e x.name es) (variant_arguments env gs)) (late_called env e x gs) h

not_called : (env : Env) (e : bound.Expr) (m : HostMember) (gs : List Given) → member_takes m gs ≡ false → host_called env e m gs ≡ no_term
not_called env e m gs h = not_called_by env e m m.greatest gs h

member_broken : (b : Bool) (o : Option ℕ) (rule : ℕ) → (if b then None else o) ≡ Some rule → (b ≡ false) × (o ≡ Some rule)
member_broken true o rule h = let e : ◌≡◌ {A = Option ℕ} None (Some rule) = h in absurd cc
member_broken false o rule h = (refl, h)

pub member_refused : (env : Env) (place : Place) (e : bound.Expr) (m : HostMember) (gs : List Given) (rule : ℕ) → (if member_takes m gs then None else arguments_rule m) ≡ Some rule
    → indexed env place (terms.a_host_member e m) gs ≡ wrong_arguments env place rule m.of (also e) gs
member_refused env place e m gs rule h =
    let b = member_broken (member_takes m gs) (arguments_rule m) rule h in
    let marked : Option ℕ → terms.Term = λ (o : Option ℕ). if_there (option_map (λ n. wrong_arguments env place n m.of (also e) gs) o) in
    ap (λ (z : terms.Term). term_or z (wrong_term env place (terms.a_host_member e m) gs)) (not_called env e m gs b.0) ∙ ap (λ (c : Bool). if c then no_term else marked (arguments_rule m)) b.0 ∙ ap marked b.1

-- what brackets stand behind is the member
takes_brackets : (b : Bool) (env : Env) (place : Place) (z m : terms.Term) (gs : List Given) → TakesMember b env place z m → HasSome b gs → indexed env place (item_of env place z) gs ≡ indexed env place m gs
takes_brackets false env place z m gs takes some = ap (λ (t : terms.Term). indexed env place t gs) takes
takes_brackets true env place z m [] takes some = absurd some
takes_brackets true env place z m (g ∷ gs) takes some = indexed_before env place z (g ∷ gs) ∙ ap (λ (t : terms.Term). indexed env place t (g ∷ gs)) (takes g gs)

member_refuses : (b : Bool) (env : Env) (x : Tree) (m : MemberHere) (r : Refuser) (d : Drafted) → 1 ≡ values_before r → refused_type r ≡ m.of → RefuserNamed d.tables r
    → ((gs : List Given) (rule : ℕ) → refused_rule d.tables r gs ≡ Some rule → HasSome b gs × ((if member_takes (member_is d.tables m) gs then None else arguments_rule (member_is d.tables m)) ≡ Some rule))
    → OpensItem b env x m d d (untaken_at x.place r)
member_refuses b env x m r d one type_is named why = record {
  grown = grown_same d;
  named = named;
  stands = λ tree xs is object below base at takes on_top s.
      let place = place_told tree in
      let member = member_is d.tables m in (
        below,
        (
          record {
            place_is = at;
            before = object ∷ [];
            before_long = one;
            wrong = λ gs rule k.
                let w = why gs rule k in
                takes_brackets b env place (callee env tree (term_of env tree)) (terms.a_host_member object member) gs takes w.0 ∙ member_refused env place object member gs rule w.1
                ∙ ap (λ (u : DeclaredType). wrong_arguments env place rule (declared_view u) (also object) gs) (sym type_is);
            on_top = on_top;
          },
          s,
        ),
      );
}

behind_some : (t : Tables) (m : MemberHere) (gs : List Given) (rule : ℕ) → refused_rule t (refuser.Behind m) gs ≡ Some rule → HasSome true gs × ((if member_takes (member_is t m) gs then None else arguments_rule (member_is t m)) ≡ Some rule)
behind_some t m [] rule h = let e : ◌≡◌ {A = Option ℕ} None (Some rule) = h in absurd cc
behind_some t m (g ∷ gs) rule h = (tt, h)

pub member_untaken : (b : Bool) (env : Env) (x : Tree) (m : MemberHere) (d : Drafted) → m.name < length d.tables.constants → OpensItem b env x m d d (untaken_at x.place (member_refuser m b))
member_untaken false env x m d named = member_refuses false env x m (refuser.Member m) d refl refl named (λ gs rule k. (tt, k))
member_untaken true env x m d named = member_refuses true env x m (refuser.Behind m) d refl refl named (λ gs rule k. behind_some d.tables m gs rule k)

pub member_opened : (b : Bool) (env : Env) (has : Bool) (x : Tree) (m : MemberHere) (d e : Drafted) (c : MemberCall) → has_class env.scope.spaces ≡ has → OpensMember has b x.place m d e c → OpensItem b env x m d e (items.Member c)
member_opened b env has x m d e c known o =
    record { grown = o.grown; named = o.named; stands = λ tree xs is object below base at takes on_top s. o.stands env known tree xs is object below base at takes on_top s }
