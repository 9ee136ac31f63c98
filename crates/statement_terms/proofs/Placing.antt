-- Places that statements name, and what With keeps.
use Rattle.std.proofs.Common.{◌≡◌, ℕ, Bool, true, false, List, [], ◌∷◌, Option, Some, None, option_map, if◌then◌else◌, refl, sym, ap, subst, ◌∙◌}
use Rattle.vba_base.specs.declared.place.Place.{Place}
use Rattle.vba_expression.specs.Tree.{Expr}
use Rattle.bound_project.specs.declared.declared_type.DeclaredType.{DeclaredType}
use Rattle.bound_project.specs.declared.node.NodeKind.{NodeKind}
use Rattle.bound_project.specs.declared.node.NodeKind.TheVariants as node
use Rattle.bound_project.specs.declared.statement.ActionKind.TheVariants as action
use Rattle.bound_project.specs.View.{declared_view}
use Rattle.bound_project.specs.Expressions as bound
use Rattle.bound_project.specs.Expressions.{Lvalue}
use Rattle.bound_project.specs.Bodies.{action_of}
use Rattle.bound_project.specs.Pieces.{Piece, Tables, an_expr, a_place, put, put_kind}
use Rattle.bound_project.specs.Drafts.{Drafted}
use Rattle.bound_project.specs.Statements.{with_place, with_value}
use Rattle.bound_members.specs.bound_calls.specs.bound_declarations.specs.constant_values.specs.declared_names.specs.binder.specs.Declarations.{Written}
use Rattle.bound_members.specs.bound_calls.specs.bound_declarations.specs.constant_values.specs.declared_names.specs.binder.specs.Scopes.{Space}
use Rattle.bound_members.specs.bound_calls.specs.bound_declarations.specs.constant_values.specs.declared_names.specs.View.{space_view, written_view}
use Rattle.bound_members.specs.bound_calls.specs.bound_forms.specs.Terms.{Env}
use Rattle.bound_members.specs.bound_calls.specs.bound_forms.specs.Terms as terms
use Rattle.bound_members.specs.bound_calls.specs.bound_forms.specs.Operands.{given_as, place_told}
use Rattle.bound_members.specs.bound_calls.specs.bound_forms.specs.ExpressionsBound.{term_of}
use Rattle.bound_members.specs.bound_calls.specs.bound_forms.specs.StatementsBound.{is_of_object, with_action}
use Rattle.bound_members.specs.bound_calls.specs.declared.term.Ending.{Ending}
use Rattle.bound_members.specs.bound_calls.specs.declared.term.Term.{Term}
use Rattle.bound_members.specs.bound_calls.specs.declared.term.Term.TheVariants as term
use Rattle.bound_members.specs.bound_calls.specs.declared.term.Tree.{Tree}
use Rattle.statement_nodes.specs.Pushed.{ActionStands}
use Rattle.statement_terms.specs.Terms.{may_be_object}
use Rattle.bound_members.specs.bound_calls.specs.Calls.{node_of}
use Rattle.statement_terms.specs.Kept.{WithPlacePushed, lends, place_ending, is_of_object as is_object_field}
use Rattle.bound_members.specs.bound_calls.specs.Standing.{TermStands, PlaceStands, PlaceEnds}
use Rattle.bound_members.specs.bound_calls.specs.References.{PushesGiven}
use Rattle.bound_members.specs.bound_calls.specs.Steps.{Leaves}
use Rattle.bound_members.specs.bound_calls.proofs.Growing.{grown_twice, grown_pieces}
use Rattle.bound_members.specs.bound_calls.proofs.LastNodes.{any_node, value_passes}
use Rattle.bound_members.specs.bound_calls.specs.bound_declarations.specs.constant_values.specs.declared_names.specs.binder.specs.Classes.{has_class}
use Rattle.statement_terms.proofs.Apart.{no_object}
use Rattle.std.specs.Prelude.{◌&&◌, ◌||◌, not}
use Rattle.bound_members.specs.bound_calls.specs.bound_declarations.specs.constant_values.specs.declared_names.specs.binder.specs.Types.{is_object}
use Rattle.bound_members.specs.bound_calls.specs.bound_declarations.specs.constant_values.specs.declared_names.specs.binder.specs.Constants.{is_variant}

-- a place by its last node and its type, and whether it is lent
pub record PlaceThere (t : Tables) (e : Ending) (lent : Bool) (x : terms.Term) (ps below : List Piece) : Type 0 where
  pub bounds : ℕ
  pub makes : Bool
  pub stands : PlaceStands t e.kind e.of bounds lent makes x ps below

place_there : (env : Env) (t : Tables) (x : Term) (e : Ending) (z : terms.Term) (ps below : List Piece) → place_ending x ≡ Some e → TermStands env t x z ps below → PlaceThere t e (lends x) z ps below
place_there env t (term.Place kind of bounds lent makes) e z ps below is h =
    let here : Ending = record { kind = kind; of = of } in
    let same : here ≡ e = (let k : Some here ≡ Some e = is in cc) in
    let P : Ending → Type 0 = λ (y : Ending). PlaceThere t y lent z ps below in
    subst P same (record { bounds = bounds; makes = makes; stands = h })
place_there env t x e z ps below is h = let k : None ≡ Some e = is in absurd cc

pub with_pushed : (kind : NodeKind) (of : DeclaredType) (place : Place) (d e : Drafted) → may_be_object of ≡ false → e ≡ record d { pieces = put d.tables (node_of kind place of) d.pieces } → WithPlacePushed kind of d e
with_pushed kind of place d e none eq =
    let P : Drafted → Type 0 = λ (z : Drafted). WithPlacePushed kind of d z in
    subst P (sym eq) (record { grown = grown_pieces d (put d.tables (node_of kind place of) d.pieces); plain = none; stands = λ at below h. h (node_of kind place of) })

neither : (a b c : Bool) → (a || b) ≡ false → c ≡ false → (a || (b || c)) ≡ false
neither true b c h k = let e : true ≡ false = h in absurd cc
neither false true c h k = let e : true ≡ false = h in absurd cc
neither false false c h k = k

kept_there : (at : Lvalue) (given : Option bound.Expr) (of : DeclaredType) → may_be_object of ≡ false → is_of_object at ≡ false
    → (if is_object (declared_view of) || (is_variant (declared_view of) || is_of_object at) then option_map with_value given else Some (with_place at)) ≡ Some (with_place at)
kept_there at given of h k =
    ap (λ (b : Bool). if b then option_map with_value given else Some (with_place at)) (neither (is_object (declared_view of)) (is_variant (declared_view of)) (is_of_object at) h k)

pub with_place_bound : (env : Env) (tree : Expr) (x : Tree) (at : Ending) (d e g : Drafted) → d.pieces ≡ [] → Leaves env tree d e x → place_ending x.term ≡ Some at → (has_class env.scope.spaces && not (lends x.term)) ≡ false → WithPlacePushed at.kind at.of e g
    → ActionStands (Some action.WithPlace) (with_action (term_of env tree) env (place_told tree)) d g
with_place_bound env tree x at d e g empty l is apart w =
    let q = place_there env e.tables x.term at (term_of env tree) e.pieces d.pieces is l.stands.term_is in
    let p = q.stands in
    let of = declared_view at.of in
    let all = grown_twice d e g l.grown w.grown in
    let top : g.pieces ≡ a_place p.at ∷ [] = w.stands p.at d.pieces p.ends ∙ ap (λ (ps : List Piece). a_place p.at ∷ ps) empty in
    record {
      statements = all.statements;
      bodies = all.bodies;
      named = tt;
      made = with_place p.at;
      is = ap (λ (z : terms.Term). with_action z env (place_told tree)) p.is
          ∙ kept_there p.at (given_as env (terms.a_place p.at of q.bounds (lends x.term) q.makes) (place_told tree)) at.of w.plain (no_object env tree p.at of q.bounds (lends x.term) q.makes p.is apart);
      fits = ap (λ (ps : List Piece). action_of g.tables action.WithPlace ps) top;
    }

-- what is kept as it is
value_kept : (env : Env) (tree : Expr) (x : Tree) (of : DeclaredType) (d e g : Drafted) → d.pieces ≡ [] → Leaves env tree d e x
    → with_action (term_of env tree) env (place_told tree) ≡ option_map with_value (given_as env (term_of env tree) (place_told tree)) → PushesGiven x e g of
    → ActionStands (Some action.WithValue) (with_action (term_of env tree) env (place_told tree)) d g
value_kept env tree x of d e g empty l kept p =
    let m = p.stands env tree d.pieces l.stands in
    let all = grown_twice d e g l.grown p.grown in
    let top : g.pieces ≡ an_expr m.made ∷ [] = m.on_top ∙ ap (λ (ps : List Piece). an_expr m.made ∷ ps) empty in
    record {
      statements = all.statements;
      bodies = all.bodies;
      named = tt;
      made = with_value m.made;
      is = kept ∙ ap (λ (o : Option bound.Expr). option_map with_value o) m.is;
      fits = ap (λ (ps : List Piece). action_of g.tables action.WithValue ps) top;
    }

-- a variable of another object, by its last node
object_on_top : List Piece → Bool
object_on_top (a_place x ∷ st) = is_of_object x
object_on_top st = true

field_kept : (t : Tables) (k : NodeKind) (st : List Piece) → is_object_field k ≡ true → object_on_top (put_kind t any_node k st) ≡ true
unfolding object_on_top
field_kept t (node.ObjectField i of bounded) st h = value_passes object_on_top refl (λ e. a_place (bound.object_field e i (declared_view of) bounded)) (λ e rest. refl) st
field_kept t k st h = let e : false ≡ true = h in absurd cc

field_there : (t : Tables) (k : NodeKind) (x : Lvalue) (ps below : List Piece) → is_object_field k ≡ true → PlaceEnds t k x ps below → is_of_object x ≡ true
unfolding object_on_top
field_there t k x ps below h ends = sym (ap object_on_top (ends any_node)) ∙ field_kept t k ps h

of_object : (a b f c : Bool) → ((a || b) || f) ≡ true → (f ≡ true → c ≡ true) → (a || (b || c)) ≡ true
of_object true b f c h k = refl
of_object false true f c h k = refl
of_object false false f c h k = k h

-- a place of an object, or of what may be one, is kept as it is, and so is a variable of another object
with_object : (env : Env) (place : Place) (at : Lvalue) (of : DeclaredType) (bounds : ℕ) (lent makes : Bool) → (is_object (declared_view of) || (is_variant (declared_view of) || is_of_object at)) ≡ true
    → with_action (terms.a_place at (declared_view of) bounds lent makes) env place ≡ option_map with_value (given_as env (terms.a_place at (declared_view of) bounds lent makes) place)
with_object env place at of bounds lent makes h =
    let given = given_as env (terms.a_place at (declared_view of) bounds lent makes) place in ap (λ (b : Bool). if b then option_map with_value given else Some (with_place at)) h

pub with_object_bound : (env : Env) (tree : Expr) (x : Tree) (at : Ending) (of : DeclaredType) (d e g : Drafted) → d.pieces ≡ [] → Leaves env tree d e x → place_ending x.term ≡ Some at → (may_be_object at.of || is_object_field at.kind) ≡ true → PushesGiven x e g of
    → ActionStands (Some action.WithValue) (with_action (term_of env tree) env (place_told tree)) d g
with_object_bound env tree x at of d e g empty l is object p =
    let q = place_there env e.tables x.term at (term_of env tree) e.pieces d.pieces is l.stands.term_is in
    let s = q.stands in
    let place = place_told tree in
    let P : terms.Term → Type 0 = λ (y : terms.Term). with_action y env place ≡ option_map with_value (given_as env y place) in
    let kept = of_object (is_object (declared_view at.of)) (is_variant (declared_view at.of)) (is_object_field at.kind) (is_of_object s.at) object (λ f. field_there e.tables at.kind s.at e.pieces d.pieces f s.ends) in
    value_kept env tree x of d e g empty l (subst P (sym s.is) (with_object env place s.at at.of q.bounds (lends x.term) q.makes kept)) p

-- what is no place is kept as it is
routine_kept : (env : Env) (base : Option bound.Expr) (space : Space) (number : ℕ) (w : Written) (place : Place)
    → with_action (terms.routine_term base space number w) env place ≡ option_map with_value (given_as env (terms.routine_term base space number w) place)
routine_kept env None space number w place = refl
routine_kept env (Some b) space number w place = refl

no_place : (env : Env) (t : Tables) (x : Term) (z : terms.Term) (ps below : List Piece) (place : Place) → place_ending x ≡ None → TermStands env t x z ps below → with_action z env place ≡ option_map with_value (given_as env z place)
no_place env t (term.Place kind of bounds lent makes) z ps below place is h = let e : Ending = record { kind = kind; of = of } in let k : Some e ≡ None = is in absurd cc
no_place env t (term.Value e) z ps below place is h =
    let P : terms.Term → Type 0 = λ (y : terms.Term). with_action y env place ≡ option_map with_value (given_as env y place) in subst P (sym h.is) refl
no_place env t (term.Routine r) z ps below place is h =
    let P : terms.Term → Type 0 = λ (y : terms.Term). with_action y env place ≡ option_map with_value (given_as env y place) in
    let s = h.routine in
    subst P (sym s.is) (routine_kept env s.base s.space s.number s.written place)
no_place env t (term.Property p) z ps below place is h =
    let P : terms.Term → Type 0 = λ (y : terms.Term). with_action y env place ≡ option_map with_value (given_as env y place) in
    let s = h.property in
    subst P (sym s.is) (routine_kept env s.base (space_view p.space.now) s.number (written_view p.written) place)
no_place env t (term.Function f) z ps below place is h =
    let P : terms.Term → Type 0 = λ (y : terms.Term). with_action y env place ≡ option_map with_value (given_as env y place) in subst P (sym h.0.is) refl
no_place env t (term.HostMember m) z ps below place is h =
    let P : terms.Term → Type 0 = λ (y : terms.Term). with_action y env place ≡ option_map with_value (given_as env y place) in subst P (sym h.is) refl
no_place env t (term.SheetMember m) z ps below place is h =
    let P : terms.Term → Type 0 = λ (y : terms.Term). with_action y env place ≡ option_map with_value (given_as env y place) in subst P (sym h.0) refl
no_place env t term.Err z ps below place is h =
    let P : terms.Term → Type 0 = λ (y : terms.Term). with_action y env place ≡ option_map with_value (given_as env y place) in subst P (sym h.0) refl
no_place env t term.ErrRaise z ps below place is h =
    let P : terms.Term → Type 0 = λ (y : terms.Term). with_action y env place ≡ option_map with_value (given_as env y place) in subst P (sym h.0) refl
no_place env t term.ErrClear z ps below place is h =
    let P : terms.Term → Type 0 = λ (y : terms.Term). with_action y env place ≡ option_map with_value (given_as env y place) in subst P (sym h.0) refl
no_place env t term.ErrorWord z ps below place is h =
    let P : terms.Term → Type 0 = λ (y : terms.Term). with_action y env place ≡ option_map with_value (given_as env y place) in subst P (sym h.0) refl
no_place env t term.Nothing z ps below place is h =
    let P : terms.Term → Type 0 = λ (y : terms.Term). with_action y env place ≡ option_map with_value (given_as env y place) in subst P (sym h) refl

pub with_value_bound : (env : Env) (tree : Expr) (x : Tree) (of : DeclaredType) (d e g : Drafted) → d.pieces ≡ [] → Leaves env tree d e x → place_ending x.term ≡ None → PushesGiven x e g of
    → ActionStands (Some action.WithValue) (with_action (term_of env tree) env (place_told tree)) d g
with_value_bound env tree x of d e g empty l is p = value_kept env tree x of d e g empty l (no_place env e.tables x.term (term_of env tree) e.pieces d.pieces (place_told tree) is l.stands.term_is) p
