-- What is given a reference to an object.
use Rattle.std.proofs.Common.{◌≡◌, ℕ, Bool, true, false, List, [], ◌∷◌, Option, Some, None, is_some, if◌then◌else◌, refl, sym, ap, subst, ◌∙◌}
use Rattle.std.specs.Prelude.{◌||◌, not, option_and_then}
use Rattle.vba_base.specs.declared.place.Place.{Place}
use Rattle.vba_lexer.specs.declared.token.Token.{Token}
use Rattle.vba_values.specs.Types.{Declared}
use Rattle.vba_expression.specs.Tree.{Expr, Args, index}
use Rattle.bound_project.specs.declared.declared_type.DeclaredType.{DeclaredType}
use Rattle.bound_project.specs.declared.declared_type.DeclaredType.TheVariants.{Plain}
use Rattle.bound_project.specs.declared.declared_type.ElementType.TheVariants.{Variant}
use Rattle.vba_base.specs.declared.place.Refusal.{Refusal}
use Rattle.bound_project.specs.declared.node.Node.{Node}
use Rattle.bound_project.specs.declared.node.NodeKind.{NodeKind}
use Rattle.bound_project.specs.declared.node.NodeKind.TheVariants as node
use Rattle.bound_project.specs.declared.statement.ActionKind.{ActionKind}
use Rattle.bound_project.specs.declared.statement.ActionKind.TheVariants as action
use Rattle.bound_project.specs.Bodies.{action_of, element_found}
use Rattle.bound_project.specs.Drafts.{Drafted}
use Rattle.bound_project.specs.Expressions.{Exprs, Lvalue, no_exprs, also, element_along, marked}
use Rattle.bound_project.specs.Expressions as bound
use Rattle.bound_project.specs.Pieces.{Piece, Tables, an_expr, arguments_off, by_name_in, expr_of, exprs_off, given_off, misfit, name_in, of_found, order_in, put, put_kind, sought_in}
use Rattle.bound_project.specs.declared.node.LateUse.TheVariants.{Reading}
use Rattle.bound_project.specs.Statements.{Action, set, set_element, set_member}
use Rattle.bound_project.specs.View.{base_view, declared_view}
use Rattle.bound_members.specs.bound_calls.specs.bound_declarations.specs.constant_values.specs.declared_names.specs.binder.specs.Options.{or_else}
use Rattle.bound_members.specs.bound_calls.specs.bound_declarations.specs.constant_values.specs.declared_names.specs.binder.specs.Types.{is_object}
use Rattle.bound_members.specs.bound_calls.specs.bound_declarations.specs.constant_values.specs.declared_names.specs.binder.specs.Constants.{is_variant}
use Rattle.bound_members.specs.bound_calls.specs.bound_declarations.specs.constant_values.specs.declared_names.specs.binder.specs.Signatures.{is_property}
use Rattle.bound_members.specs.bound_calls.specs.bound_forms.specs.Terms.{Env, Given, a_host_member, a_method, a_place, a_routine, a_value, expression_of}
use Rattle.bound_members.specs.bound_calls.specs.bound_forms.specs.Terms as plain
use Rattle.bound_members.specs.bound_calls.specs.bound_forms.specs.Operands.{alone, is_value_name, place_told, read_alone}
use Rattle.bound_members.specs.bound_calls.specs.bound_forms.specs.ExpressionsBound.{bound_as_given, givens, indexed, term_of}
use Rattle.bound_members.specs.bound_calls.specs.bound_forms.specs.ClassDefaults.{class_set, declared_in}
use Rattle.bound_members.specs.bound_calls.specs.bound_forms.specs.Targets.{broken_target, class_of_term, is_sub, is_unset, led_set, may_refer, no_reference, not_assignable, object_set, place_set, set_alone, set_by, set_given, set_node, set_target, set_to, sub_object, target_before, target_of_call}
use Rattle.bound_members.specs.bound_calls.specs.declared.term.Ending.{Ending}
use Rattle.bound_members.specs.bound_calls.specs.declared.term.Function.{Function}
use Rattle.bound_members.specs.bound_calls.specs.declared.term.HostMember.{HostMember}
use Rattle.bound_members.specs.bound_calls.specs.declared.term.Term.{Term}
use Rattle.bound_members.specs.bound_calls.specs.declared.term.Term.TheVariants as term
use Rattle.bound_members.specs.bound_calls.specs.declared.term.Tree.{Tree}
use Rattle.bound_members.specs.bound_calls.specs.Standing.{TermStands, ValueEnds, member_is}
use Rattle.bound_members.specs.bound_calls.specs.Steps.{Binds, Leaves}
use Rattle.bound_members.specs.bound_calls.proofs.Growing.{grown_pieces, grown_same, grown_twice}
use Rattle.bound_members.specs.bound_calls.proofs.Taking.{node_of}
use Rattle.bound_members.specs.bound_calls.proofs.LastNodes.{any_node, found_passes, late_found_passes, member_found_passes, named_found_passes, object_found_passes, value_passes}
use Rattle.statement_nodes.specs.Pushed.{ActionStands}
use Rattle.statement_terms.specs.Terms.{may_be_object}
use Rattle.bound_members.specs.bound_calls.specs.Taking.{StandsAlone, broken_ending}
use Rattle.statement_terms.specs.Called.{ActionIs, IsBare}
use Rattle.statement_terms.specs.Setting.{SetsAlone, SetsTerm, SetsTo, ends_unset, is_marked, set_bare, set_there, set_with}
use Rattle.statement_terms.specs.Members.{is_err_term}
use Rattle.statement_terms.specs.Targets.{numbers_along}
use Rattle.statement_terms.proofs.WrittenTargets.{along_there, is_along, no_along}

-- ---- terms

place_given : (env : Env) (word place : Place) (y : plain.Term) (value : bound.Expr) (x : Lvalue) (of : Declared) (bounds : ℕ) (lends makes : Bool) → y ≡ a_place x of bounds lends makes → (is_object of || is_variant of) ≡ true → set_to env word place y value ≡ Some (place_set x value)
place_given env word place y value x of bounds lends makes e h =
    ap (λ (z : plain.Term). set_to env word place z value) e
    ∙ ap (λ (b : Bool). if b then Some (place_set x value) else Some (no_reference word (also value (also (expression_of (bound.load x) word of) no_exprs)))) h

set_plainly : (x : Lvalue) (v : bound.Expr) → is_along x ≡ false → place_set x v ≡ set x v
set_plainly (element_along x es) v h = let e : true ≡ false = h in absurd cc
set_plainly x v h = refl

pub sets_place : (word : Place) (kind : NodeKind) (of : DeclaredType) (place : Place) (d e : Drafted) → may_be_object of ≡ true → numbers_along kind ≡ None → e ≡ record d { pieces = put d.tables (node_of kind place of) d.pieces }
    → (bounds : ℕ) (lends makes : Bool) → SetsTerm word place (term.Place kind of bounds lends makes) d e action.Set
sets_place word kind of place d e h other eq bounds lends makes =
    let P : Drafted → Type 0 = λ (z : Drafted). SetsTerm word place (term.Place kind of bounds lends makes) d z action.Set in
    let n = node_of kind place of in
    subst P (sym eq) (record {
      grown = grown_pieces d (put d.tables n d.pieces);
      named = tt;
      stands = λ env y value k.
          record {
            made = set k.at value;
            is = place_given env word place y value k.at (declared_view of) bounds lends makes k.is h ∙ ap (λ (a : Action). Some a) (set_plainly k.at value (no_along d.tables kind k.at d.pieces (an_expr value ∷ []) other k.ends));
            fits = ap (λ (ps : List Piece). action_of d.tables action.Set ps) (k.ends n);
          };
    })

-- one to which arguments lead from another one, as the run says
pub sets_along : (word : Place) (at : Ending) (place : Place) (count : ℕ) (d : Drafted) → may_be_object at.of ≡ true → numbers_along at.kind ≡ Some count
    → (bounds : ℕ) (lends makes : Bool) → SetsTerm word place (term.Place at.kind at.of bounds lends makes) d d (action.SetElement count)
sets_along word at place count d h along bounds lends makes = record {
  grown = grown_same d;
  named = tt;
  stands = λ env y value k.
      let there = along_there d.tables at.kind count k.at d.pieces (an_expr value ∷ []) along k.ends in
      record {
        made = set_element there.base there.numbers value;
        is = place_given env word place y value k.at (declared_view at.of) bounds lends makes k.is h ∙ ap (λ (x : Lvalue). Some (place_set x value)) there.at_is;
        fits = ap (λ o. element_found (λ x es e. set_element x es e) o) there.is;
      };
}

-- a place that can't have an object
no_place_set : (env : Env) (word place : Place) (y : plain.Term) (value : bound.Expr) (x : Lvalue) (of : Declared) (bounds : ℕ) (lends makes : Bool) → y ≡ a_place x of bounds lends makes → (is_object of || is_variant of) ≡ false
    → set_to env word place y value ≡ Some (no_reference word (also value (also (expression_of (bound.load x) word of) no_exprs)))
no_place_set env word place y value x of bounds lends makes e h =
    ap (λ (z : plain.Term). set_to env word place z value) e
    ∙ ap (λ (b : Bool). if b then Some (place_set x value) else Some (no_reference word (also value (also (expression_of (bound.load x) word of) no_exprs)))) h

pub sets_no_place : (word : Place) (kind : NodeKind) (of : DeclaredType) (place : Place) (d d1 d2 e : Drafted) → may_be_object of ≡ false → d1 ≡ record d { pieces = put d.tables (node_of kind place of) d.pieces }
    → d2 ≡ record d1 { pieces = put d1.tables (node_of node.Load word of) d1.pieces } → e ≡ record d2 { pieces = put d2.tables (node_of (node.Marked (record { rule = 28; place = word }) 2) word (Plain Variant)) d2.pieces }
    → (bounds : ℕ) (lends makes : Bool) → SetsTerm word place (term.Place kind of bounds lends makes) d e action.Evaluate
sets_no_place word kind of place d d1 d2 e h a b c bounds lends makes =
    let P : Drafted → Type 0 = λ (z : Drafted). SetsTerm word place (term.Place kind of bounds lends makes) d z action.Evaluate in
    let n = node_of kind place of in
    let l = node_of node.Load word of in
    let m = node_of (node.Marked (record { rule = 28; place = word }) 2) word (Plain Variant) in
    let two : d2 ≡ record d { pieces = put d.tables l (put d.tables n d.pieces) } = b ∙ ap (λ (z : Drafted). record z { pieces = put z.tables l z.pieces }) a in
    let three : e ≡ record d { pieces = put d.tables m (put d.tables l (put d.tables n d.pieces)) } = c ∙ ap (λ (z : Drafted). record z { pieces = put z.tables m z.pieces }) two in
    subst P (sym three) (record {
      grown = grown_pieces d (put d.tables m (put d.tables l (put d.tables n d.pieces)));
      named = tt;
      stands = λ env y value k.
          record {
            made = no_reference word (also value (also (expression_of (bound.load k.at) word (declared_view of)) no_exprs));
            is = no_place_set env word place y value k.at (declared_view of) bounds lends makes k.is h;
            fits = ap (λ (ps : List Piece). action_of d.tables action.Evaluate (put d.tables m (put d.tables l ps))) (k.ends n);
          };
    })

-- what breaks a rule as a value
record MarkThere (made : bound.Node) : Type 0 where
  broken : Refusal
  values : Exprs
  is : made ≡ marked broken values

mark_on_top : (n : Node) (broken : Refusal) (made : bound.Node) (o : Option (Exprs × List Piece)) (below : List Piece) → of_found (λ es. expr_of n (marked broken es)) o ≡ expr_of n made ∷ below → MarkThere made
mark_on_top n broken made None below h = let e : misfit ≡ expr_of n made ∷ below = h in absurd cc
mark_on_top n broken made (Some found) below h =
    let e : expr_of n (marked broken found.0) ∷ found.1 ≡ expr_of n made ∷ below = h in
    record { broken = broken; values = found.0; is = (let same : marked broken found.0 ≡ made = cc in sym same) }

mark_there : (t : Tables) (n : Node) (k : NodeKind) (made : bound.Node) (ps below : List Piece) → is_marked k ≡ true → put_kind t n k ps ≡ expr_of n made ∷ below → MarkThere made
mark_there t n (node.Marked broken count) made ps below h ends = mark_on_top n broken made (exprs_off count ps no_exprs) below ends
mark_there t n k made ps below h ends = let e : false ≡ true = h in absurd cc

marked_set : (word place : Place) (made : bound.Node) (of : Declared) (v : bound.Expr) → MarkThere made → set_node word place made of v ≡ Some (set_member (expression_of made word of) v)
marked_set word place made of v m =
    let A : bound.Node → Type 0 = λ (x : bound.Node). set_node word place x of v ≡ Some (set_member (expression_of x word of) v) in subst A (sym m.is) refl

-- a value, by whether it may be an object
value_set : (env : Env) (word place : Place) (y : plain.Term) (made : bound.Node) (of : Declared) (v : bound.Expr) (may : Bool) → y ≡ a_value made of → may_refer of ≡ may
    → set_to env word place y v ≡ (if may then set_node word place made of v else Some (no_reference word (also v (also (expression_of made place of) no_exprs))))
value_set env word place y made of v may e h =
    let by : Bool → Option Action = λ (b : Bool). if b then set_node word place made of v else Some (no_reference word (also v (also (expression_of made place of) no_exprs))) in
    ap (λ (z : plain.Term). set_to env word place z v) e ∙ ap by h

pub sets_marked : (word : Place) (ending : Ending) (d e : Drafted) → may_be_object ending.of ≡ true → is_marked ending.kind ≡ true → e ≡ record d { pieces = put d.tables (node_of ending.kind word ending.of) d.pieces }
    → (place : Place) → SetsTerm word place (term.Value ending) d e action.SetMember
sets_marked word ending d e may h eq place =
    let P : Drafted → Type 0 = λ (z : Drafted). SetsTerm word place (term.Value ending) d z action.SetMember in
    let n = node_of ending.kind word ending.of in
    subst P (sym eq) (record {
      grown = grown_pieces d (put d.tables n d.pieces);
      named = tt;
      stands = λ env y value k.
          let of = declared_view ending.of in
          record {
            made = set_member (expression_of k.made word of) value;
            is = value_set env word place y k.made of value true k.is may ∙ marked_set word place k.made of value (mark_there d.tables n ending.kind k.made d.pieces (an_expr value ∷ []) h (k.ends n));
            fits = ap (λ (ps : List Piece). action_of d.tables action.SetMember ps) (k.ends n);
          };
    })

-- a value that is never set, and breaks no rule by itself
abbrev never_set : bound.Node → Bool
never_set (marked broken es) = false
never_set node = is_unset node

never_on_top : List Piece → Bool
never_on_top (an_expr (bound.expr made place of operand) ∷ st) = never_set made
never_on_top st = true

never_there : (t : Tables) (n : Node) (k : NodeKind) (st : List Piece) → is_marked k ≡ false → ends_unset t k ≡ true → never_on_top (put_kind t n k st) ≡ true
unfolding never_on_top
never_there t n node.This st o h = refl
never_there t n (node.HostObject reference) st o h = refl
never_there t n node.ActiveSheet st o h = refl
never_there t n (node.HostMember i count) st o h =
    member_found_passes never_on_top refl (name_in t i) (λ e es. expr_of n (bound.host_member e (name_in t i) es)) (λ e es rest. h) (exprs_off count st no_exprs)
never_there t n (node.NamedMember i by count) st o h =
    named_found_passes never_on_top refl (name_in t i) (by_name_in t by) (λ e es. expr_of n (bound.named_member e (name_in t i) (by_name_in t by) es)) (λ e es rest. h) (exprs_off count st no_exprs)
never_there t n (node.LateMember x) st o h =
    late_found_passes never_on_top refl (sought_in t Reading x) (λ e given. expr_of n (bound.late_member e (name_in t x.name) (by_name_in t x.names) given)) (λ e given rest. h)
    (given_off (sought_in t Reading x) x.arguments st bound.none_given)
never_there t n (node.Constant i) st o h = refl
never_there t n (node.ErrValue _) st o h = refl
never_there t n (node.Library f text_form count compare one) st o h =
    found_passes never_on_top refl (λ es. expr_of n (bound.library f text_form es compare (base_view one))) (λ es rest. refl) (exprs_off count st no_exprs)
never_there t n (node.Call p count) st o h = found_passes never_on_top refl (λ args. expr_of n (bound.call p args)) (λ args rest. refl) (arguments_off count st bound.no_args)
never_there t n (node.CallInOrder p count order) st o h =
    found_passes never_on_top refl (λ args. expr_of n (bound.call p (bound.in_order (order_in t order) args))) (λ args rest. refl) (arguments_off count st bound.no_args)
never_there t n (node.Method p count) st o h = object_found_passes never_on_top refl (λ e args. expr_of n (bound.method e p args)) (λ e args rest. refl) (arguments_off count st bound.no_args)
never_there t n (node.MethodInOrder p count order) st o h =
    object_found_passes never_on_top refl (λ e args. expr_of n (bound.method e p (bound.in_order (order_in t order) args))) (λ e args rest. refl) (arguments_off count st bound.no_args)
never_there t n (node.FieldValue i) st o h = value_passes never_on_top refl (λ e. expr_of n (bound.field_value e i)) (λ e rest. refl) st
never_there t n (node.Marked broken count) st o h = let e : true ≡ false = o in absurd cc
never_there t n k st o h = let e : false ≡ true = h in absurd cc

never : (t : Tables) (k : NodeKind) (made : bound.Node) (ps below : List Piece) → is_marked k ≡ false → ends_unset t k ≡ true → ValueEnds t k made ps below → never_set made ≡ true
unfolding never_on_top
never t k made ps below o h ends = sym (ap never_on_top (ends any_node)) ∙ never_there t any_node k ps o h

never_done : (word place : Place) (made : bound.Node) (of : Declared) (v : bound.Expr) → never_set made ≡ true → set_node word place made of v ≡ Some (not_assignable place v made of)
never_done word place bound.this of v h = refl
never_done word place (bound.host_object reference) of v h = refl
never_done word place bound.active_sheet of v h = refl
never_done word place (bound.host_member e name es) of v h = ap (λ (b : Bool). if b then Some (not_assignable place v (bound.host_member e name es) of) else None) h
never_done word place (bound.named_member e name by es) of v h = ap (λ (b : Bool). if b then Some (not_assignable place v (bound.named_member e name by es) of) else None) h
never_done word place (bound.late_member e name by given) of v h = ap (λ (b : Bool). if b then Some (not_assignable place v (bound.late_member e name by given) of) else None) h
never_done word place (bound.constant c) of v h = refl
never_done word place (bound.err_value m) of v h = refl
never_done word place (bound.library f text_form es compare base) of v h = refl
never_done word place (bound.call p args) of v h = refl
never_done word place (bound.method e p args) of v h = refl
never_done word place (bound.field_value e i) of v h = refl
never_done word place made of v h = let e : false ≡ true = h in absurd cc

-- what a value was marked with: the rule that Set of it breaks, and where
value_marked : (rule : ℕ) (at word place : Place) (ending : Ending) (d f e : Drafted) → f ≡ record d { pieces = put d.tables (node_of ending.kind place ending.of) d.pieces }
    → e ≡ record f { pieces = put f.tables (node_of (broken_ending rule at (Plain Variant) 2).kind at (broken_ending rule at (Plain Variant) 2).of) f.pieces }
    → ((env : Env) (y : plain.Term) (made : bound.Node) (v : bound.Expr) → y ≡ a_value made (declared_view ending.of) → ValueEnds d.tables ending.kind made d.pieces (an_expr v ∷ [])
    → set_to env word place y v ≡ Some (broken_target rule at v (also (expression_of made place (declared_view ending.of)) no_exprs)))
    → SetsTerm word place (term.Value ending) d e action.Evaluate
value_marked rule at word place ending d f e first second is_set =
    let n = node_of ending.kind place ending.of in
    let m = node_of (broken_ending rule at (Plain Variant) 2).kind at (broken_ending rule at (Plain Variant) 2).of in
    let low = put d.tables n d.pieces in
    let is : e ≡ record d { pieces = put d.tables m low } = second ∙ ap (λ (z : Drafted). record z { pieces = put z.tables m z.pieces }) first in
    let P : Drafted → Type 0 = λ (z : Drafted). SetsTerm word place (term.Value ending) d z action.Evaluate in
    subst P (sym is) (record {
      grown = grown_pieces d (put d.tables m low);
      named = tt;
      stands = λ env y value k.
          let of = declared_view ending.of in
          record {
            made = broken_target rule at value (also (expression_of k.made place of) no_exprs);
            is = is_set env y k.made value k.is k.ends;
            fits = ap (λ (ps : List Piece). action_of d.tables action.Evaluate (put d.tables m ps)) (k.ends n);
          };
    })

pub sets_unset : (word place : Place) (ending : Ending) (d f e : Drafted) → may_be_object ending.of ≡ true → is_marked ending.kind ≡ false → ends_unset d.tables ending.kind ≡ true
    → f ≡ record d { pieces = put d.tables (node_of ending.kind place ending.of) d.pieces }
    → e ≡ record f { pieces = put f.tables (node_of (broken_ending 27 place (Plain Variant) 2).kind place (broken_ending 27 place (Plain Variant) 2).of) f.pieces } → SetsTerm word place (term.Value ending) d e action.Evaluate
sets_unset word place ending d f e may other unset first second =
    let of = declared_view ending.of in
    value_marked 27 place word place ending d f e first second (λ env y made v is ends.
    value_set env word place y made of v true is may ∙ never_done word place made of v (never d.tables ending.kind made d.pieces (an_expr v ∷ []) other unset ends))

pub sets_no_object : (word place : Place) (ending : Ending) (d f e : Drafted) → may_be_object ending.of ≡ false → f ≡ record d { pieces = put d.tables (node_of ending.kind place ending.of) d.pieces }
    → e ≡ record f { pieces = put f.tables (node_of (node.Marked (record { rule = 28; place = word }) 2) word (Plain Variant)) f.pieces } → SetsTerm word place (term.Value ending) d e action.Evaluate
sets_no_object word place ending d f e may first second =
    value_marked 28 word word place ending d f e first second (λ env y made v is ends. value_set env word place y made (declared_view ending.of) v false is may)

-- what a term is without arguments
pub value_alone : (word place : Place) (x : Term) (ending : Ending) (d f e : Drafted) (kind : ActionKind) → StandsAlone x place d f (term.Value ending) → SetsTerm word place (term.Value ending) f e kind → SetsAlone word place x d e kind
value_alone word place x ending d f e kind a s = record {
  grown = grown_twice d f e a.grown s.grown;
  named = s.named;
  stands = λ env y value h.
      let v = a.stands env y (an_expr value ∷ []) h in
      let m = s.stands env (alone env place y) value v in
      record { made = m.made; is = ap (λ (z : plain.Term). set_alone word place z value) v.is ∙ sym (ap (λ (z : plain.Term). set_to env word place z value) v.is) ∙ m.is; fits = m.fits };
}

-- a member of an object: as one that the run finds, or what it is without arguments
pub sets_found : (word place : Place) (m : HostMember) (d : Drafted) (late value : Bool) → late ≡ not (is_some m.greatest) → value ≡ is_value_name (name_in d.tables m.name) → (late || value) ≡ true → SetsTerm word place (term.HostMember m) d d action.SetMember
sets_found word place m d late value a b h = record {
  grown = grown_same d;
  named = tt;
  stands = λ env y v k.
      let member = member_is d.tables m in
      let done : Bool → Option Action = λ (c : Bool). if c then Some (set_member k.object v) else set_alone word place (read_alone place k.object member) v in
      record {
        made = set_member k.object v;
        is = ap (λ (z : plain.Term). set_to env word place z v) k.is
            ∙ ap done (ap (λ (c : Bool). c || is_value_name member.name) (sym a) ∙ ap (λ (c : Bool). late || c) (sym b) ∙ h);
        fits = ap (λ (ps : List Piece). action_of d.tables action.SetMember ps) k.on_top;
      };
}

pub sets_read : (word place : Place) (m : HostMember) (d e : Drafted) (kind : ActionKind) (late value : Bool) → late ≡ not (is_some m.greatest) → value ≡ is_value_name (name_in d.tables m.name) → (late || value) ≡ false
    → SetsAlone word place (term.HostMember m) d e kind → SetsTerm word place (term.HostMember m) d e kind
sets_read word place m d e kind late value a b h s = record {
  grown = s.grown;
  named = s.named;
  stands = λ env y v k.
      let member = member_is d.tables m in
      let r = s.stands env y v k in
      let done : Bool → Option Action = λ (c : Bool). if c then Some (set_member k.object v) else set_alone word place (read_alone place k.object member) v in
      record {
        made = r.made;
        is = ap (λ (z : plain.Term). set_to env word place z v) k.is
            ∙ ap done (ap (λ (c : Bool). c || is_value_name member.name) (sym a) ∙ ap (λ (c : Bool). late || c) (sym b) ∙ h)
            ∙ sym (ap (λ (z : plain.Term). set_alone word place (alone env place z) v) k.is) ∙ r.is;
        fits = r.fits;
      };
}

-- a function of the library
pub sets_function : (word place : Place) (f : Function) (x : Term) (d e : Drafted) (kind : ActionKind) → x ≡ term.Function f → SetsAlone word place x d e kind → SetsTerm word place x d e kind
sets_function word place f x d e kind same s =
    let P : Term → Type 0 = λ (z : Term). SetsAlone word place z d e kind → SetsTerm word place z d e kind in
    subst P (sym same) (λ a.
    record {
      grown = a.grown;
      named = a.named;
      stands = λ env y v k.
          let r = a.stands env y v k in
          record {
            made = r.made;
            is = ap (λ (z : plain.Term). set_to env word place z v) k.0.is ∙ sym (ap (λ (z : plain.Term). set_alone word place (alone env place z) v) k.0.is) ∙ r.is;
            fits = r.fits;
          };
    }) s

-- Err, and what it does
err_set : (env : Env) (word place : Place) (t : Tables) (x : Term) (y : plain.Term) (v : bound.Expr) (ps below : List Piece) → is_err_term x ≡ true → TermStands env t x y ps below → (set_to env word place y v ≡ Some (broken_target 27 place v no_exprs)) × (ps ≡ below)
err_set env word place t term.Err y v ps below h k = (ap (λ (z : plain.Term). set_to env word place z v) k.0, k.1)
err_set env word place t term.ErrRaise y v ps below h k = (ap (λ (z : plain.Term). set_to env word place z v) k.0, k.1)
err_set env word place t term.ErrClear y v ps below h k = (ap (λ (z : plain.Term). set_to env word place z v) k.0, k.1)
err_set env word place t x y v ps below h k = let e : false ≡ true = h in absurd cc

pub sets_err : (place : Place) (x : Term) (d e : Drafted) → is_err_term x ≡ true
    → e ≡ record d { pieces = put d.tables (node_of (broken_ending 27 place (Plain Variant) 1).kind place (broken_ending 27 place (Plain Variant) 1).of) d.pieces } → (word : Place) → SetsTerm word place x d e action.Evaluate
sets_err place x d e h eq word =
    let n = node_of (broken_ending 27 place (Plain Variant) 1).kind place (broken_ending 27 place (Plain Variant) 1).of in
    let P : Drafted → Type 0 = λ (z : Drafted). SetsTerm word place x d z action.Evaluate in
    subst P (sym eq) (record {
      grown = grown_pieces d (put d.tables n d.pieces);
      named = tt;
      stands = λ env y value k.
          let s = err_set env word place d.tables x y value d.pieces (an_expr value ∷ []) h k in
          record { made = broken_target 27 place value no_exprs; is = s.0; fits = ap (λ (ps : List Piece). action_of d.tables action.Evaluate (put d.tables n ps)) s.1 };
    })

-- ---- expressions

pub target_parts : (env : Env) (base : Expr) (left right : Token) (args : Args) → set_target env (index base left args right) ≡ set_with env (place_told base) (givens env args) (target_before env base (givens env args))
target_parts env base left right args = refl

-- a member, and a property, aren't looked at with their arguments
abbrev pub is_apart : plain.Term → Bool
is_apart (a_host_member e m) = true
is_apart (a_routine space number p) = is_property p.kind
is_apart (a_method object space number p) = is_property p.kind
is_apart t = false

pub other_set : (env : Env) (place : Place) (gs : List Given) (t : plain.Term) → is_apart t ≡ false → set_with env place gs t ≡ indexed env place t gs
other_set env place gs (a_host_member e m) h = let k : true ≡ false = h in absurd cc
other_set env place gs (a_routine space number p) h = ap (λ (b : Bool). if b then a_routine space number p else indexed env place (a_routine space number p) gs) h
other_set env place gs (a_method object space number p) h = ap (λ (b : Bool). if b then a_method object space number p else indexed env place (a_method object space number p) gs) h
other_set env place gs t h = refl

-- a member that is found in the run is set as it is
pub member_set : (env : Env) (place : Place) (gs : List Given) (e : bound.Expr) (m : plain.HostMember) → is_some m.greatest ≡ false → set_with env place gs (a_host_member e m) ≡ a_host_member e m
member_set env place gs e m h = ap (λ (b : Bool). if b then indexed env place (a_host_member e m) gs else a_host_member e m) h

pub bare_target : (env : Env) (place : Expr) → IsBare place → set_target env place ≡ set_bare env (place_told place) (term_of env place)
bare_target env (index base left args right) h = absurd h
bare_target env e h = refl

pub bare_callee : (env : Env) (place : Expr) → IsBare place → target_of_call env place ≡ term_of env place
bare_callee env (index base left args right) h = absurd h
bare_callee env e h = refl

-- what is done with an expression that is no Sub
pub set_there_is : (word : Place) (env : Env) (place : Expr) (value : bound.Expr) → is_sub (target_of_call env place) ≡ false → set_there env word place value ≡ object_set env word place value
set_there_is word env place value none = ap (λ (b : Bool). if b then Some (broken_target 27 (place_told place) value (sub_object (target_of_call env place))) else object_set env word place value) none

-- with one that doesn't end with arguments: its Set, or else what it is
pub bare_set : (word : Place) (env : Env) (place : Expr) (value : bound.Expr) → IsBare place
    → object_set env word place value ≡ or_else (set_by env (place_told place) [] (term_of env place) value) (set_to env word (place_told place) (set_target env place) value)
bare_set word env (index base left args right) value h = absurd h
bare_set word env e value h = refl

-- with one that has no Set
pub set_other : (word : Place) (env : Env) (place : Expr) (value : bound.Expr) → IsBare place → is_sub (target_of_call env place) ≡ false → set_by env (place_told place) [] (term_of env place) value ≡ None
    → set_there env word place value ≡ set_to env word (place_told place) (set_target env place) value
set_other word env place value bare none unset =
    set_there_is word env place value none ∙ bare_set word env place value bare ∙ ap (λ (o : Option Action). or_else o (set_to env word (place_told place) (set_target env place) value)) unset

pub sets_bare : (word : Place) (env : Env) (place : Expr) (x : Tree) (d f e : Drafted) (kind : ActionKind) → IsBare place → is_sub (term_of env place) ≡ false → set_bare env (place_told place) (term_of env place) ≡ term_of env place
    → ((value : bound.Expr) → set_by env (place_told place) [] (term_of env place) value ≡ None) → Leaves env place d f x → SetsTerm word x.place x.term f e kind → SetsTo word env place d e kind
sets_bare word env place x d f e kind bare no_sub itself unset l s = record {
  grown = grown_twice d f e l.grown s.grown;
  named = s.named;
  stands = λ value alone.
      let T : List Piece → Type 0 = λ (ps : List Piece). TermStands env f.tables x.term (term_of env place) f.pieces ps in
      let A : Place → Type 0 = λ (p : Place). ActionIs kind (set_to env word p (term_of env place) value) e.tables e.pieces in
      let m = subst A l.stands.place_is (s.stands env (term_of env place) value (subst T alone l.stands.term_is)) in
      record {
        made = m.made;
        is = set_other word env place value bare (ap (λ (t : plain.Term). is_sub t) (bare_callee env place bare) ∙ no_sub) (unset value)
            ∙ ap (λ (t : plain.Term). set_to env word (place_told place) t value) (bare_target env place bare ∙ itself) ∙ m.is;
        fits = m.fits;
      };
}

-- with one that ends with arguments, behind what is no object of a class, and behind one
pub split_set : (word : Place) (env : Env) (base : Expr) (left right : Token) (args : Args) (value : bound.Expr) → class_of_term (target_before env base (givens env args)) ≡ None
    → object_set env word (index base left args right) value
    ≡ or_else (set_by env (place_told base) (givens env args) (target_before env base (givens env args)) value) (set_to env word (place_told base) (set_with env (place_told base) (givens env args) (target_before env base (givens env args))) value)
split_set word env base left right args value h = rw h refl

pub split_led : (word : Place) (env : Env) (base : Expr) (left right : Token) (args : Args) (value : bound.Expr) (number : ℕ) → class_of_term (target_before env base (givens env args)) ≡ Some number
    → object_set env word (index base left args right) value ≡ led_set env (class_set (declared_in env.scope) number (givens env args)) (place_told base) (target_before env base (givens env args)) (givens env args) value
split_led word env base left right args value number h = rw h refl

-- with one that ends with arguments, of what has no Set
pub split_other : (word : Place) (env : Env) (base : Expr) (left right : Token) (args : Args) (value : bound.Expr) → is_sub (target_of_call env (index base left args right)) ≡ false
    → class_of_term (target_before env base (givens env args)) ≡ None → set_by env (place_told base) (givens env args) (target_before env base (givens env args)) value ≡ None
    → set_there env word (index base left args right) value ≡ set_to env word (place_told base) (set_with env (place_told base) (givens env args) (target_before env base (givens env args))) value
split_other word env base left right args value none class unset =
    let p = place_told base in
    let t = target_before env base (givens env args) in
    let gs = givens env args in
    set_there_is word env (index base left args right) value none ∙ split_set word env base left right args value class ∙ ap (λ (o : Option Action). or_else o (set_to env word p (set_with env p gs t) value)) unset

-- ---- the statement

-- what is given, by whether it may be an object
given_may : (env : Env) (word : Place) (place : Expr) (v : bound.Expr) (of : DeclaredType) (may : Bool) → bound.operand_type v ≡ declared_view of → may_be_object of ≡ may
    → set_given env word place v ≡ (if not may then Some (no_reference word (also v no_exprs)) else set_there env word place v)
given_may env word place v of may operand is =
    let kept : Bool → Option Action = λ (b : Bool). if not b then Some (no_reference word (also v no_exprs)) else set_there env word place v in
    ap kept (ap (λ (u : Declared). may_refer u) operand ∙ is)

pub set_bound : (word : Place) (env : Env) (place value : Expr) (of : DeclaredType) (d e g : Drafted) (kind : ActionKind) → d.pieces ≡ [] → Binds (bound_as_given env value) d e (Some of) → may_be_object of ≡ true
    → SetsTo word env place e g kind → ActionStands (Some kind) (option_and_then (set_given env word place) (bound_as_given env value)) d g
set_bound word env place value of d e g kind none b may a =
    let made = b.pushed.made in
    let alone : e.pieces ≡ an_expr made ∷ [] = b.pushed.on_top ∙ ap (λ (ps : List Piece). an_expr made ∷ ps) none in
    let s = a.stands made alone in
    let all = grown_twice d e g b.grown a.grown in
    record {
      statements = all.statements;
      bodies = all.bodies;
      named = a.named;
      made = s.made;
      is = ap (λ (o : Option bound.Expr). option_and_then (set_given env word place) o) b.pushed.is ∙ given_may env word place made of true b.pushed.operand may ∙ s.is;
      fits = s.fits;
    }

-- a value that can't be an object
pub set_broken : (word : Place) (env : Env) (place value : Expr) (of : DeclaredType) (d e g : Drafted) → d.pieces ≡ [] → Binds (bound_as_given env value) d e (Some of) → may_be_object of ≡ false
    → g ≡ record e { pieces = put e.tables (node_of (node.Marked (record { rule = 28; place = word }) 1) word (Plain Variant)) e.pieces }
    → ActionStands (Some action.Evaluate) (option_and_then (set_given env word place) (bound_as_given env value)) d g
set_broken word env place value of d e g none b may eq =
    let made = b.pushed.made in
    let alone : e.pieces ≡ an_expr made ∷ [] = b.pushed.on_top ∙ ap (λ (ps : List Piece). an_expr made ∷ ps) none in
    let n = node_of (node.Marked (record { rule = 28; place = word }) 1) word (Plain Variant) in
    let all = grown_twice d e (record e { pieces = put e.tables n e.pieces }) b.grown (grown_pieces e (put e.tables n e.pieces)) in
    let found = option_and_then (set_given env word place) (bound_as_given env value) in
    let P : Drafted → Type 0 = λ (z : Drafted). ActionStands (Some action.Evaluate) found d z in
    subst P (sym eq) (record {
      statements = all.statements;
      bodies = all.bodies;
      named = tt;
      made = no_reference word (also made no_exprs);
      is = ap (λ (o : Option bound.Expr). option_and_then (set_given env word place) o) b.pushed.is ∙ given_may env word place made of false b.pushed.operand may;
      fits = ap (λ (ps : List Piece). action_of e.tables action.Evaluate (put e.tables n ps)) alone;
    })
