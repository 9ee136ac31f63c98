-- How arguments and calls are pushed.
use Rattle.std.proofs.Common.{◌≡◌, T, ℕ, ◌<◌, ◌≤◌, ◌+◌, Bool, true, false, ◌&&◌, ◌||◌, List, [], ◌∷◌, ◌++◌, map, length, get_or, drop, Option, Some, None, option_map, is_some, if◌then◌else◌, not, refl, sym, ap, subst, ◌∙◌, arith, length-append, append-nil, append_assoc}
use Rattle.std.proofs.lemmas.List.{map_push, drop_more, drop_all}
use Rattle.std.specs.Prelude.{unwrap_or}
use Rattle.vba_base.specs.declared.place.Place.{Place}
use Rattle.vba_values.specs.Types.{Declared}
use Rattle.vba_values.specs.Val.{Val}
use Rattle.vba_values.specs.declared.value.Value.{Value}
use Rattle.vba_values.specs.View.{view as value_view}
use Rattle.vba_expression.specs.Tree.{Expr, Args, missing}
use Rattle.vba_expression.specs.Tree as tree
use Rattle.bound_project.specs.declared.declarations.Parameter.{Parameter}
use Rattle.bound_project.specs.declared.declared_type.DeclaredType.{DeclaredType}
use Rattle.bound_project.specs.declared.node.NodeKind.{NodeKind}
use Rattle.bound_project.specs.declared.node.NodeKind.TheVariants as node
use Rattle.bound_project.specs.View.{declared_view, parameter_view, variable_view}
use Rattle.bound_project.specs.Expressions.{Lvalue, element_along, item, no_exprs}
use Rattle.bound_project.specs.Expressions as bound
use Rattle.bound_project.specs.Lists.{above}
use Rattle.bound_project.proofs.Lists.{above_push}
use Rattle.bound_project.specs.Pieces.{Argument, place_lent, value_copied, default_taken, values_listed, Piece, Tables, an_argument, a_place as a_place_piece, exprs_off, of_place, of_value, put}
use Rattle.bound_project.specs.Project as project
use Rattle.bound_project.specs.Drafts.{Drafted, NodeNamed, with_constant}
use Rattle.bound_project.proofs.Drafts.{constant_last}
use Rattle.bound_declarations.specs.constant_values.specs.declared_names.specs.binder.specs.Types.{is_object}
use Rattle.bound_forms.specs.Terms.{Env, Given, a_place, given_to, taken_by, by_reference, by_copy, is_lent_to, is_copied_to, other_rule, routine_term}
use Rattle.bound_forms.specs.Terms as plain
use Rattle.bound_forms.specs.Operands.{argument_of, given_as, operand_of, taken_for, place_told}
use Rattle.bound_forms.specs.ExpressionsBound.{term_of, givens}
use Rattle.bound_calls.specs.declared.term.Ending.{Ending}
use Rattle.bound_calls.specs.declared.term.Term.{Term}
use Rattle.bound_calls.specs.declared.term.Term.TheVariants as term
use Rattle.bound_calls.specs.declared.term.Tree.{Tree}
use Rattle.bound_calls.specs.declared.term.Passed.{Passed}
use Rattle.bound_calls.specs.Passing.{Taken, AllTaken, NotGiven, AllLeft}
use Rattle.bound_calls.specs.Standing.{PlaceEnds, TermStands, TermNamed, TreeStands, PassedStands, Grown, plain_given}
use Rattle.bound_calls.specs.Steps.{AddsConstant, PushesOperand}
use Rattle.bound_calls.specs.References.{PushesGiven}
use Rattle.bound_calls.specs.Calls.{node_of, lent_in, may_be_item, is_copied, keeps_object, MarksGiven, PushesArgument, PushesTaken, Lends, MarksOther, Copies, TakenIs, PassesTree, PassesNone, PassesRest, PassesPlain, PassesMissing}
use Rattle.bound_calls.proofs.Growing.{grown_same, grown_twice, grown_pieces, grown_constant}
use Rattle.bound_calls.proofs.LastNodes.{any_node, found_passes}
use Rattle.bound_calls.proofs.PlaceNodes.{no_item, place_found_passes}
use Rattle.bound_calls.proofs.Referring.{variant}
use Rattle.bound_calls.proofs.Passing.{taken_push}
use Rattle.bound_declarations.specs.constant_values.specs.declared_names.specs.binder.specs.Declarations.{Written}
use Rattle.bound_declarations.specs.constant_values.specs.declared_names.specs.binder.specs.Scopes.{Space}
use Rattle.bound_declarations.specs.constant_values.specs.declared_names.specs.View.{space_view, written_view}

-- a draft with one more node
abbrev pub behind : NodeKind → Place → DeclaredType → Drafted → Drafted
behind kind place of d = record d { pieces = put d.tables (node_of kind place of) d.pieces }

grown_behind : (kind : NodeKind) (place : Place) (of : DeclaredType) (d : Drafted) → Grown d (behind kind place of d)
grown_behind kind place of d = grown_pieces d (put d.tables (node_of kind place of) d.pieces)

-- ---- one argument

pub lent : (kind : NodeKind) (place : Place) (of : DeclaredType) (d d1 e : Drafted) → d1 ≡ behind kind place of d → e ≡ behind node.ByPlace place of d1 → Lends kind d e
lent kind place of d d1 e a b =
    let m = behind kind place of d in
    let all : e ≡ behind node.ByPlace place of m = b ∙ ap (λ x. behind node.ByPlace place of x) a in
    let P : Drafted → Type 0 = λ x. Lends kind d x in
    subst P (sym all) (record {
      grown = grown_twice d m (behind node.ByPlace place of m) (grown_behind kind place of d) (grown_behind node.ByPlace place of m);
      stands = λ x below h. ap (λ st. of_place (λ y. an_argument (place_lent y)) st) (h (node_of kind place of));
    })

-- the node that marks the last value
abbrev pub marked_by : (rule : ℕ) → Place → NodeKind
marked_by rule place = node.Marked (record { rule = rule; place = place }) 1

pub marked_other : (lent : Ending) (parameter : DeclaredType) (place : Place) (d d1 d2 d3 e : Drafted) → d1 ≡ behind lent.kind place lent.of d → d2 ≡ behind node.Load place lent.of d1
    → d3 ≡ behind (marked_by (other_rule (declared_view parameter)) place) place variant d2 → e ≡ behind (node.ByCopy parameter) place parameter d3 → MarksOther lent parameter place d e
marked_other lent parameter place d d1 d2 d3 e a b c f =
    let mark = marked_by (other_rule (declared_view parameter)) place in
    let m1 = behind lent.kind place lent.of d in
    let m2 = behind node.Load place lent.of m1 in
    let m3 = behind mark place variant m2 in
    let m4 = behind (node.ByCopy parameter) place parameter m3 in
    let is2 : d2 ≡ m2 = b ∙ ap (λ x. behind node.Load place lent.of x) a in
    let is3 : d3 ≡ m3 = c ∙ ap (λ x. behind mark place variant x) is2 in
    let is4 : e ≡ m4 = f ∙ ap (λ x. behind (node.ByCopy parameter) place parameter x) is3 in
    let P : Drafted → Type 0 = λ x. MarksOther lent parameter place d x in
    let after : List Piece → List Piece = λ st.
    put d.tables (node_of (node.ByCopy parameter) place parameter) (put d.tables (node_of mark place variant) (put d.tables (node_of node.Load place lent.of) st)) in
    subst P (sym is4) (record {
      grown = grown_pieces d m4.pieces;
      stands = λ x below h. ap after (h (node_of lent.kind place lent.of));
    })

pub copied : (of : DeclaredType) (x : Tree) (place : Place) (d d1 e : Drafted) → PushesArgument of x d d1 → e ≡ behind (node.ByCopy of) place of d1 → Copies of x d e
copied of x place d d1 e h b =
    let P : Drafted → Type 0 = λ y. Copies of x d y in
    subst P (sym b) (record {
      grown = grown_twice d d1 (behind (node.ByCopy of) place of d1) h.grown (grown_behind (node.ByCopy of) place of d1);
      stands = λ env tree below k.
          let p = h.stands env tree below k in
          record { made = p.made; is = p.is; on_top = ap (λ st. of_value (λ y. an_argument (value_copied y (declared_view of))) st) p.on_top };
    })

-- an expression as a parameter of a type takes it
taken_as : (env : Env) (of : DeclaredType) (t : plain.Term) (place : Place) (b : Bool) → keeps_object of ≡ b → taken_for env (declared_view of) t place ≡ (if b then given_as env t place else operand_of env t place)
taken_as env of t place b h = ap (λ c. if c then given_as env t place else operand_of env t place) h

pub taken_kept : (of : DeclaredType) (x : Tree) (u : DeclaredType) (d e : Drafted) → keeps_object of ≡ true → PushesGiven x d e u → PushesTaken of x d e u
taken_kept of x u d e keeps h = record {
  grown = h.grown;
  stands = λ env tree below k.
      let p = h.stands env tree below k in
      record { made = p.made; is = taken_as env of (term_of env tree) (place_told tree) true keeps ∙ p.is; operand = p.operand; on_top = p.on_top };
}

pub taken_operand : (of : DeclaredType) (x : Tree) (u : DeclaredType) (d e : Drafted) → keeps_object of ≡ false → PushesOperand x d e (Some u) → PushesTaken of x d e u
taken_operand of x u d e keeps h = record {
  grown = h.grown;
  stands = λ env tree below k.
      let p = h.stands env tree below k in
      record { made = p.made; is = taken_as env of (term_of env tree) (place_told tree) false keeps ∙ p.is; operand = p.operand; on_top = p.on_top };
}

-- the same, marked where it breaks a rule
pub argument_marked : (of : DeclaredType) (x : Tree) (u after : DeclaredType) (d m e : Drafted) → PushesTaken of x d m u → MarksGiven (declared_view of) false x.place u m e after → PushesArgument of x d e
argument_marked of x u after d m e h g = record {
  grown = grown_twice d m e h.grown g.grown;
  stands = λ env tree below k.
      let found = taken_for env (declared_view of) (term_of env tree) (place_told tree) in
      let p = g.stands found below (h.stands env tree below k) in
      let A : Place → Type 0 = λ place. option_map (given_to (declared_view of) false place) found ≡ Some p.made in
      record { made = p.made; is = subst A k.place_is p.is; on_top = p.on_top };
}

-- a parameter takes a copy
taken_copy : (value : Declared → plain.Term → Place → Option bound.Expr) (p : project.Parameter) (t : plain.Term) (place : Place) (made : bound.Expr) → p.many ≡ false
    → ((rest : bound.Args) → taken_by value p (record { name = None; term = Some t; place = place }) rest ≡ by_copy value p t place rest) → value p.of t place ≡ Some made
    → Taken value p (record { name = None; term = Some t; place = place }) (value_copied made p.of)
taken_copy value p t place made many how found = record {
  no_name = refl;
  no_list = many;
  makes = λ rest. how rest ∙ ap (λ o. option_map (λ e. bound.by_copy e p.of rest) o) found;
}

copy_taken : (p : Parameter) (x : Tree) (d e : Drafted) → p.is_param_array ≡ false → Copies p.of x d e
    → ((env : Env) (tree : Expr) (below : List Piece) → TreeStands env d.tables x tree d.pieces below → (rest : bound.Args)
    → taken_by (argument_of env) (parameter_view p) (plain_given env tree) rest ≡ by_copy (argument_of env) (parameter_view p) (term_of env tree) (place_told tree) rest)
    → PassesTree p x d e
copy_taken p x d e many h how = record {
  grown = h.grown;
  stands = λ env tree below k.
      let c = h.stands env tree below k in
      record { made = value_copied c.made (declared_view p.of); taken = taken_copy (argument_of env) (parameter_view p) (term_of env tree) (place_told tree) c.made many (how env tree below k) c.is; on_top = c.on_top };
}

pub passed_copy : (p : Parameter) (x : Tree) (d e : Drafted) → p.is_param_array ≡ false → p.is_by_reference ≡ false → Copies p.of x d e → PassesTree p x d e
passed_copy p x d e many reference h =
    copy_taken p x d e many h (λ env tree below k rest.
    ap (λ b. if b then by_reference (argument_of env) (parameter_view p) (term_of env tree) (place_told tree) rest
    else by_copy (argument_of env) (parameter_view p) (term_of env tree) (place_told tree) rest) reference)

-- what isn't lent
abbrev pub no_lent : Term → Type 0
no_lent (term.Place kind of bounds true makes) = ⊥
no_lent x = Unit {0}

-- whether a term is a place that is lent
abbrev pub lends : plain.Term → Bool
lends (a_place at of bounds true makes) = true
lends y = false

routine_lends : (base : Option bound.Expr) (space : Space) (number : ℕ) (w : Written) → lends (routine_term base space number w) ≡ false
routine_lends None space number w = refl
routine_lends (Some b) space number w = refl

pub lends_nothing : (env : Env) (t : Tables) (x : Term) (y : plain.Term) (ps below : List Piece) → no_lent x → TermStands env t x y ps below → lends y ≡ false
lends_nothing env t (term.Place kind of bounds true makes) y ps below n h = absurd n
lends_nothing env t (term.Place kind of bounds false makes) y ps below n h = ap lends h.is
lends_nothing env t (term.Value e) y ps below n h = ap lends h.is
lends_nothing env t (term.Routine r) y ps below n h = ap lends h.routine.is ∙ routine_lends h.routine.base h.routine.space h.routine.number h.routine.written
lends_nothing env t (term.Property p) y ps below n h = ap lends h.property.is ∙ routine_lends h.property.base (space_view p.space.now) h.property.number (written_view p.written)
lends_nothing env t (term.Function f) y ps below n h = ap lends h.0.is
lends_nothing env t (term.HostMember m) y ps below n h = ap lends h.is
lends_nothing env t (term.SheetMember m) y ps below n h = ap lends h.0
lends_nothing env t term.Err y ps below n h = ap lends h.0
lends_nothing env t term.ErrRaise y ps below n h = ap lends h.0
lends_nothing env t term.ErrClear y ps below n h = ap lends h.0
lends_nothing env t term.ErrorWord y ps below n h = ap lends h.0
lends_nothing env t term.Nothing y ps below n h = ap lends h

copied_anyway : (env : Env) (p : project.Parameter) (y : plain.Term) (place : Place) (rest : bound.Args) → lends y ≡ false → by_reference (argument_of env) p y place rest ≡ by_copy (argument_of env) p y place rest
copied_anyway env p (a_place at of bounds true makes) place rest h = let e : true ≡ false = h in absurd cc
copied_anyway env p y place rest h = refl

-- where a parameter takes a place, and none is lent
pub passed_anyway : (p : Parameter) (x : Tree) (d e : Drafted) → p.is_param_array ≡ false → p.is_by_reference ≡ true → no_lent x.term → Copies p.of x d e → PassesTree p x d e
passed_anyway p x d e many reference n h =
    copy_taken p x d e many h (λ env tree below k rest.
    ap (λ b. if b then by_reference (argument_of env) (parameter_view p) (term_of env tree) (place_told tree) rest
    else by_copy (argument_of env) (parameter_view p) (term_of env tree) (place_told tree) rest) reference
    ∙ copied_anyway env (parameter_view p) (term_of env tree) (place_told tree) rest (lends_nothing env d.tables x.term (term_of env tree) d.pieces below n k.term_is))

-- a place is lent
abbrev by_place : Env → project.Parameter → Lvalue → Declared → (bounds : ℕ) → (makes : Bool) → Place → bound.Args → (lent copied : Bool) → Option bound.Args
by_place env p at of bounds makes place rest lent copied =
    if lent then Some (bound.by_place at rest)
    else if copied then by_copy (argument_of env) p (a_place at of bounds true makes) place rest
    else Some (bound.by_copy (plain.of_other_type at of p.of place) p.of rest)

reference_taken : (env : Env) (p : Parameter) (t : plain.Term) (at : Lvalue) (of : Declared) (bounds : ℕ) (makes : Bool) (place : Place) (rest : bound.Args) (lent copied : Bool) → p.is_by_reference ≡ true → t ≡ a_place at of bounds true makes
    → is_lent_to of (declared_view p.of) ≡ lent → is_copied_to at of (declared_view p.of) ≡ copied
    → (if p.is_by_reference then by_reference (argument_of env) (parameter_view p) t place rest else by_copy (argument_of env) (parameter_view p) t place rest) ≡ by_place env (parameter_view p) at of bounds makes place rest lent copied
reference_taken env p t at of bounds makes place rest lent copied reference is fits copies =
    let P = parameter_view p in
    ap (λ b. if b then by_reference (argument_of env) P t place rest else by_copy (argument_of env) P t place rest) reference ∙ ap (λ y. by_reference (argument_of env) P y place rest) is
    ∙ ap (λ b. by_place env P at of bounds makes place rest b (is_copied_to at of (declared_view p.of))) fits ∙ ap (λ b. by_place env P at of bounds makes place rest lent b) copies

passed_place : (p : Parameter) (x : Tree) (kind : NodeKind) (of : DeclaredType) (bounds : ℕ) (makes : Bool) (d e : Drafted) → p.is_param_array ≡ false → p.is_by_reference ≡ true → x.term ≡ term.Place kind of bounds true makes
    → is_lent_to (declared_view of) (declared_view p.of) ≡ true → Lends kind d e → PassesTree p x d e
passed_place p x kind of bounds makes d e many reference is fits h = record {
  grown = h.grown;
  stands = λ env tree below k.
      let A : Term → Type 0 = λ y. TermStands env d.tables y (term_of env tree) d.pieces below in
      let s = subst A is k.term_is in
      record {
        made = place_lent s.at;
        taken = record {
          no_name = refl;
          no_list = many;
          makes = λ rest. reference_taken env p (term_of env tree) s.at (declared_view of) bounds makes (place_told tree) rest true (is_copied_to s.at (declared_view of) (declared_view p.of)) reference s.is fits refl;
        };
        on_top = h.stands s.at below s.ends;
      };
}

-- an element of a Variant variable, or one to which arguments lead
item_on_top : List Piece → Bool
item_on_top (a_place_piece x ∷ st) = plain.may_be_item x
item_on_top st = true

may_be : (t : Tables) (kind : NodeKind) (at : Lvalue) (ps below : List Piece) → may_be_item kind ≡ true → PlaceEnds t kind at ps below → plain.may_be_item at ≡ true
unfolding item_on_top
may_be t (node.Item x count) at ps below h ends =
    sym (ap item_on_top (ends any_node)) ∙ found_passes item_on_top refl (λ es. a_place_piece (item (variable_view x) es)) (λ es rest. h) (exprs_off count ps no_exprs)
may_be t (node.ElementAlong count) at ps below h ends =
    sym (ap item_on_top (ends any_node)) ∙ place_found_passes item_on_top refl (λ x es. a_place_piece (element_along x es)) (λ x es rest. refl) (exprs_off count ps no_exprs)
may_be t kind at ps below h ends = let e : false ≡ true = h in absurd cc

either_holds : (a b c : Bool) → (b ≡ true → c ≡ true) → (a || b) ≡ true → (a || c) ≡ true
either_holds true b c f h = refl
either_holds false b c f h = f h

copied_to : (t : Tables) (kind : NodeKind) (of parameter : DeclaredType) (at : Lvalue) (ps below : List Piece) → is_copied kind of parameter ≡ true → PlaceEnds t kind at ps below
    → is_copied_to at (declared_view of) (declared_view parameter) ≡ true
copied_to t kind of parameter at ps below h ends =
    either_holds (is_object (declared_view of) && is_object (declared_view parameter)) (may_be_item kind) (plain.may_be_item at) (λ k. may_be t kind at ps below k ends) h

placed_copy : (p : Parameter) (x : Tree) (kind : NodeKind) (of : DeclaredType) (bounds : ℕ) (makes : Bool) (d e : Drafted) → p.is_param_array ≡ false → p.is_by_reference ≡ true → x.term ≡ term.Place kind of bounds true makes
    → is_lent_to (declared_view of) (declared_view p.of) ≡ false → is_copied kind of p.of ≡ true → Copies p.of x d e → PassesTree p x d e
placed_copy p x kind of bounds makes d e many reference is fits copies h =
    copy_taken p x d e many h (λ env tree below k rest.
    let A : Term → Type 0 = λ y. TermStands env d.tables y (term_of env tree) d.pieces below in
    let s = subst A is k.term_is in
    let place = place_told tree in
    reference_taken env p (term_of env tree) s.at (declared_view of) bounds makes place rest false true reference s.is fits (copied_to d.tables kind of p.of s.at d.pieces below copies s.ends)
    ∙ ap (λ y. by_copy (argument_of env) (parameter_view p) y place rest) (sym s.is))

neither_holds : (a b c : Bool) → (b ≡ false → not c ≡ true) → (a || b) ≡ false → (a || c) ≡ false
neither_holds true b c f h = h
neither_holds false b true f h = let e : false ≡ true = f h in absurd cc
neither_holds false b false f h = refl

not_copied_to : (t : Tables) (kind : NodeKind) (of parameter : DeclaredType) (at : Lvalue) (ps below : List Piece) → is_copied kind of parameter ≡ false → PlaceEnds t kind at ps below
    → is_copied_to at (declared_view of) (declared_view parameter) ≡ false
not_copied_to t kind of parameter at ps below h ends =
    neither_holds (is_object (declared_view of) && is_object (declared_view parameter)) (may_be_item kind) (plain.may_be_item at) (λ k. no_item t kind at ps below k ends) h

placed_other : (p : Parameter) (x : Tree) (lent : Ending) (bounds : ℕ) (makes : Bool) (d e : Drafted) → p.is_param_array ≡ false → p.is_by_reference ≡ true → x.term ≡ term.Place lent.kind lent.of bounds true makes
    → is_lent_to (declared_view lent.of) (declared_view p.of) ≡ false → is_copied lent.kind lent.of p.of ≡ false → MarksOther lent p.of x.place d e → PassesTree p x d e
placed_other p x lent bounds makes d e many reference is fits copies h = record {
  grown = h.grown;
  stands = λ env tree below k.
      let A : Term → Type 0 = λ y. TermStands env d.tables y (term_of env tree) d.pieces below in
      let s = subst A is k.term_is in
      let marked = plain.of_other_type s.at (declared_view lent.of) (declared_view p.of) (place_told tree) in
      record {
        made = value_copied marked (declared_view p.of);
        taken = record {
          no_name = refl;
          no_list = many;
          makes = λ rest. reference_taken env p (term_of env tree) s.at (declared_view lent.of) bounds makes (place_told tree) rest false false reference s.is fits (not_copied_to d.tables lent.kind lent.of p.of s.at d.pieces below copies s.ends);
        };
        on_top = h.stands s.at below s.ends
            ∙ ap (λ place. an_argument (value_copied (plain.of_other_type s.at (declared_view lent.of) (declared_view p.of) place) (declared_view p.of)) ∷ below) k.place_is;
      };
}

some_of : (x y : Ending) → Some x ≡ Some y → x ≡ y
some_of x y h = ap (λ o. unwrap_or o x) h

none_of : (x : Ending) → None ≡ Some x → ⊥
none_of x h = subst T (ap (λ (o : Option Ending). is_some o) (sym h)) tt

pub lent_is : (x : Term) (lent : Ending) → lent_in x ≡ Some lent → (bounds : ℕ) × ((makes : Bool) × (x ≡ term.Place lent.kind lent.of bounds true makes))
lent_is (term.Place kind of bounds true makes) lent h = (bounds, (makes, ap (λ (o : Ending). term.Place o.kind o.of bounds true makes) (some_of (record { kind = kind; of = of }) lent h)))
lent_is x lent h = absurd (none_of lent h)

pub lent_named : (t : Tables) (x : Term) (lent : Ending) → lent_in x ≡ Some lent → TermNamed t x → NodeNamed t lent.kind
lent_named t x lent h k = let A : Term → Type 0 = λ y. TermNamed t y in subst A (lent_is x lent h).1.1 k

pub passed_lent : (p : Parameter) (x : Tree) (lent : Ending) (d e : Drafted) → p.is_param_array ≡ false → p.is_by_reference ≡ true → lent_in x.term ≡ Some lent → is_lent_to (declared_view lent.of) (declared_view p.of) ≡ true
    → Lends lent.kind d e → PassesTree p x d e
passed_lent p x lent d e many reference is fits h = let at = lent_is x.term lent is in passed_place p x lent.kind lent.of at.0 at.1.0 d e many reference at.1.1 fits h

pub passed_copied : (p : Parameter) (x : Tree) (lent : Ending) (d e : Drafted) → p.is_param_array ≡ false → p.is_by_reference ≡ true → lent_in x.term ≡ Some lent → is_lent_to (declared_view lent.of) (declared_view p.of) ≡ false
    → is_copied lent.kind lent.of p.of ≡ true → Copies p.of x d e → PassesTree p x d e
passed_copied p x lent d e many reference is fits copies h = let at = lent_is x.term lent is in placed_copy p x lent.kind lent.of at.0 at.1.0 d e many reference at.1.1 fits copies h

pub passed_other : (p : Parameter) (x : Tree) (lent : Ending) (d e : Drafted) → p.is_param_array ≡ false → p.is_by_reference ≡ true → lent_in x.term ≡ Some lent → is_lent_to (declared_view lent.of) (declared_view p.of) ≡ false
    → is_copied lent.kind lent.of p.of ≡ false → MarksOther lent p.of x.place d e → PassesTree p x d e
passed_other p x lent d e many reference is fits copies h = let at = lent_is x.term lent is in placed_other p x lent at.0 at.1.0 d e many reference at.1.1 fits copies h

pub nothing_lent : (x : Term) → lent_in x ≡ None → no_lent x
nothing_lent (term.Place kind of bounds true makes) h = none_of (record { kind = kind; of = of }) (sym h)
nothing_lent (term.Place kind of bounds false makes) h = tt
nothing_lent (term.Value e) h = tt
nothing_lent (term.Routine r) h = tt
nothing_lent (term.Property p) h = tt
nothing_lent (term.Function f) h = tt
nothing_lent (term.HostMember m) h = tt
nothing_lent (term.SheetMember m) h = tt
nothing_lent term.Err h = tt
nothing_lent term.ErrRaise h = tt
nothing_lent term.ErrClear h = tt
nothing_lent term.ErrorWord h = tt
nothing_lent term.Nothing h = tt

-- ---- parameters to which nothing is given

pub passes_list : (p : Parameter) (place : Place) (d e : Drafted) → p.is_param_array ≡ true → e ≡ behind (node.ByList 0) place p.of d → PassesNone p d e
passes_list p place d e many b =
    let P : Drafted → Type 0 = λ x. PassesNone p d x in
    subst P (sym b) (record {
      grown = grown_behind (node.ByList 0) place p.of d;
      made = values_listed no_exprs;
      left = λ rest. ap (λ b. if b then Some (bound.by_list no_exprs rest) else option_map (λ v. bound.by_default v rest) (parameter_view p).default) many;
      on_top = refl;
    })

pub passes_default : (p : Parameter) (value : Value) (v : Val) (number : ℕ) (place : Place) (d d1 e : Drafted) → p.is_param_array ≡ false → p.default ≡ Some value → v ≡ value_view value → AddsConstant v d d1 number
    → e ≡ behind (node.ByDefault number) place p.of d1 → PassesNone p d e
passes_default p value v number place d d1 e many given same h b =
    let m : Drafted = record d { tables = with_constant d.tables v } in
    let all : e ≡ behind (node.ByDefault number) place p.of m = b ∙ ap (λ x. behind (node.ByDefault number) place p.of x) h.draft_is in
    let P : Drafted → Type 0 = λ x. PassesNone p d x in
    let default : (parameter_view p).default ≡ Some v = ap (λ o. option_map value_view o) given ∙ ap (λ w. Some w) (sym same) in
    subst P (sym all) (record {
      grown = grown_twice d m (behind (node.ByDefault number) place p.of m) (grown_constant d v) (grown_behind (node.ByDefault number) place p.of m);
      made = default_taken v;
      left = λ rest.
          ap (λ b. if b then Some (bound.by_list no_exprs rest) else option_map (λ w. bound.by_default w rest) (parameter_view p).default) many
          ∙ ap (λ o. option_map (λ w. bound.by_default w rest) o) default;
      on_top = ap (λ w. an_argument (default_taken w) ∷ d.pieces) (constant_last d.tables v number h.number_is);
    })

left_push : (ps : List project.Parameter) (xs : List Argument) (p : project.Parameter) (x : Argument) → AllLeft ps xs → NotGiven p x → AllLeft (ps ++ p ∷ []) (xs ++ x ∷ [])
left_push [] [] p x h k = (k, tt)
left_push [] (y ∷ xs) p x h k = absurd h
left_push (q ∷ ps) [] p x h k = absurd h
left_push (q ∷ ps) (y ∷ xs) p x h k = (h.0, left_push ps xs p x h.1 k)

above_more : (xs : List Argument) (x : Argument) (st : List Piece) → above (map an_argument (xs ++ x ∷ [])) st ≡ an_argument x ∷ above (map an_argument xs) st
above_more xs x st = ap (λ l. above l st) (map_push an_argument xs x) ∙ above_push (map an_argument xs) (an_argument x) st

-- some parameters have what they have, and others are left
pub record Resting (all : List Parameter) (d e : Drafted) (left : List Parameter) : Type 0 where
  pub done : List Parameter
  pub rest_is : done ++ left ≡ all
  pub passes : PassesRest done d e

pub resting_starts : (all : List Parameter) (d : Drafted) → Resting all d d all
resting_starts all d = record { done = []; rest_is = refl; passes = record { grown = grown_same d; made = []; left = tt; on_top = refl } }

resting_on : (all : List Parameter) (d e f : Drafted) (p : Parameter) (left : List Parameter) → Resting all d e (p ∷ left) → PassesNone p e f → Resting all d f left
resting_on all d e f p left r h =
    let q = r.passes in
    let A : List project.Parameter → Type 0 = λ l. AllLeft l (q.made ++ h.made ∷ []) in
    record {
      done = r.done ++ p ∷ [];
      rest_is = append_assoc r.done (p ∷ []) left ∙ r.rest_is;
      passes = record {
        grown = grown_twice d e f q.grown h.grown;
        made = q.made ++ h.made ∷ [];
        left = subst A (sym (map_push parameter_view r.done p)) (left_push (map parameter_view r.done) q.made (parameter_view p) h.made q.left h.left);
        on_top = h.on_top ∙ ap (λ st. an_argument h.made ∷ st) q.on_top ∙ sym (above_more q.made h.made d.pieces);
      };
    }

pub resting_next : (all : List Parameter) (d e f : Drafted) (i : ℕ) (p : Parameter) → i < length all → p ≡ get_or all i p → Resting all d e (drop i all) → PassesNone p e f → Resting all d f (drop (i + 1) all)
resting_next all d e f i p lt is r h =
    let left : drop i all ≡ p ∷ drop (i + 1) all = drop_more all i p lt ∙ ap (λ m. m ∷ drop (i + 1) all) (sym is) in
    let A : List Parameter → Type 0 = λ l. Resting all d e l in
    resting_on all d e f p (drop (i + 1) all) (subst A left r) h

pub resting_done : (all : List Parameter) (d e : Drafted) (i : ℕ) → length all ≤ i → Resting all d e (drop i all) → PassesRest all d e
resting_done all d e i le r =
    let A : List Parameter → Type 0 = λ l. r.done ++ l ≡ all in
    let is : r.done ≡ all = sym (append-nil r.done) ∙ subst A (drop_all i all le) r.rest_is in
    let B : List Parameter → Type 0 = λ l. PassesRest l d e in
    subst B is r.passes

-- ---- one more argument

passed_more : (env : Env) (parameters : List project.Parameter) (x z : Passed) (args more : Args) (p : Parameter) (left : List Parameter) (g : Given) (ps between below : List Piece) → x.left.now ≡ p ∷ left → z.left.now ≡ left
    → z.count ≡ x.count + 1 → givens env more ≡ givens env args ++ g ∷ [] → PassedStands env parameters x args between below → TakenIs env (parameter_view p) g ps between → PassedStands env parameters z more ps below
passed_more env parameters x z args more p left g ps between below a b c given h t =
    let A : List Parameter → Type 0 = λ l. AllTaken (argument_of env) parameters (givens env args) h.made (map parameter_view l) in
    let taken = taken_push (argument_of env) parameters (givens env args) h.made (parameter_view p) (map parameter_view left) g t.made (subst A a h.taken) t.taken in
    let B : List Given → Type 0 = λ l. AllTaken (argument_of env) parameters l (h.made ++ t.made ∷ []) (map parameter_view left) in
    let C : List Parameter → Type 0 = λ l. AllTaken (argument_of env) parameters (givens env more) (h.made ++ t.made ∷ []) (map parameter_view l) in
    record {
      made = h.made ++ t.made ∷ [];
      taken = subst C (sym b) (subst B (sym given) taken);
      count_is = omega (arith, c, h.count_is, length-append h.made (t.made ∷ []));
      on_top = t.on_top ∙ ap (λ st. an_argument t.made ∷ st) h.on_top ∙ sym (above_more h.made t.made below);
    }

pub passes_plain : (x z : Passed) (y : Tree) (p : Parameter) (left : List Parameter) (d e : Drafted) → x.left.now ≡ p ∷ left → z.left.now ≡ left → z.count ≡ x.count + 1 → PassesTree p y d e → PassesPlain x y d e z
passes_plain x z y p left d e a b c h = record {
  grown = h.grown;
  stands = λ env parameters args comma e' between below k s.
      passed_more env parameters x z args (tree.plain args comma e') p left (plain_given env e') e.pieces between below a b c refl s (h.stands env e' between k);
}

pub passes_missing : (x z : Passed) (p : Parameter) (left : List Parameter) (d e : Drafted) → x.left.now ≡ p ∷ left → z.left.now ≡ left → z.count ≡ x.count + 1 → p.is_param_array ≡ false → PassesNone p d e
    → PassesMissing x d e z
passes_missing x z p left d e a b c many h = record {
  grown = h.grown;
  stands = λ env parameters args comma below s.
      passed_more env parameters x z args (missing args comma) p left (record { name = None; term = None; place = project.nowhere }) e.pieces d.pieces below a b c refl s
      (record { made = h.made; taken = record { no_name = refl; no_list = many; makes = h.left }; on_top = h.on_top });
}

-- ---- numbers

pub default_named : (v : Val) (number : ℕ) (d e : Drafted) → AddsConstant v d e number → number < length e.tables.constants
default_named v number d e h =
    let A : Drafted → Type 0 = λ x. number < length x.tables.constants in subst A (sym h.draft_is) (omega (arith, h.number_is, length-append d.tables.constants (v ∷ [])))

pub left_long : (ps : List project.Parameter) (xs : List Argument) → AllLeft ps xs → length xs ≡ length ps
left_long [] [] h = refl
left_long [] (x ∷ xs) h = absurd h
left_long (p ∷ ps) [] h = absurd h
left_long (p ∷ ps) (x ∷ xs) h = omega (arith, left_long ps xs h.1)
