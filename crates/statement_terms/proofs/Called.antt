-- Calls that stand as statements.
use Rattle.std.proofs.Common.{◌≡◌, T, ℕ, ◌+◌, ◌==◌, ◌&&◌, not, Bool, true, false, List, [], ◌∷◌, ◌++◌, map, length, Option, Some, None, option_map, is_some, if◌then◌else◌, refl, sym, ap, subst, ◌∙◌, arith, length-append}
use Rattle.std.proofs.lemmas.List.{map-append}
use Rattle.vba_base.specs.declared.place.Place.{Place}
use Rattle.vba_values.specs.Types.{Declared}
use Rattle.vba_expression.specs.Tree.{Expr, index}
use Rattle.vba_expression.specs.Nodes as nodes
use Rattle.vba_expression.specs.Nodes.{behind_nodes, last_tree, tree_in, arguments_in}
use Rattle.vba_expression.specs.declared.node.ExpressionNode.{ExpressionNode}
use Rattle.vba_expression.specs.declared.node.ExpressionNode.TheVariants as node
use Rattle.bound_project.specs.declared.declarations.Parameter.{Parameter}
use Rattle.bound_project.specs.declared.statement.ActionKind.{ActionKind}
use Rattle.bound_project.specs.declared.statement.ActionKind.TheVariants as action
use Rattle.bound_project.specs.Expressions.{no_exprs}
use Rattle.bound_project.specs.Expressions as bound
use Rattle.bound_project.specs.Statements.{evaluate}
use Rattle.bound_project.specs.Statements as to
use Rattle.bound_project.specs.Bodies.{action_of, whole}
use Rattle.bound_project.specs.View.{declared_view, parameter_view}
use Rattle.bound_members.specs.bound_calls.specs.bound_declarations.specs.constant_values.specs.declared_names.specs.View.{space_view, written_view}
use Rattle.bound_project.specs.Lists.{above, args_of}
use Rattle.bound_project.proofs.Lists.{args_are}
use Rattle.bound_project.specs.Pieces.{Argument, Piece, Tables, an_argument, put}
use Rattle.bound_project.specs.Project as project
use Rattle.bound_project.specs.Drafts.{Drafted}
use Rattle.bound_members.specs.bound_calls.specs.bound_declarations.specs.constant_values.specs.declared_names.specs.binder.specs.Declarations.{Written}
use Rattle.bound_members.specs.bound_calls.specs.bound_declarations.specs.constant_values.specs.declared_names.specs.binder.specs.Scopes.{Space}
use Rattle.bound_members.specs.bound_calls.specs.bound_declarations.specs.constant_values.specs.declared_names.specs.binder.specs.Options.{or_else}
use Rattle.bound_members.specs.bound_calls.specs.bound_forms.specs.Terms.{Env, Given, broken_rule, routine_term, err_raise, err_clear, error_word, no_term, bound_arguments, has_names}
use Rattle.bound_members.specs.bound_calls.specs.bound_forms.specs.Terms as plain
use Rattle.bound_members.specs.bound_calls.specs.bound_forms.specs.Operands.{argument_of, given_as}
use Rattle.bound_members.specs.bound_calls.specs.bound_forms.specs.ExpressionsBound.{givens, indexed}
use Rattle.bound_members.specs.bound_calls.specs.bound_forms.specs.Targets.{untaken}
use Rattle.bound_members.specs.bound_calls.specs.bound_forms.specs.StatementsBound.{called_place, called_term, called_with, is_one, raise_parameters, raised}
use Rattle.statement_terms.specs.declared.trees.Split.{Split}
use Rattle.bound_members.specs.bound_calls.specs.declared.term.Ending.{Ending}
use Rattle.bound_members.specs.bound_calls.specs.declared.term.Term.{Term}
use Rattle.bound_members.specs.bound_calls.specs.declared.term.Term.TheVariants as term
use Rattle.bound_members.specs.bound_calls.specs.declared.term.Tree.{Tree}
use Rattle.bound_members.specs.bound_calls.specs.declared.term.Passed.{Passed}
use Rattle.bound_members.specs.bound_calls.specs.Passing.{AllTaken}
use Rattle.bound_members.specs.bound_calls.specs.Standing.{TermStands, TreeStands}
use Rattle.bound_members.specs.bound_calls.specs.Steps.{Leaves}
use Rattle.bound_members.specs.bound_calls.specs.References.{TakesGiven}
use Rattle.bound_members.specs.bound_calls.specs.Taking.{broken_ending}
use Rattle.bound_project.specs.declared.declared_type.DeclaredType.TheVariants.{Plain}
use Rattle.bound_project.specs.declared.declared_type.ElementType.TheVariants.{Variant}
use Rattle.statement_terms.specs.Assigning.{GivenPushed}
use Rattle.statement_nodes.specs.Pushed.{ActionStands}
use Rattle.bound_members.specs.bound_calls.specs.Calls.{PassesRest, node_of}
use Rattle.statement_terms.specs.Called.{IsBare, LeavesAlone, SplitAt, args_on, Framed, Reads, RestPushed, AllPassed, PassesAll, Acts, ActsOn, CallsTree, CallsTreeOn}
use Rattle.bound_members.specs.bound_calls.proofs.Growing.{grown_same, grown_pieces, grown_twice}
use Rattle.bound_members.specs.bound_calls.proofs.Arguing.{left_long}
use Rattle.bound_members.specs.bound_calls.proofs.CallSteps.{above_both, parameters_long}
use Rattle.statement_terms.proofs.Calling.{called_same}
use Rattle.statement_terms.proofs.NodeTrees.{behind_both}
use Rattle.bound_members.specs.bound_calls.proofs.Passing.{arguments_bound, nameless}

-- ---- arguments

taken_long : (value : Declared → plain.Term → Place → Option bound.Expr) (ps : List project.Parameter) (gs : List Given) (xs : List Argument) (left : List project.Parameter) → AllTaken value ps gs xs left → length xs ≡ length gs
taken_long value ps [] [] left t = refl
taken_long value ps [] (x ∷ xs) left t = absurd t
taken_long value [] (g ∷ gs) xs left t = absurd t
taken_long value (p ∷ ps) (g ∷ gs) [] left t = absurd t
taken_long value (p ∷ ps) (g ∷ gs) (x ∷ xs) left t = omega (arith, taken_long value ps gs xs left t.1)

pub passes_all : (env : Env) (parameters : List Parameter) (x : Passed) (ns : List ExpressionNode) (d d1 e : Drafted) (left all : ℕ) → Reads env (map parameter_view parameters) ns d d1 x → PassesRest x.left.now d1 e → left ≡ length x.left.now
    → all ≡ x.count + left → PassesAll env (map parameter_view parameters) ns d e x.count all
passes_all env parameters x ns d d1 e left all r h a b = record {
  grown = grown_twice d d1 e r.grown h.grown;
  framed = r.framed;
  stands = λ items.
      let s = r.stands items in
      let gs = givens env (args_on items ns) in
      let lefts = map parameter_view x.left.now in
      record {
        made = s.made ++ h.made;
        bound = arguments_bound (argument_of env) (map parameter_view parameters) gs s.made lefts h.made s.taken h.left;
        all_is = omega (arith, a, b, s.count_is, left_long lefts h.made h.left, parameters_long x.left.now, length-append s.made h.made);
        written_is = s.count_is ∙ taken_long (argument_of env) (map parameter_view parameters) gs s.made lefts s.taken;
        no_names = nameless (argument_of env) (map parameter_view parameters) gs s.made lefts s.taken;
        on_top = h.on_top ∙ ap (λ st. above (map an_argument h.made) st) s.on_top ∙ sym (above_both (map an_argument s.made) (map an_argument h.made) d.pieces)
            ∙ ap (λ l. above l d.pieces) (sym (map-append an_argument s.made h.made));
      };
}

pub all_passed : (env : Env) (parameters : List Parameter) (x : Passed) (ns : List ExpressionNode) (d d1 e : Drafted) (written all : ℕ) → Reads env (map parameter_view parameters) ns d d1 x → RestPushed x d1 e written all
    → PassesAll env (map parameter_view parameters) ns d e written all
all_passed env parameters x ns d d1 e written all r h =
    let A : ℕ → Type 0 = λ n. PassesAll env (map parameter_view parameters) ns d e n all in
    subst A (sym h.written_is) (passes_all env parameters x ns d d1 e (length x.left.now) all r h.rest refl h.all_is)

-- ---- what is done

-- Err.Raise, where nothing stands below its arguments
raise_fits : (env : Env) (parameters : List project.Parameter) (gs : List Given) (written all : ℕ) (t : Tables) (ps below : List Piece) → below ≡ [] → (h : AllPassed env parameters gs written all ps below)
    → action_of t (action.Raise all) ps ≡ Some (to.raise (args_of h.made))
raise_fits env parameters gs written all t ps below none h =
    let top : ps ≡ above (map an_argument h.made) [] = h.on_top ∙ ap (λ st. above (map an_argument h.made) st) none in
    ap (λ st. action_of t (action.Raise all) st) top ∙ ap (λ n. action_of t (action.Raise n) (above (map an_argument h.made) [])) h.all_is
    ∙ ap (λ o. whole o (λ args. to.raise args)) (args_are h.made [])

-- what raises an error with these arguments
raises : (env : Env) (x : Term) (z : plain.Term) (place : Place) (ns : List ExpressionNode) (d e : Drafted) (written all : ℕ) → PassesAll env raise_parameters ns d e written all
    → ((y : plain.Term) → TermStands env d.tables x y d.pieces [] → (y ≡ z) × (d.pieces ≡ []))
    → ((items : List nodes.Item) (args : bound.Args) → bound_arguments (argument_of env) raise_parameters (givens env (args_on items ns)) ≡ Some args → called_term env place z (givens env (args_on items ns)) ≡ Some (to.raise args))
    → ActsOn env x place ns d e (action.Raise all)
raises env x z place ns d e written all p there called = record {
  framed = p.framed;
  acts = λ items.
      let gs = givens env (args_on items ns) in
      let s = p.stands items in
      record {
        grown = p.grown;
        named = tt;
        stands = λ y h.
            let k = there y h in
            record {
              made = to.raise (args_of s.made);
              is = ap (λ t. called_term env place t gs) k.0 ∙ called items (args_of s.made) s.bound;
              fits = raise_fits env raise_parameters gs written all e.tables e.pieces d.pieces k.1 s;
            };
      };
}

pub raised_with : (env : Env) (place : Place) (gs : List Given) (args : bound.Args) → bound_arguments (argument_of env) raise_parameters gs ≡ Some args → raised env place gs ≡ Some (to.raise args)
raised_with env place gs args h =
    let other = option_map (λ es. to.evaluate (broken_rule 25 place es)) (untaken env raise_parameters gs) in
    ap (λ o. or_else (option_map to.raise o) other) h

pub acts_raise : (env : Env) (place : Place) (ns : List ExpressionNode) (d e : Drafted) (written all : ℕ) → PassesAll env raise_parameters ns d e written all → ActsOn env term.ErrRaise place ns d e (action.Raise all)
acts_raise env place ns d e written all p = raises env term.ErrRaise err_raise place ns d e written all p (λ y h. h) (λ items args h. raised_with env place (givens env (args_on items ns)) args h)

one_given : (gs : List Given) → 1 ≡ length gs → has_names gs ≡ false → is_one gs ≡ true
one_given gs a b = ap (λ (n : ℕ). n == 1 && not (has_names gs)) (sym a) ∙ ap (λ c. not c) b

pub acts_number : (env : Env) (place : Place) (ns : List ExpressionNode) (d e : Drafted) (written all : ℕ) → written ≡ 1 → PassesAll env raise_parameters ns d e written all → ActsOn env term.ErrorWord place ns d e (action.Raise all)
acts_number env place ns d e written all one p =
    raises env term.ErrorWord error_word place ns d e written all p (λ y h. h) (λ items args h.
    let gs = givens env (args_on items ns) in
    let s = p.stands items in
    ap (λ (b : Bool). if b then raised env place gs else None) (one_given gs (sym one ∙ s.written_is) s.no_names) ∙ raised_with env place gs args h)

pub acts_clear : (env : Env) (x : Term) (place : Place) (d : Drafted) → x ≡ term.ErrClear → Acts env x place [] d d action.ClearErr
acts_clear env x place d is =
    let P : Term → Type 0 = λ z. Acts env z place [] d d action.ClearErr in
    subst P (sym is) (record {
      grown = grown_same d;
      named = tt;
      stands = λ y h.
          record { made = to.clear_err; is = ap (λ z. called_term env place z []) h.0; fits = ap (λ ps. action_of d.tables action.ClearErr ps) h.1 };
    })

-- Err.Raise without arguments needs one
pub acts_lacking : (env : Env) (x : Term) (place : Place) (d e : Drafted) → x ≡ term.ErrRaise → e ≡ record d { pieces = put d.tables (node_of (broken_ending 25 place (Plain Variant) 0).kind place (broken_ending 25 place (Plain Variant) 0).of) d.pieces }
    → Acts env x place [] d e action.Evaluate
acts_lacking env x place d e is eq =
    let n = node_of (broken_ending 25 place (Plain Variant) 0).kind place (broken_ending 25 place (Plain Variant) 0).of in
    let P : Term → Type 0 = λ z. Acts env z place [] d e action.Evaluate in
    let Q : Drafted → Type 0 = λ z. Acts env term.ErrRaise place [] d z action.Evaluate in
    subst P (sym is) (subst Q (sym eq) (record {
      grown = grown_pieces d (put d.tables n d.pieces);
      named = tt;
      stands = λ y h.
          record { made = evaluate (broken_rule 25 place no_exprs); is = ap (λ z. called_term env place z []) h.0; fits = ap (λ ps. action_of d.tables action.Evaluate (put d.tables n ps)) h.1 };
    }))

-- a procedure is called by a statement, of an object or of none
routine_by : (env : Env) (place : Place) (base : Option bound.Expr) (space : Space) (number : ℕ) (w : Written) (gs : List Given)
    → called_term env place (routine_term base space number w) gs ≡ option_map evaluate (given_as env (indexed env place (routine_term base space number w) gs) place)
routine_by env place None space number w gs = refl
routine_by env place (Some b) space number w gs = refl

pub routine_called : (env : Env) (place : Place) (y : plain.Term) (base : Option bound.Expr) (space : Space) (number : ℕ) (w : Written) (gs : List Given) (made : bound.Expr) → y ≡ routine_term base space number w
    → given_as env (indexed env place y gs) place ≡ Some made → called_term env place y gs ≡ Some (evaluate made)
routine_called env place y base space number w gs made is h =
    let A : plain.Term → Type 0 = λ z. given_as env (indexed env place z gs) place ≡ Some made in
    let B : plain.Term → Type 0 = λ z. called_term env place z gs ≡ Some (evaluate made) in
    subst B (sym is) (routine_by env place base space number w gs ∙ ap (λ o. option_map evaluate o) (subst A is h))

-- ---- values and objects as statements

pub none_there : (e : bound.Expr) → None ≡ Some e → ⊥
none_there e h = subst T (ap (λ (o : Option bound.Expr). is_some o) (sym h)) tt

routine_evaluated : (env : Env) (place : Place) (base : Option bound.Expr) (s : Space) (n : ℕ) (w : Written) (made : bound.Expr) → given_as env (routine_term base s n w) place ≡ Some made
    → called_term env place (routine_term base s n w) [] ≡ Some (evaluate made)
routine_evaluated env place base s n w made h = routine_by env place base s n w [] ∙ ap (λ o. option_map evaluate o) (sym (called_same env place base s n w) ∙ h)

given_none : (env : Env) (place : Place) (z t : plain.Term) (made : bound.Expr) → z ≡ t → given_as env t place ≡ None → given_as env z place ≡ Some made → ⊥
given_none env place z t made is none h = none_there made (sym none ∙ sym (ap (λ y. given_as env y place) is) ∙ h)

called_given : (env : Env) (t : Tables) (x : Term) (z : plain.Term) (ps below : List Piece) (place : Place) (made : bound.Expr) → TermStands env t x z ps below → given_as env z place ≡ Some made
    → called_term env place z [] ≡ Some (evaluate made)
called_given env t (term.Place kind of bounds lends makes) z ps below place made h k =
    let A : plain.Term → Type 0 = λ y. called_term env place y [] ≡ option_map evaluate (given_as env y place) in subst A (sym h.is) refl ∙ ap (λ o. option_map evaluate o) k
called_given env t (term.Value e) z ps below place made h k =
    let A : plain.Term → Type 0 = λ y. called_term env place y [] ≡ option_map evaluate (given_as env y place) in subst A (sym h.is) refl ∙ ap (λ o. option_map evaluate o) k
called_given env t (term.Routine r) z ps below place made h k =
    let A : plain.Term → Type 0 = λ y. given_as env y place ≡ Some made in
    let B : plain.Term → Type 0 = λ y. called_term env place y [] ≡ Some (evaluate made) in
    let s = h.routine in
    subst B (sym s.is) (routine_evaluated env place s.base s.space s.number s.written made (subst A s.is k))
called_given env t (term.Property p) z ps below place made h k =
    let A : plain.Term → Type 0 = λ y. given_as env y place ≡ Some made in
    let B : plain.Term → Type 0 = λ y. called_term env place y [] ≡ Some (evaluate made) in
    let s = h.property in
    subst B (sym s.is) (routine_evaluated env place s.base (space_view p.space.now) s.number (written_view p.written) made (subst A s.is k))
called_given env t (term.Function f) z ps below place made h k =
    let A : plain.Term → Type 0 = λ y. called_term env place y [] ≡ option_map evaluate (given_as env y place) in subst A (sym h.0.is) refl ∙ ap (λ o. option_map evaluate o) k
called_given env t (term.HostMember m) z ps below place made h k =
    let A : plain.Term → Type 0 = λ y. called_term env place y [] ≡ option_map evaluate (given_as env y place) in subst A (sym h.is) refl ∙ ap (λ o. option_map evaluate o) k
called_given env t (term.SheetMember m) z ps below place made h k =
    let A : plain.Term → Type 0 = λ y. called_term env place y [] ≡ option_map evaluate (given_as env y place) in subst A (sym h.0) refl ∙ ap (λ o. option_map evaluate o) k
called_given env t term.Err z ps below place made h k =
    let A : plain.Term → Type 0 = λ y. called_term env place y [] ≡ option_map evaluate (given_as env y place) in subst A (sym h.0) refl ∙ ap (λ o. option_map evaluate o) k
called_given env t term.Nothing z ps below place made h k = absurd (given_none env place z no_term made h refl k)
called_given env t term.ErrRaise z ps below place made h k = absurd (given_none env place z err_raise made h.0 refl k)
called_given env t term.ErrClear z ps below place made h k = absurd (given_none env place z err_clear made h.0 refl k)
called_given env t term.ErrorWord z ps below place made h k = absurd (given_none env place z error_word made h.0 refl k)

pub given_pushed : (x : Term) (place : Place) (d d1 e : Drafted) (ending : Ending) → TakesGiven x place d d1 ending → e ≡ record d1 { pieces = put d1.tables (node_of ending.kind place ending.of) d1.pieces } → GivenPushed x place d e
given_pushed x place d d1 e ending t eq =
    let P : Drafted → Type 0 = λ z. GivenPushed x place d z in
    let n = node_of ending.kind place ending.of in
    subst P (sym eq) (record {
      grown = grown_twice d d1 (record d1 { pieces = put d1.tables n d1.pieces }) t.grown (grown_pieces d1 (put d1.tables n d1.pieces));
      stands = λ env y below h.
          let m = t.stands env y below h in
          record { made = plain.expression_of m.made place (declared_view ending.of); is = m.is; on_top = m.ends n };
    })

pub acts_given : (env : Env) (x : Term) (place : Place) (d e : Drafted) → GivenPushed x place d e → Acts env x place [] d e action.Evaluate
acts_given env x place d e g = record {
  grown = g.grown;
  named = tt;
  stands = λ y h.
      let m = g.stands env y [] h in
      record { made = evaluate m.made; is = called_given env d.tables x y d.pieces [] place m.made h m.is; fits = ap (λ ps. action_of e.tables action.Evaluate ps) m.on_top };
}

pub acts_none : (env : Env) (x : Term) (place : Place) (ns : List ExpressionNode) (d e : Drafted) (kind : ActionKind) → ns ≡ node.NoArguments ∷ [] → Acts env x place [] d e kind → ActsOn env x place ns d e kind
acts_none env x place ns d e kind is a =
    let P : List ExpressionNode → Type 0 = λ l. ActsOn env x place l d e kind in subst P (sym is) (record { framed = λ items. refl; acts = λ items. a })

-- ---- statements

action_called : (env : Env) (target : Expr) (x : Tree) (gs : List Given) (d d1 e : Drafted) (kind : ActionKind) → d.pieces ≡ [] → Leaves env target d d1 x → CallsTree env x gs d1 e kind
    → ActionStands (Some kind) (called_with env target gs) d e
action_called env target x gs d d1 e kind empty l c =
    let grown = grown_twice d d1 e l.grown c.grown in
    let A : List Piece → Type 0 = λ ps. TreeStands env d1.tables x target d1.pieces ps in
    let m = c.stands target (subst A empty l.stands) in
    record { statements = grown.statements; bodies = grown.bodies; named = c.named; made = m.made; is = m.is; fits = m.fits }

pub call_bound : (env : Env) (target : Expr) (ns : List ExpressionNode) (x : Tree) (d d1 e : Drafted) (kind : ActionKind) → d.pieces ≡ [] → Leaves env target d d1 x → CallsTreeOn env x ns d1 e kind
    → ActionStands (Some kind) (called_with env target (givens env (arguments_in ns))) d e
call_bound env target ns x d d1 e kind empty l c = action_called env target x (givens env (args_on [] ns)) d d1 e kind empty l (c.calls [])

bare_called : (env : Env) (target : Expr) → IsBare target → called_place env target ≡ called_with env target []
bare_called env (index base left args right) h = absurd h
bare_called env e h = refl

pub bare_bound : (env : Env) (target : Expr) (x : Tree) (d d1 e : Drafted) (kind : ActionKind) → IsBare target → d.pieces ≡ [] → Leaves env target d d1 x → CallsTree env x [] d1 e kind
    → ActionStands (Some kind) (called_place env target) d e
bare_bound env target x d d1 e kind bare empty l c =
    let h = action_called env target x [] d d1 e kind empty l c in
    record { statements = h.statements; bodies = h.bodies; named = h.named; made = h.made; is = bare_called env target bare ∙ h.is; fits = h.fits }

-- nodes before arguments, the arguments, and their brackets
pub index_is : (x : Split) (all : List ExpressionNode) (s : SplitAt x all) → behind_nodes [] x.target.now ≡ nodes.tree (tree_in x.target.now) ∷ [] → Framed x.arguments.now
    → tree_in all ≡ index (tree_in x.target.now) s.left (args_on (nodes.tree (tree_in x.target.now) ∷ []) x.arguments.now) s.right
index_is x all s alone framed =
    let base = nodes.tree (tree_in x.target.now) ∷ [] in
    let close : List ExpressionNode = node.Index s.left s.right ∷ [] in
    ap tree_in s.is ∙ ap last_tree (behind_both [] x.target.now x.closed.now) ∙ ap (λ is. last_tree (behind_nodes is x.closed.now)) alone ∙ ap (λ l. last_tree (behind_nodes base l)) s.closed_is
    ∙ ap last_tree (behind_both base x.arguments.now close) ∙ ap (λ is. last_tree (behind_nodes is close)) (framed base)

pub place_bound : (env : Env) (s : Split) (all : List ExpressionNode) (x : Tree) (d d1 e : Drafted) (kind : ActionKind) → SplitAt s all → d.pieces ≡ [] → LeavesAlone env s.target.now d d1 x
    → CallsTreeOn env x s.arguments.now d1 e kind → ActionStands (Some kind) (called_place env (tree_in all)) d e
place_bound env s all x d d1 e kind at empty l c =
    let base = nodes.tree (tree_in s.target.now) ∷ [] in
    let h = action_called env (tree_in s.target.now) x (givens env (args_on base s.arguments.now)) d d1 e kind empty l.leaves (c.calls base) in
    let P : Expr → Type 0 = λ t. ActionStands (Some kind) (called_place env t) d e in
    subst P (sym (index_is s all at l.alone c.framed)) h
