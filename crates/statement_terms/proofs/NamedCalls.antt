-- Calls of which the last arguments have names, and that stand as statements.
use Rattle.std.proofs.Common.{◌≡◌, ℕ, List, [], ◌∷◌, ◌++◌, map, length, Option, Some, refl, sym, ap, subst, ◌∙◌, append-nil, arith}
use Rattle.std.specs.Prelude.{reverse}
use Rattle.std.proofs.lemmas.List.{length-reverse}
use Rattle.vba_base.specs.declared.place.Place.{Place}
use Rattle.vba_values.specs.Types.{Declared}
use Rattle.vba_expression.specs.Tree.{Args}
use Rattle.vba_expression.specs.Nodes as nodes
use Rattle.vba_expression.specs.declared.node.ExpressionNode.{ExpressionNode}
use Rattle.bound_project.specs.declared.declarations.Parameter.{Parameter}
use Rattle.bound_project.specs.declared.statement.ActionKind.TheVariants as action
use Rattle.bound_project.specs.Statements.{Action, evaluate}
use Rattle.bound_project.specs.Statements as to
use Rattle.bound_project.specs.Bodies.{action_of, whole}
use Rattle.bound_project.specs.View.{parameter_view}
use Rattle.bound_project.specs.Expressions as bound
use Rattle.bound_project.specs.Lists.{above, args_of}
use Rattle.bound_project.proofs.Lists.{args_are}
use Rattle.bound_project.specs.Pieces.{Argument, Piece, Tables, an_argument, arguments_off, order_in}
use Rattle.bound_project.specs.Project as project
use Rattle.bound_project.specs.Drafts.{Drafted}
use Rattle.bound_members.specs.bound_calls.specs.bound_forms.specs.Terms.{Env, Given, bound_arguments}
use Rattle.bound_members.specs.bound_calls.specs.bound_forms.specs.StatementsBound.{called_term, raise_parameters}
use Rattle.bound_members.specs.bound_calls.specs.bound_forms.specs.Terms as plain
use Rattle.bound_members.specs.bound_calls.specs.bound_forms.specs.Operands.{argument_of}
use Rattle.bound_members.specs.bound_calls.specs.bound_forms.specs.ExpressionsBound.{givens, indexed}
use Rattle.bound_members.specs.bound_calls.specs.declared.term.Ending.{Ending}
use Rattle.bound_members.specs.bound_calls.specs.declared.term.Item.TheVariants as item
use Rattle.bound_members.specs.bound_calls.specs.declared.term.Term.TheVariants as term
use Rattle.bound_members.specs.bound_calls.specs.declared.term.Ordered.{Ordered}
use Rattle.bound_members.specs.bound_calls.specs.declared.term.Passed.{Passed}
use Rattle.bound_members.specs.bound_calls.specs.declared.term.Routine.{Routine}
use Rattle.statement_terms.specs.Called.{ActsOn, PassesAll, Reads, RestPushed, args_on}
use Rattle.bound_members.specs.bound_calls.specs.Calls.{EndsCall, PushesReceiver}
use Rattle.bound_members.specs.bound_calls.specs.Passing.{AllTaken}
use Rattle.bound_members.specs.bound_calls.specs.InOrder.{AllNamedTaken, EndsInOrder, EndsNamed, with_named}
use Rattle.statement_terms.specs.NamedCalls.{NamedPassed, PushesCall, PushesNamed, ReadsNamed}
use Rattle.bound_members.specs.bound_calls.specs.Standing.{Base, PassedStands, ReceiverThere, RoutineIs, Stands, ValueStands}
use Rattle.statement_terms.specs.Assigning.{GivenPushed}
use Rattle.bound_members.specs.bound_calls.proofs.Growing.{grown_twice}
use Rattle.bound_members.specs.bound_calls.proofs.CallSteps.{call_stands as plain_stands}
use Rattle.bound_members.specs.bound_calls.proofs.NamedSteps.{InOrderBound, call_stands, in_order_bound, unpacked}
use Rattle.statement_terms.proofs.Called.{acts_raise, passes_all, raised_with, routine_called}

-- ---- arguments of which none has a name

nothing : (value : Declared → plain.Term → Place → Option bound.Expr) (n : ℕ) (ps : List project.Parameter) (gs : List Given) (xs : List Argument) → AllNamedTaken value n ps gs [] xs → gs ≡ []
nothing value n ps [] xs h = refl
nothing value n ps (g ∷ gs) xs h = absurd h

unmade : (value : Declared → plain.Term → Place → Option bound.Expr) (n : ℕ) (ps : List project.Parameter) (gs : List Given) (xs : List Argument) → AllNamedTaken value n ps gs [] xs → xs ≡ []
unmade value n ps [] [] h = refl
unmade value n ps [] (x ∷ xs) h = absurd h
unmade value n ps (g ∷ gs) xs h = absurd h

passed_plain : (env : Env) (parameters : List project.Parameter) (x : Passed) (args : Args) (ps below : List Piece) → NamedPassed env parameters x [] args ps below → PassedStands env parameters x args ps below
passed_plain env parameters x args ps below p =
    let left = map parameter_view x.left.now in
    let none : p.given ≡ [] = nothing (argument_of env) x.count left p.given p.made p.taken in
    let empty : p.made ≡ [] = unmade (argument_of env) x.count left p.given p.made p.taken in
    let same : givens env args ≡ givens env p.before = p.givens_are ∙ ap (λ l. givens env p.before ++ l) none ∙ append-nil (givens env p.before) in
    let at : ps ≡ p.between = p.on_top ∙ ap (λ l. above (map an_argument l) p.between) empty in
    let q = p.passed in
    let A : List Given → Type 0 = λ gs. AllTaken (argument_of env) parameters gs q.made left in
    record { made = q.made; taken = subst A (sym same) q.taken; count_is = q.count_is; on_top = at ∙ q.on_top }

pub pushes_call : (r : Routine) (x : Passed) (place : Place) (d d1 e : Drafted) (ending : Ending) → EndsCall r x d d1 ending → GivenPushed (term.Value ending) place d1 e → PushesCall r x place d e
pushes_call r x place d d1 e ending h p = record {
  grown = grown_twice d d1 e h.grown p.grown;
  stands = λ env y args there below s on t. p.stands env (indexed env place y (givens env args)) below (plain_stands env d1.tables r x d d1 ending y place args there below h s on t);
}

pub pushes_plain : (r : Routine) (x : Passed) (place : Place) (d e : Drafted) → PushesCall r x place d e → PushesNamed r x [] place d e
pushes_plain r x place d e h = record {
  grown = h.grown;
  stands = λ env y args there below s on p. h.stands env y args there below s on (passed_plain env (map parameter_view r.parameters.now) x args d.pieces there p);
}

-- ---- arguments of which some have names

pub some_reversed : (ks : List ℕ) → (ks ≡ [] → ⊥) → reverse ks ≡ [] → ⊥
some_reversed [] some h = some refl
some_reversed (k ∷ ks) some h = absurd (omega (arith, ap (λ l. length l) h, length-reverse (k ∷ ks)))

-- the value of a call
value_stands : (env : Env) (r : Routine) (x : Passed) (named : List ℕ) (d e : Drafted) (ending : Ending) (y : plain.Term) (place : Place) (gs : List Given) (before : Args) (given : List Given) (made : List Argument) (there between below : List Piece)
    → (named ≡ [] → ⊥) → EndsNamed r x named d e ending → (s : RoutineIs env r y) → ReceiverThere s.base there below → gs ≡ givens env before ++ given → AllNamedTaken (argument_of env) x.count (map parameter_view x.left.now) given named made
    → d.pieces ≡ above (map an_argument made) between → PassedStands env (map parameter_view r.parameters.now) x before between there → ValueStands e.tables ending (indexed env place y gs) e.pieces below
value_stands env r x [] d e ending y place gs before given made there between below some h s on is names a p = absurd (some refl)
value_stands env r x (k ∷ ks) d e ending y place gs before [] made there between below some h s on is names a p = absurd names
value_stands env r x (k ∷ ks) d e ending y place gs before (g ∷ ns) made there between below some h s on is names a p =
    let A : List Given → Type 0 = λ l. ValueStands e.tables ending (indexed env place y l) e.pieces below in
    subst A (sym is) (call_stands env e.tables r x d e (k ∷ ks) ending y place (givens env before) p.made g ns made between there below h refl s on p.taken p.count_is names a p.on_top)

pub pushes_named : (r : Routine) (x : Passed) (named : List ℕ) (place : Place) (d d1 e : Drafted) (ending : Ending) → (named ≡ [] → ⊥) → EndsNamed r x named d d1 ending → GivenPushed (term.Value ending) place d1 e → PushesNamed r x named place d e
pushes_named r x named place d d1 e ending some h p = record {
  grown = grown_twice d d1 e h.ends.grown p.grown;
  stands = λ env y args there below s on t.
      p.stands env (indexed env place y (givens env args)) below
      (value_stands env r x named d d1 ending y place (givens env args) t.before t.given t.made there t.between below some h s on t.givens_are t.taken t.on_top t.passed);
}

-- ---- the arguments of a statement

-- none is a value for a ParamArray
pub named_arguments : (env : Env) (t : Tables) (ks : List ℕ) (x : Passed) (args : Args) (is : List nodes.Item) (ps : List Piece) (base : Base) → Stands env t (with_named ks (item.Listed x ∷ [])) (nodes.arguments args ∷ is) ps base
    → NamedPassed env base.parameters x (reverse ks) args ps base.pieces
named_arguments env t ks x args is ps base h =
    let u = unpacked env t ks (item.Listed x) [] x args is ps base refl h in
    let A : List Piece → Type 0 = λ l. PassedStands env base.parameters x u.before u.between l in
    record { before = u.before; given = u.given; givens_are = u.givens_are; made = u.made; taken = u.taken; between = u.between; on_top = u.on_top; passed = subst A u.stands.1.1.1 u.stands.1.0 }

-- none has a name
pub reads_plain : (env : Env) (ns : List ExpressionNode) (parameters : List project.Parameter) (x : Passed) (named : List ℕ) (d e : Drafted) → named ≡ [] → ReadsNamed env parameters ns d e x named → Reads env parameters ns d e x
reads_plain env ns parameters x named d e none h =
    let A : List ℕ → Type 0 = λ l. ReadsNamed env parameters ns d e x l in
    let r = subst A none h in
    record { grown = r.grown; framed = r.framed; stands = λ items. passed_plain env parameters x (args_on items ns) e.pieces d.pieces (r.stands items) }

pub acts_routine : (env : Env) (r : Routine) (x : Passed) (named : List ℕ) (place : Place) (ns : List ExpressionNode) (d r0 d1 e : Drafted) → PushesReceiver r.receiver d r0 → ReadsNamed env (map parameter_view r.parameters.now) ns r0 d1 x named
    → PushesNamed r x (reverse named) place d1 e → ActsOn env (term.Routine r) place ns d e action.Evaluate
acts_routine env r x named place ns d r0 d1 e pushed a p = record {
  framed = a.framed;
  acts = λ items.
      let args = args_on items ns in
      record {
        grown = grown_twice d r0 e pushed.grown (grown_twice r0 d1 e a.grown p.grown);
        named = tt;
        stands = λ y h.
            let s = h.routine in
            let m = p.stands env y args r0.pieces [] s (pushed.there s.base [] s.received h.pushed) (a.stands items) in
            record { made = evaluate m.made; is = routine_called env place y s.base s.space s.number s.written (givens env args) m.made s.is m.is; fits = ap (λ ps. action_of e.tables action.Evaluate ps) m.on_top };
      };
}

-- ---- Err.Raise

pub bound_on : (env : Env) (parameters : List Parameter) (x : Passed) (named : List ℕ) (o : Ordered) (d e : Drafted) (gs : List Given) (before : Args) (given : List Given) (made : List Argument) (between below : List Piece) → (named ≡ [] → ⊥)
    → EndsInOrder parameters x named d e o → gs ≡ givens env before ++ given → AllNamedTaken (argument_of env) x.count (map parameter_view x.left.now) given named made → d.pieces ≡ above (map an_argument made) between
    → PassedStands env (map parameter_view parameters) x before between below → InOrderBound env e.tables (map parameter_view parameters) o gs e.pieces below
bound_on env parameters x [] o d e gs before given made between below some h is names a p = absurd (some refl)
bound_on env parameters x (k ∷ ks) o d e gs before [] made between below some h is names a p = absurd names
bound_on env parameters x (k ∷ ks) o d e gs before (g ∷ ns) made between below some h is names a p =
    let A : List Given → Type 0 = λ l. InOrderBound env e.tables (map parameter_view parameters) o l e.pieces below in
    subst A (sym is) (in_order_bound env e.tables parameters x (k ∷ ks) o (givens env before) p.made g ns made between below d e h refl p.taken p.count_is names a p.on_top)

raised_in_order : (t : Tables) (o : Ordered) (all : List Argument) (places : List ℕ) (ps below : List Piece) → below ≡ [] → o.arguments ≡ length all → order_in t o.order ≡ places → ps ≡ above (map an_argument all) below
    → action_of t (action.RaiseInOrder o.arguments o.order) ps ≡ Some (to.raise (bound.in_order places (args_of all)))
raised_in_order t o all places ps below none counted order a =
    let top : ps ≡ above (map an_argument all) [] = a ∙ ap (λ st. above (map an_argument all) st) none in
    let B : List ℕ → Option (bound.Args × List Piece) → Option Action = λ l found. whole found (λ args. to.raise (bound.in_order l args)) in
    ap (λ st. action_of t (action.RaiseInOrder o.arguments o.order) st) top ∙ ap (λ n. B (order_in t o.order) (arguments_off n (above (map an_argument all) []) bound.no_args)) counted
    ∙ ap (λ l. B l (arguments_off (length all) (above (map an_argument all) []) bound.no_args)) order ∙ ap (λ found. B places found) (args_are all [])

pub acts_raise_named : (env : Env) (place : Place) (ns : List ExpressionNode) (parameters : List Parameter) (x : Passed) (named : List ℕ) (o : Ordered) (d d1 e : Drafted) → map parameter_view parameters ≡ raise_parameters → (named ≡ [] → ⊥)
    → ReadsNamed env (map parameter_view parameters) ns d d1 x named → EndsInOrder parameters x (reverse named) d1 e o → ActsOn env term.ErrRaise place ns d e (action.RaiseInOrder o.arguments o.order)
acts_raise_named env place ns parameters x named o d d1 e raised some a h = record {
  framed = a.framed;
  acts = λ items.
      let args = args_on items ns in
      let gs = givens env args in
      record {
        grown = grown_twice d d1 e a.grown h.grown;
        named = h.order_named;
        stands = λ y s.
            let p = a.stands items in
            let m = bound_on env parameters x (reverse named) o d1 e gs p.before p.given p.made p.between d.pieces (some_reversed named some) h p.givens_are p.taken p.on_top p.passed in
            let made = to.raise (bound.in_order m.places (args_of m.all)) in
            let A : plain.Term → Type 0 = λ z. called_term env place z gs ≡ Some made in
            let given : bound_arguments (argument_of env) raise_parameters gs ≡ Some (bound.in_order m.places (args_of m.all)) = ap (λ ps. bound_arguments (argument_of env) ps gs) (sym raised) ∙ m.bound in
            record { made = made; is = subst A (sym s.0) (raised_with env place gs (bound.in_order m.places (args_of m.all)) given); fits = raised_in_order e.tables o m.all m.places e.pieces d.pieces s.1 m.arguments_is m.order_is m.on_top };
      };
}

pub acts_raise_plain : (env : Env) (place : Place) (ns : List ExpressionNode) (parameters : List Parameter) (x : Passed) (named : List ℕ) (d d1 e : Drafted) (written all : ℕ) → map parameter_view parameters ≡ raise_parameters → named ≡ []
    → ReadsNamed env (map parameter_view parameters) ns d d1 x named → RestPushed x d1 e written all → ActsOn env term.ErrRaise place ns d e (action.Raise all)
acts_raise_plain env place ns parameters x named d d1 e written all raised none a h =
    let A : List project.Parameter → Type 0 = λ ps. PassesAll env ps ns d e x.count all in
    acts_raise env place ns d e x.count all (subst A raised (passes_all env parameters x ns d d1 e (length x.left.now) all (reads_plain env ns (map parameter_view parameters) x named d d1 none a) h.rest refl h.all_is))
