-- Events that are raised.
use Rattle.std.proofs.Common.{◌≡◌, ℕ, zero, suc, ◌+◌, true, false, List, [], ◌∷◌, ◌++◌, map, length, Option, Some, option_map, refl, sym, ap, subst, ◌∙◌, arith}
use Rattle.std.specs.List.{list_all}
use Rattle.std.specs.Prelude.{bytes_eq, option_and_then, reverse}
use Rattle.vba_base.specs.declared.place.Place.{Place}
use Rattle.vba_values.specs.Types as type
use Rattle.vba_words.specs.declared.identifier.Identifier.{Identifier}
use Rattle.vba_expression.specs.Nodes as nodes
use Rattle.vba_expression.specs.declared.node.ExpressionNode.{ExpressionNode}
use Rattle.bound_project.specs.declared.declarations.Parameter.{Parameter}
use Rattle.bound_project.specs.declared.statement.ActionKind.{ActionKind}
use Rattle.bound_project.specs.declared.statement.ActionKind.TheVariants as action
use Rattle.bound_project.specs.Bodies.{action_of, whole}
use Rattle.bound_project.specs.Drafts.{Drafted}
use Rattle.bound_project.specs.Expressions.{Exprs, no_exprs}
use Rattle.bound_project.specs.Expressions as bound
use Rattle.bound_project.specs.Lists.{above, args_of, exprs_of}
use Rattle.bound_project.proofs.Lists.{args_are}
use Rattle.bound_project.specs.Pieces.{Argument, Piece, Tables, an_argument, an_expr, arguments_off, order_in, put, values_listed}
use Rattle.bound_project.specs.Project as project
use Rattle.bound_project.specs.Statements.{Action}
use Rattle.bound_project.specs.Statements as to
use Rattle.bound_project.specs.View.{parameter_view}
use Rattle.declared_names.specs.binder.specs.Constants.{home}
use Rattle.declared_names.specs.binder.specs.EventTables.{declared_events}
use Rattle.declared_names.specs.binder.specs.Options.{or_else}
use Rattle.declared_names.specs.binder.specs.Scopes.{first_at}
use Rattle.bound_terms.specs.bound_accesses.specs.bound_names.specs.bound_members.specs.bound_calls.specs.bound_forms.specs.Terms.{Env, Given, bound_arguments, broken_rule, may_lack}
use Rattle.bound_terms.specs.bound_accesses.specs.bound_names.specs.bound_members.specs.bound_calls.specs.bound_forms.specs.Operands.{argument_of}
use Rattle.bound_terms.specs.bound_accesses.specs.bound_names.specs.bound_members.specs.bound_calls.specs.bound_forms.specs.ExpressionsBound.{givens}
use Rattle.bound_terms.specs.bound_accesses.specs.bound_names.specs.bound_members.specs.bound_calls.specs.bound_forms.specs.Targets.{untaken}
use Rattle.bound_terms.specs.bound_accesses.specs.bound_names.specs.bound_members.specs.bound_calls.specs.bound_forms.specs.StatementsBound.{event_raised, event_with}
use Rattle.bound_terms.specs.bound_accesses.specs.bound_names.specs.bound_members.specs.bound_calls.specs.declared.term.Item.TheVariants as item
use Rattle.bound_terms.specs.bound_accesses.specs.bound_names.specs.bound_members.specs.bound_calls.specs.declared.term.Ordered.{Ordered}
use Rattle.bound_terms.specs.bound_accesses.specs.bound_names.specs.bound_members.specs.bound_calls.specs.declared.term.Passed.{Passed}
use Rattle.bound_terms.specs.bound_accesses.specs.bound_names.specs.bound_members.specs.bound_calls.specs.InOrder.{EndsInOrder, with_named}
use Rattle.bound_terms.specs.bound_accesses.specs.bound_names.specs.bound_members.specs.bound_calls.specs.Passing.{AllTaken}
use Rattle.bound_terms.specs.bound_accesses.specs.bound_names.specs.bound_members.specs.bound_calls.specs.Standing.{AllListed, Base, Grown, Stands, is_gathering}
use Rattle.bound_terms.specs.bound_accesses.specs.bound_names.specs.bound_members.specs.bound_calls.proofs.Arguing.{left_long}
use Rattle.bound_terms.specs.bound_accesses.specs.bound_names.specs.bound_members.specs.bound_calls.proofs.CallSteps.{parameters_long}
use Rattle.bound_terms.specs.bound_accesses.specs.bound_names.specs.bound_members.specs.bound_calls.proofs.Growing.{grown_pieces, grown_twice}
use Rattle.bound_terms.specs.bound_accesses.specs.bound_names.specs.bound_members.specs.bound_calls.proofs.Passing.{arguments_bound}
use Rattle.bound_terms.specs.bound_operands.specs.Gathering.{PassesGathered, with_gathered}
use Rattle.bound_terms.specs.bound_operands.proofs.ParamArrays.{above_two, first_many, gathered_bound, two_long}
use Rattle.statement_terms.specs.statement_nodes.specs.Pushed.{ActionStands}
use Rattle.statement_terms.specs.Called.{RestPushed, args_on}
use Rattle.statement_terms.specs.NamedCalls.{ReadsNamed, ValuesPassed}
use Rattle.statement_terms.proofs.Called.{all_passed}
use Rattle.statement_terms.proofs.NamedCalls.{bound_on, reads_plain, some_reversed}
use Rattle.bound_actions.specs.NamedCalls.{ReadsWritten}
use Rattle.bound_actions.specs.Raised.{LeftPushed, Raises, RaisesOn, an_event_with}
use Rattle.bound_actions.specs.Untaken.{RefusesArguments}
use Rattle.bound_actions.proofs.NamedCalls.{reads_named, some_values}
use Rattle.bound_actions.proofs.Refusing.{mark_fits, mark_of, none_bound, untaken_is}

-- ---- with arguments that its parameters take

event_bound : (env : Env) (place : Place) (gs : List Given) (event : ℕ) (ps : List project.Parameter) (args : bound.Args) → bound_arguments (argument_of env) ps gs ≡ Some args
    → event_with env place gs (event, an_event_with ps) ≡ Some (to.raise_event event args)
event_bound env place gs event ps args h =
    let other = option_map (λ (es : Exprs). to.evaluate (broken_rule 25 place es)) (untaken env ps gs) in
    ap (λ (o : Option bound.Args). or_else (option_map (λ (a : bound.Args). to.raise_event event a) o) other) h

event_fits : (t : Tables) (event all : ℕ) (made : List Argument) (ps below : List Piece) → below ≡ [] → all ≡ length made → ps ≡ above (map an_argument made) below → action_of t (action.RaiseEvent event all) ps ≡ Some (to.raise_event event (args_of made))
event_fits t event all made ps below none counted on_top =
    let top : ps ≡ above (map an_argument made) [] = on_top ∙ ap (λ (st : List Piece). above (map an_argument made) st) none in
    ap (λ (st : List Piece). action_of t (action.RaiseEvent event all) st) top ∙ ap (λ (n : ℕ). action_of t (action.RaiseEvent event n) (above (map an_argument made) [])) counted
    ∙ ap (λ o. whole o (λ args. to.raise_event event args)) (args_are made [])

raises_plain : (env : Env) (event all : ℕ) (ps : List project.Parameter) (place : Place) (gs : List Given) (d e : Drafted) (made : List Argument) → Grown d e → bound_arguments (argument_of env) ps gs ≡ Some (args_of made) → all ≡ length made
    → e.pieces ≡ above (map an_argument made) d.pieces → Raises env event ps place gs d e (action.RaiseEvent event all)
raises_plain env event all ps place gs d e made grown is counted on_top = record {
  grown = grown;
  named = tt;
  stands = λ none. record { made = to.raise_event event (args_of made); is = event_bound env place gs event ps (args_of made) is; fits = event_fits e.tables event all made e.pieces d.pieces none counted on_top };
}

pub event_bare : (env : Env) (event : ℕ) (parameters : List Parameter) (place : Place) (x : Passed) (d e : Drafted) (written all : ℕ) → x.left.now ≡ parameters → x.count ≡ 0 → RestPushed x d e written all
    → Raises env event (map parameter_view parameters) place [] d e (action.RaiseEvent event all)
event_bare env event parameters place x d e written all left none h =
    let ps = map parameter_view parameters in
    let lefts = map parameter_view x.left.now in
    let r = h.rest in
    let taken : AllTaken (argument_of env) ps [] [] lefts = ap (λ (l : List Parameter). map parameter_view l) (sym left) in
    let counted : all ≡ length r.made = omega (arith, h.all_is, none, left_long lefts r.made r.left, parameters_long x.left.now) in
    raises_plain env event all ps place [] d e r.made r.grown (arguments_bound (argument_of env) ps [] [] lefts r.made taken r.left) counted r.on_top

event_passed : (env : Env) (event : ℕ) (parameters : List Parameter) (place : Place) (x : Passed) (named : List ℕ) (ns : List ExpressionNode) (d m e : Drafted) (written all : ℕ) → named ≡ [] → ReadsNamed env (map parameter_view parameters) ns d m x named
    → RestPushed x m e written all → RaisesOn env event (map parameter_view parameters) place ns d e (action.RaiseEvent event all)
event_passed env event parameters place x named ns d m e written all none r h =
    let ps = map parameter_view parameters in
    let p = all_passed env parameters x ns d m e written all (reads_plain env ns ps x named d m none r) h in
    record {
      framed = p.framed;
      raises = λ items. let s = p.stands items in raises_plain env event all ps place (givens env (args_on items ns)) d e s.made p.grown s.bound s.all_is s.on_top;
    }

-- ---- with values for a ParamArray

gathered_raises : (env : Env) (event : ℕ) (ps : List project.Parameter) (place : Place) (x : Passed) (values all : ℕ) (gs before given : List Given) (xs : List Argument) (es : List bound.Expr) (between : List Piece) (d m e : Drafted) → Grown d m
    → PassesGathered x values m e all → is_gathering (map parameter_view x.left.now) ≡ true → length es ≡ values → (values ≡ 0 → ⊥) → gs ≡ before ++ given → AllTaken (argument_of env) ps before xs (map parameter_view x.left.now) → x.count ≡ length xs
    → AllListed (argument_of env type.variant) given es → m.pieces ≡ above (map an_expr es) between → between ≡ above (map an_argument xs) d.pieces → Raises env event ps place gs d e (action.RaiseEvent event all)
gathered_raises env event ps place x values all gs before [] xs [] between d m e grown q many long some same taken counted v a b = absurd (some (sym long))
gathered_raises env event ps place x values all gs before [] xs (z ∷ es) between d m e grown q many long some same taken counted v a b = absurd v
gathered_raises env event ps place x values all gs before (g ∷ ns) xs es between d m e grown q many long some same taken counted v a b =
    let value = argument_of env in
    let others = map parameter_view q.others in
    let first = parameter_view q.first in
    let listed = values_listed (exprs_of es) in
    let L : List Parameter → Type 0 = λ l. AllTaken value ps before xs (map parameter_view l) in
    let t : AllTaken value ps before xs (first ∷ others) = subst L q.left_is taken in
    let made = xs ++ listed ∷ q.made in
    let is : bound_arguments value ps gs ≡ Some (args_of made) =
    ap (λ (l : List Given). bound_arguments value ps l) same ∙ gathered_bound value ps before xs first others g ns es q.made t (first_many q.first q.others x.left.now q.left_is many) v q.left in
    let long_all : all ≡ length made = omega (arith, q.arguments_is, counted, two_long xs listed q.made) in
    let on_top : e.pieces ≡ above (map an_argument made) d.pieces = q.stands es between long a ∙ ap (λ (st : List Piece). above (map an_argument (listed ∷ q.made)) st) b ∙ above_two xs (listed ∷ q.made) d.pieces in
    raises_plain env event all ps place gs d e made (grown_twice d m e grown q.grown) is long_all on_top

event_gathered : (env : Env) (event : ℕ) (parameters : List Parameter) (place : Place) (x : Passed) (named : List ℕ) (values all : ℕ) (ns : List ExpressionNode) (d m e : Drafted) → named ≡ [] → (values ≡ 0 → ⊥)
    → ReadsWritten env (map parameter_view parameters) ns d m x named values → PassesGathered x values m e all → RaisesOn env event (map parameter_view parameters) place ns d e (action.RaiseEvent event all)
event_gathered env event parameters place x named values all ns d m e none some r q = record {
  framed = r.framed;
  raises = λ items.
      let ps = map parameter_view parameters in
      let args = args_on items ns in
      let base : Base = record { pieces = d.pieces; parameters = ps; items = items } in
      let N : List ℕ → Type 0 = λ l. Stands env m.tables (with_named l (with_gathered values (item.Listed x ∷ []))) (nodes.arguments args ∷ items) m.pieces base in
      let v : ValuesPassed env ps x values args m.pieces d.pieces = some_values env m.tables values x args items m.pieces base some (subst N none (r.stands items)) in
      gathered_raises env event ps place x values all (givens env args) (givens env v.before) v.given v.passed.made v.made v.between d m e r.grown q v.many v.count_is some v.givens_are v.passed.taken v.passed.count_is v.taken v.on_top v.passed.on_top;
}

pub left_gathered : (x : Passed) (values : ℕ) (d e : Drafted) (arguments : ℕ) → (values ≡ 0 → ⊥) → PassesGathered x values d e arguments → LeftPushed x values d e arguments
left_gathered x zero d e arguments some h = absurd (some refl)
left_gathered x (suc n) d e arguments some h = h

pub event_left : (env : Env) (event : ℕ) (parameters : List Parameter) (place : Place) (x : Passed) (named : List ℕ) (values all : ℕ) (ns : List ExpressionNode) (d m e : Drafted) → named ≡ [] → ReadsWritten env (map parameter_view parameters) ns d m x named values
    → LeftPushed x values m e all → RaisesOn env event (map parameter_view parameters) place ns d e (action.RaiseEvent event all)
event_left env event parameters place x named zero all ns d m e none r h = event_passed env event parameters place x named ns d m e h.0 all none (reads_named env ns (map parameter_view parameters) x named zero d m refl r) h.1
event_left env event parameters place x named (suc n) all ns d m e none r h = event_gathered env event parameters place x named (suc n) all ns d m e none (λ (z : suc n ≡ 0). absurd (omega (arith, z))) r h

-- ---- with arguments of which some have names

event_in_order_fits : (t : Tables) (event : ℕ) (o : Ordered) (all : List Argument) (places : List ℕ) (ps below : List Piece) → below ≡ [] → o.arguments ≡ length all → order_in t o.order ≡ places → ps ≡ above (map an_argument all) below
    → action_of t (action.RaiseEventInOrder event o.arguments o.order) ps ≡ Some (to.raise_event event (bound.in_order places (args_of all)))
event_in_order_fits t event o all places ps below none counted order a =
    let top : ps ≡ above (map an_argument all) [] = a ∙ ap (λ (st : List Piece). above (map an_argument all) st) none in
    let B : List ℕ → Option (bound.Args × List Piece) → Option Action = λ l found. whole found (λ args. to.raise_event event (bound.in_order l args)) in
    ap (λ (st : List Piece). action_of t (action.RaiseEventInOrder event o.arguments o.order) st) top ∙ ap (λ n. B (order_in t o.order) (arguments_off n (above (map an_argument all) []) bound.no_args)) counted
    ∙ ap (λ l. B l (arguments_off (length all) (above (map an_argument all) []) bound.no_args)) order ∙ ap (λ found. B places found) (args_are all [])

pub event_ordered : (env : Env) (event : ℕ) (parameters : List Parameter) (place : Place) (x : Passed) (named : List ℕ) (values : ℕ) (o : Ordered) (ns : List ExpressionNode) (d m e : Drafted) → (named ≡ [] → ⊥) → values ≡ 0
    → ReadsWritten env (map parameter_view parameters) ns d m x named values → EndsInOrder parameters x (reverse named) m e o → RaisesOn env event (map parameter_view parameters) place ns d e (action.RaiseEventInOrder event o.arguments o.order)
event_ordered env event parameters place x named values o ns d m e some none written h =
    let r = reads_named env ns (map parameter_view parameters) x named values d m none written in
    record {
      framed = r.framed;
      raises = λ items.
          let gs = givens env (args_on items ns) in
          let p = r.stands items in
          let b = bound_on env parameters x (reverse named) o m e gs p.before p.given p.made p.between d.pieces (some_reversed named some) h p.givens_are p.taken p.on_top p.passed in
          record {
            grown = grown_twice d m e r.grown h.grown;
            named = h.order_named;
            stands = λ empty. record {
              made = to.raise_event event (bound.in_order b.places (args_of b.all));
              is = event_bound env place gs event (map parameter_view parameters) (bound.in_order b.places (args_of b.all)) b.bound;
              fits = event_in_order_fits e.tables event o b.all b.places e.pieces d.pieces empty b.arguments_is b.order_is b.on_top;
            };
          };
    }

-- ---- S25: with arguments that its parameters don't take

broken_event : (env : Env) (event : ℕ) (ps : List project.Parameter) (place : Place) (gs : List Given) (es : Exprs) → untaken env ps gs ≡ Some es → event_with env place gs (event, an_event_with ps) ≡ Some (to.evaluate (broken_rule 25 place es))
broken_event env event ps place gs es h =
    let broken : Option Exprs → Option Action = λ o. option_map (λ (l : Exprs). to.evaluate (broken_rule 25 place l)) o in
    ap (λ (o : Option bound.Args). or_else (option_map (λ (a : bound.Args). to.raise_event event a) o) (broken (untaken env ps gs))) (none_bound env ps gs es h) ∙ ap broken h

pub event_refused : (env : Env) (event : ℕ) (ps : List project.Parameter) (place : Place) (ns : List ExpressionNode) (d e : Drafted) (kind : ActionKind) → RefusesArguments env ps 0 place ns d e kind → RaisesOn env event ps place ns d e kind
event_refused env event ps place ns d e kind r = record {
  framed = r.framed;
  raises = λ items. record {
    grown = r.grown;
    named = r.named;
    stands = λ none.
        let u = r.does items [] refl none in
        record { made = to.evaluate (broken_rule 25 place u.made); is = broken_event env event ps place (givens env (args_on items ns)) u.made u.untaken_is; fits = u.fits };
  };
}

pub event_lacks : (env : Env) (event : ℕ) (ps : List project.Parameter) (place : Place) (d e : Drafted) → list_all may_lack ps ≡ false → e ≡ record d { pieces = put d.tables (mark_of 25 place 0) d.pieces }
    → Raises env event ps place [] d e action.Evaluate
event_lacks env event ps place d e lacks eq =
    let P : Drafted → Type 0 = λ (z : Drafted). Raises env event ps place [] d z action.Evaluate in
    subst P (sym eq) (record {
      grown = grown_pieces d (put d.tables (mark_of 25 place 0) d.pieces);
      named = tt;
      stands = λ none. record {
        made = to.evaluate (broken_rule 25 place no_exprs);
        is = broken_event env event ps place [] no_exprs (untaken_is env ps [] no_exprs lacks refl);
        fits = mark_fits d.tables 25 place 0 [] d.pieces refl none;
      };
    })

-- ---- the statement

pub event_stands : (env : Env) (name : Identifier) (gs : List Given) (event : ℕ) (declared : project.DeclaredEvent) (d e : Drafted) (kind : ActionKind) → d.pieces ≡ []
    → first_at (λ (x : project.DeclaredEvent). bytes_eq x.name.fold name.name) 0 (declared_events (home env.scope env.scope.here) env.scope.here.entries) ≡ Some (event, declared) → Raises env event declared.parameters name.token.place gs d e kind
    → ActionStands (Some kind) (event_raised env name gs) d e
event_stands env name gs event declared d e kind empty found r =
    let a = r.stands empty in
    record {
      statements = r.grown.statements;
      bodies = r.grown.bodies;
      named = r.named;
      made = a.made;
      is = ap (λ (o : Option (ℕ × project.DeclaredEvent)). option_and_then (event_with env name.token.place gs) o) found ∙ a.is;
      fits = a.fits;
    }
