-- Statements with arguments that aren't taken, and targets that can't be assigned to.
use Rattle.std.proofs.Common.{◌≡◌, ℕ, suc, ◌+◌, Bool, true, false, List, [], ◌∷◌, ◌++◌, map, length, Option, Some, None, option_map, if◌then◌else◌, refl, sym, ap, subst, ◌∙◌, arith, length-append}
use Rattle.std.specs.Prelude.{reverse}
use Rattle.std.proofs.lemmas.List.{map-append, reverse-append, reverse-reverse}
use Rattle.vba_base.specs.declared.place.Place.{Place}
use Rattle.vba_values.specs.Types as type
use Rattle.vba_expression.specs.Tree.{Args, no_args, missing, plain, named}
use Rattle.vba_expression.specs.Nodes as nodes
use Rattle.vba_expression.specs.Nodes.{behind_nodes, last_arguments}
use Rattle.vba_expression.specs.declared.node.ExpressionNode.{ExpressionNode}
use Rattle.vba_expression.specs.declared.node.ExpressionNode.TheVariants as node
use Rattle.bound_project.specs.declared.declared_type.DeclaredType.{DeclaredType}
use Rattle.bound_project.specs.declared.declared_type.DeclaredType.TheVariants.{Plain}
use Rattle.bound_project.specs.declared.declared_type.ElementType.TheVariants.{Variant}
use Rattle.bound_project.specs.declared.node.Node.{Node}
use Rattle.bound_project.specs.declared.statement.ActionKind.{ActionKind}
use Rattle.bound_project.specs.declared.statement.ActionKind.TheVariants as action
use Rattle.bound_project.specs.Bodies.{action_of}
use Rattle.bound_project.specs.Drafts.{Drafted}
use Rattle.bound_project.specs.Expressions.{Exprs, also, marked, no_exprs}
use Rattle.bound_project.specs.Expressions as bound
use Rattle.bound_project.specs.Lists.{above, exprs_of}
use Rattle.bound_project.proofs.Lists.{exprs_are}
use Rattle.bound_project.specs.Pieces.{Piece, Tables, an_expr, expr_of, of_found, put}
use Rattle.bound_project.specs.Project.{Parameter}
use Rattle.bound_project.specs.Statements.{Action, evaluate}
use Rattle.bound_project.specs.Statements as to
use Rattle.bound_project.specs.View.{declared_view}
use Rattle.declared_names.specs.binder.specs.Declarations.{Written}
use Rattle.declared_names.specs.binder.specs.Options.{or_else}
use Rattle.declared_names.specs.binder.specs.Scopes.{Space}
use Rattle.bound_terms.specs.bound_accesses.specs.bound_names.specs.bound_members.specs.bound_calls.specs.bound_forms.specs.Terms.{Env, Given, bound_arguments, broken_rule, routine_term, takes}
use Rattle.bound_terms.specs.bound_accesses.specs.bound_names.specs.bound_members.specs.bound_calls.specs.bound_forms.specs.Terms as plain
use Rattle.bound_terms.specs.bound_accesses.specs.bound_names.specs.bound_members.specs.bound_calls.specs.bound_forms.specs.Operands.{alone, argument_of, behind_base, place_told}
use Rattle.bound_terms.specs.bound_accesses.specs.bound_names.specs.bound_members.specs.bound_calls.specs.bound_forms.specs.ExpressionsBound.{givens, variant_arguments}
use Rattle.bound_terms.specs.bound_accesses.specs.bound_names.specs.bound_members.specs.bound_calls.specs.bound_forms.specs.Targets.{broken_target, may_refer, no_reference, property_given, sub_object, untaken}
use Rattle.bound_terms.specs.bound_accesses.specs.bound_names.specs.bound_members.specs.bound_calls.specs.bound_forms.specs.StatementsBound.{called_term, raise_parameters}
use Rattle.bound_terms.specs.bound_accesses.specs.bound_names.specs.bound_members.specs.bound_calls.specs.declared.term.Ending.{Ending}
use Rattle.bound_terms.specs.bound_accesses.specs.bound_names.specs.bound_members.specs.bound_calls.specs.declared.term.Item.{Item}
use Rattle.bound_terms.specs.bound_accesses.specs.bound_names.specs.bound_members.specs.bound_calls.specs.declared.term.Item.TheVariants as item
use Rattle.bound_terms.specs.bound_accesses.specs.bound_names.specs.bound_members.specs.bound_calls.specs.declared.term.Receiver.{Receiver}
use Rattle.bound_terms.specs.bound_accesses.specs.bound_names.specs.bound_members.specs.bound_calls.specs.declared.term.Receiver.TheVariants as receiver
use Rattle.bound_terms.specs.bound_accesses.specs.bound_names.specs.bound_members.specs.bound_calls.specs.declared.term.Routine.{Routine}
use Rattle.bound_terms.specs.bound_accesses.specs.bound_names.specs.bound_members.specs.bound_calls.specs.declared.term.Shape.{Shape}
use Rattle.bound_terms.specs.bound_accesses.specs.bound_names.specs.bound_members.specs.bound_calls.specs.declared.term.Term.{Term}
use Rattle.bound_terms.specs.bound_accesses.specs.bound_names.specs.bound_members.specs.bound_calls.specs.declared.term.Term.TheVariants as term
use Rattle.bound_terms.specs.bound_accesses.specs.bound_names.specs.bound_members.specs.bound_calls.specs.Calls.{node_of}
use Rattle.bound_terms.specs.bound_accesses.specs.bound_names.specs.bound_members.specs.bound_calls.specs.Shapes.{AreShaped, IsShaped, shapes_given, with_shapes}
use Rattle.bound_terms.specs.bound_accesses.specs.bound_names.specs.bound_members.specs.bound_calls.specs.Standing.{AllGiven, Base, GivenIs, IsReceiver, ReceiverStands, RoutineStands, Stands, TermStands, behind_values}
use Rattle.bound_terms.specs.bound_accesses.specs.bound_names.specs.bound_members.specs.bound_calls.specs.Steps.{Goes}
use Rattle.bound_terms.specs.bound_accesses.specs.bound_names.specs.bound_members.specs.bound_calls.specs.Taking.{BaseThere, CallsAt, PushesObject, broken_ending, values_of}
use Rattle.bound_terms.specs.bound_accesses.specs.bound_names.specs.bound_members.specs.bound_calls.proofs.CallSteps.{above_both}
use Rattle.bound_terms.specs.bound_accesses.specs.bound_names.specs.bound_members.specs.bound_calls.proofs.Growing.{grown_pieces, grown_twice}
use Rattle.bound_terms.specs.bound_accesses.specs.bound_names.specs.bound_members.specs.bound_calls.proofs.Refusing.{refused}
use Rattle.bound_terms.specs.bound_accesses.specs.bound_names.specs.bound_members.specs.bound_calls.proofs.Shaping.{takes_shaped}
use Rattle.bound_terms.specs.bound_accesses.specs.bound_names.specs.bound_members.proofs.Naming.{given_listed, given_long}
use Rattle.statement_terms.specs.declared.assigning.PropertyLet.{PropertyLet}
use Rattle.statement_terms.specs.Called.{ActsOn, LetsWith, args_on, let_with}
use Rattle.statement_terms.specs.Setting.{SetsTerm}
use Rattle.bound_actions.specs.NoTargets.{BreaksProcedure, NoRoutine, RefusesTarget, SetsProperty, SetsRoutine}
use Rattle.bound_actions.specs.Untaken.{ReadsUntaken, RefusesArguments, ShapesPassed}

-- ---- arguments on the stack

shaped_push : (ss : List Shape) (gs : List Given) (s : Shape) (g : Given) → AreShaped ss gs → IsShaped s g → AreShaped (ss ++ s ∷ []) (gs ++ g ∷ [])
shaped_push [] [] s g h one = (one, tt)
shaped_push [] (f ∷ gs) s g h one = absurd h
shaped_push (r ∷ ss) [] s g h one = absurd h
shaped_push (r ∷ ss) (f ∷ gs) s g h one = (h.0, shaped_push ss gs s g h.1 one)

given_push : (value : plain.Term → Place → Option bound.Expr) (gs : List Given) (es : List bound.Expr) (g : Given) (e : bound.Expr) → AllGiven value gs es → GivenIs value g e → AllGiven value (gs ++ g ∷ []) (es ++ e ∷ [])
given_push value [] [] g e h one = (one, tt)
given_push value [] (x ∷ es) g e h one = absurd h
given_push value (f ∷ gs) [] g e h one = absurd h
given_push value (f ∷ gs) (x ∷ es) g e h one = (h.0, given_push value gs es g e h.1 one)

shaped_long : (ss : List Shape) (gs : List Given) → AreShaped ss gs → length ss ≡ length gs
shaped_long [] [] h = refl
shaped_long [] (g ∷ gs) h = absurd h
shaped_long (s ∷ ss) [] h = absurd h
shaped_long (s ∷ ss) (g ∷ gs) h = ap (λ (n : ℕ). suc n) (shaped_long ss gs h.1)

one_passed : (env : Env) (ss : List Shape) (gs : List Given) (s : Shape) (g : Given) (made : bound.Expr) (ps between below : List Piece) → ShapesPassed env ss gs between below → IsShaped s g → GivenIs (argument_of env type.variant) g made
    → ps ≡ an_expr made ∷ between → ShapesPassed env (ss ++ s ∷ []) (gs ++ g ∷ []) ps below
one_passed env ss gs s g made ps between below h shaped value on_top = record {
  shaped = shaped_push ss gs s g h.shaped shaped;
  made = h.made ++ made ∷ [];
  values = given_push (argument_of env type.variant) gs h.made g made h.values value;
  on_top = on_top ∙ ap (λ (l : List Piece). an_expr made ∷ l) h.on_top ∙ sym (above_both (map an_expr h.made) (an_expr made ∷ []) below) ∙ ap (λ (l : List Piece). above l below) (sym (map-append an_expr h.made (made ∷ [])));
}

-- the last one first
abbrev pub in_turn : List Shape → List Shape
in_turn [] = []
in_turn (s ∷ ss) = in_turn ss ++ s ∷ []

pub shapes_passed : (env : Env) (t : Tables) (ss : List Shape) (args : Args) (is : List nodes.Item) (ps : List Piece) (base : Base) → Stands env t (with_shapes ss (item.Unlisted ∷ [])) (nodes.arguments args ∷ is) ps base
    → ShapesPassed env (in_turn ss) (givens env args) ps base.pieces
shapes_passed env t [] no_args is ps base h = record { shaped = tt; made = []; values = tt; on_top = h.1 }
shapes_passed env t [] (missing before comma) is ps base h = absurd h
shapes_passed env t [] (plain before comma e) is ps base h = absurd h
shapes_passed env t [] (named before comma name mark e) is ps base h = absurd h
shapes_passed env t (s ∷ ss) no_args is ps base h = absurd h
shapes_passed env t (s ∷ ss) (missing before comma) is ps base h =
    let one = h.1.0 in one_passed env (in_turn ss) (givens env before) s _ one.made ps h.0 base.pieces (shapes_passed env t ss before is h.0 base h.1.1) one.shaped one.is one.on_top
shapes_passed env t (s ∷ ss) (plain before comma e) is ps base h =
    let one = h.1.0 in one_passed env (in_turn ss) (givens env before) s _ one.made ps h.0 base.pieces (shapes_passed env t ss before is h.0 base h.1.1) one.shaped one.is one.on_top
shapes_passed env t (s ∷ ss) (named before comma name mark e) is ps base h =
    let one = h.1.0 in one_passed env (in_turn ss) (givens env before) s _ one.made ps h.0 base.pieces (shapes_passed env t ss before is h.0 base h.1.1) one.shaped one.is one.on_top

turned : (ss : List Shape) → in_turn ss ≡ reverse ss
turned [] = refl
turned (s ∷ ss) = ap (λ (l : List Shape). l ++ s ∷ []) (turned ss) ∙ sym (reverse-append (s ∷ []) ss)

-- arguments, and nothing below them
untaken_below : (env : Env) (t : Tables) (ss : List Shape) (args : Args) (is : List nodes.Item) (ps : List Piece) (base : Base) → Stands env t (with_shapes ss (item.Unlisted ∷ [])) (nodes.arguments args ∷ is) ps base → is ≡ base.items
untaken_below env t [] no_args is ps base h = h.0
untaken_below env t [] (missing before comma) is ps base h = absurd h
untaken_below env t [] (plain before comma e) is ps base h = absurd h
untaken_below env t [] (named before comma name mark e) is ps base h = absurd h
untaken_below env t (s ∷ ss) no_args is ps base h = absurd h
untaken_below env t (s ∷ ss) (missing before comma) is ps base h = untaken_below env t ss before is h.0 base h.1.1
untaken_below env t (s ∷ ss) (plain before comma e) is ps base h = untaken_below env t ss before is h.0 base h.1.1
untaken_below env t (s ∷ ss) (named before comma name mark e) is ps base h = untaken_below env t ss before is h.0 base h.1.1

untaken_framed : (env : Env) (t : Tables) (ss : List Shape) (is : List nodes.Item) (ps : List Piece) (base : Base) → Stands env t (with_shapes ss (item.Unlisted ∷ [])) is ps base → is ≡ nodes.arguments (last_arguments is) ∷ base.items
untaken_framed env t [] [] ps base h = absurd h
untaken_framed env t (s ∷ ss) [] ps base h = absurd h
untaken_framed env t [] (nodes.tree e ∷ is) ps base h = absurd h
untaken_framed env t (s ∷ ss) (nodes.tree e ∷ is) ps base h = absurd h
untaken_framed env t ss (nodes.arguments args ∷ is) ps base h = ap (λ (l : List nodes.Item). nodes.arguments args ∷ l) (untaken_below env t ss args is ps base h)

pub untaken_read : (env : Env) (ns : List ExpressionNode) (shapes : List Shape) (ys mid low : List Item) (d e : Drafted) → ys ≡ with_shapes (reverse shapes) mid → mid ≡ item.Unlisted ∷ low → low ≡ [] → Goes env d (item.Unlisted ∷ []) e ys (λ is. behind_nodes is ns)
    → ReadsUntaken env (node.NoArguments ∷ ns) d e shapes
untaken_read env ns shapes ys mid low d e a b c g =
    let all : ys ≡ with_shapes (reverse shapes) (item.Unlisted ∷ []) = a ∙ ap (λ (l : List Item). with_shapes (reverse shapes) l) (b ∙ ap (λ (l : List Item). item.Unlisted ∷ l) c) in
    let base : List nodes.Item → Base = λ (items : List nodes.Item). record { pieces = d.pieces; parameters = []; items = items } in
    let ends : List nodes.Item → List nodes.Item = λ (items : List nodes.Item). behind_nodes (nodes.arguments no_args ∷ items) ns in
    let there : (items : List nodes.Item) → Stands env e.tables (with_shapes (reverse shapes) (item.Unlisted ∷ [])) (ends items) e.pieces (base items) = λ items.
    let Y : List Item → Type 0 = λ (l : List Item). Stands env e.tables l (ends items) e.pieces (base items) in
    subst Y all (g.stands (nodes.arguments no_args ∷ items) (base items) (refl, refl)) in
    let framed : (items : List nodes.Item) → ends items ≡ nodes.arguments (last_arguments (ends items)) ∷ items = λ items. untaken_framed env e.tables (reverse shapes) (ends items) e.pieces (base items) (there items) in
    record {
      grown = g.grown;
      framed = framed;
      stands = λ items.
          let args = last_arguments (ends items) in
          let I : List nodes.Item → Type 0 = λ (l : List nodes.Item). Stands env e.tables (with_shapes (reverse shapes) (item.Unlisted ∷ [])) l e.pieces (base items) in
          let S : List Shape → Type 0 = λ (l : List Shape). ShapesPassed env l (givens env args) e.pieces d.pieces in
          subst S (turned (reverse shapes) ∙ reverse-reverse shapes) (shapes_passed env e.tables (reverse shapes) args items e.pieces (base items) (subst I (framed items) (there items)));
    }

-- ---- what is marked

abbrev pub mark_of : (rule : ℕ) → Place → (values : ℕ) → Node
mark_of rule place values = node_of (broken_ending rule place (Plain Variant) values).kind place (broken_ending rule place (Plain Variant) values).of

behind_made : (values made : List bound.Expr) → exprs_of (values ++ made) ≡ behind_values values (exprs_of made)
behind_made [] made = refl
behind_made (v ∷ values) made = ap (λ (es : Exprs). also v es) (behind_made values made)

pub mark_fits : (t : Tables) (rule : ℕ) (place : Place) (count : ℕ) (all : List bound.Expr) (ps : List Piece) → count ≡ length all → ps ≡ above (map an_expr all) [] → action_of t action.Evaluate (put t (mark_of rule place count) ps) ≡ Some (evaluate (broken_rule rule place (exprs_of all)))
mark_fits t rule place count all ps long on_top =
    ap (λ (k : ℕ). action_of t action.Evaluate (put t (mark_of rule place k) ps)) long ∙ ap (λ (st : List Piece). action_of t action.Evaluate (put t (mark_of rule place (length all)) st)) on_top
    ∙ ap (λ o. action_of t action.Evaluate (of_found (λ (es : Exprs). expr_of (mark_of rule place (length all)) (marked (record { rule = rule; place = place }) es)) o)) (exprs_are all [])

one_marked : (rule : ℕ) (place : Place) (t : Tables) (value : bound.Expr) (ps : List Piece) → ps ≡ an_expr value ∷ [] → action_of t action.Evaluate (put t (mark_of rule place 1) ps) ≡ Some (broken_target rule place value no_exprs)
one_marked rule place t value ps alone = ap (λ (st : List Piece). action_of t action.Evaluate (put t (mark_of rule place 1) st)) alone

pub target_refused : (x : Term) (place : Place) (d e : Drafted) → NoRoutine x → e ≡ record d { pieces = put d.tables (mark_of 27 place 1) d.pieces } → RefusesTarget x place d e action.Evaluate
target_refused x place d e other eq =
    let P : Drafted → Type 0 = λ (z : Drafted). RefusesTarget x place d z action.Evaluate in
    subst P (sym eq) (record {
      grown = grown_pieces d (put d.tables (mark_of 27 place 1) d.pieces);
      named = tt;
      does = λ env y value h parts.
          let p = parts other in
          one_marked 27 place d.tables value d.pieces p.0 ∙ ap (λ (es : Exprs). Some (broken_target 27 place value es)) (sym p.1);
    })

routine_object : (base : Option bound.Expr) (space : Space) (number : ℕ) (w : Written) → sub_object (routine_term base space number w) ≡ behind_base base no_exprs
routine_object None space number w = refl
routine_object (Some b) space number w = refl

pub routine_refused : (x : Term) (r : Routine) (place : Place) (d e : Drafted) (kind : ActionKind) → x ≡ term.Routine r → BreaksProcedure r.receiver 27 place d e kind → RefusesTarget x place d e kind
routine_refused x r place d e kind is b = record {
  grown = b.grown;
  named = b.named;
  does = λ env y value h parts.
      let T : Term → Type 0 = λ (q : Term). TermStands env d.tables q y d.pieces (an_expr value ∷ []) in
      let s : RoutineStands env r y d.pieces (an_expr value ∷ []) = subst T is h in
      let q = s.routine in
      b.does value q.base q.received s.pushed ∙ ap (λ (es : Exprs). Some (broken_target 27 place value es)) (sym (ap sub_object q.is ∙ routine_object q.base q.space q.number q.written));
}

-- what a procedure is called of, and the value below it
abbrev object_values : Option bound.Expr → List bound.Expr
object_values None = []
object_values (Some base) = base ∷ []

object_long : (r : Receiver) (base : Option bound.Expr) → IsReceiver r base → values_of r ≡ length (object_values base)
object_long receiver.Module None i = refl
object_long receiver.Module (Some base) i = absurd i
object_long (receiver.Own of) None i = absurd i
object_long (receiver.Own of) (Some base) i = refl
object_long (receiver.Pushed of) None i = absurd i
object_long (receiver.Pushed of) (Some base) i = refl

object_top : (base : Option bound.Expr) (value : bound.Expr) (ps : List Piece) → BaseThere base ps (an_expr value ∷ []) → ps ≡ above (map an_expr (value ∷ object_values base)) []
object_top None value ps h = h
object_top (Some base) value ps h = h

object_behind : (base : Option bound.Expr) (value : bound.Expr) (es : Exprs) → also value (behind_base base es) ≡ behind_values (value ∷ object_values base) es
object_behind None value es = refl
object_behind (Some base) value es = refl

object_exprs : (base : Option bound.Expr) (value : bound.Expr) → exprs_of (value ∷ object_values base) ≡ also value (behind_base base no_exprs)
object_exprs None value = refl
object_exprs (Some base) value = refl

-- what can't be assigned to, with what it is called of
pub breaks_procedure : (r : Receiver) (rule : ℕ) (place : Place) (values : ℕ) (d m e : Drafted) → PushesObject r d m → values ≡ values_of r + 1 → e ≡ record m { pieces = put m.tables (mark_of rule place values) m.pieces } → BreaksProcedure r rule place d e action.Evaluate
breaks_procedure r rule place values d m e p counted eq =
    let P : Drafted → Type 0 = λ (z : Drafted). BreaksProcedure r rule place d z action.Evaluate in
    subst P (sym eq) (record {
      grown = grown_twice d m (record m { pieces = put m.tables (mark_of rule place values) m.pieces }) p.grown (grown_pieces m (put m.tables (mark_of rule place values) m.pieces));
      named = tt;
      does = λ value base received there.
          let all = value ∷ object_values base in
          let long : values ≡ length all = omega (arith, counted, object_long r base received) in
          mark_fits m.tables rule place values all m.pieces long (object_top base value m.pieces (p.there base (an_expr value ∷ []) received there)) ∙ ap (λ (es : Exprs). Some (evaluate (broken_rule rule place es))) (object_exprs base value);
    })

pub untaken_is : (env : Env) (parameters : List Parameter) (gs : List Given) (es : Exprs) → takes parameters gs ≡ false → variant_arguments env gs ≡ Some es → untaken env parameters gs ≡ Some es
untaken_is env parameters gs es none h = ap (λ (b : Bool). if b then None else variant_arguments env gs) none ∙ h

pub arguments_refused : (env : Env) (parameters : List Parameter) (before count values : ℕ) (place : Place) (ns : List ExpressionNode) (ss : List Shape) (d m e : Drafted) → ReadsUntaken env ns d m ss → takes parameters (shapes_given ss) ≡ false
    → count ≡ length ss → values ≡ count + before → e ≡ record m { pieces = put m.tables (mark_of 25 place values) m.pieces } → RefusesArguments env parameters before place ns d e action.Evaluate
arguments_refused env parameters before count values place ns ss d m e r none counted all eq =
    let P : Drafted → Type 0 = λ (z : Drafted). RefusesArguments env parameters before place ns d z action.Evaluate in
    subst P (sym eq) (record {
      grown = grown_twice d m (record m { pieces = put m.tables (mark_of 25 place values) m.pieces }) r.grown (grown_pieces m (put m.tables (mark_of 25 place values) m.pieces));
      named = tt;
      framed = r.framed;
      does = λ items vs long there.
          let gs = givens env (args_on items ns) in
          let s = r.stands items in
          let xs = vs ++ s.made in
          let same : values ≡ length xs = omega (arith, counted, all, long, shaped_long ss gs s.shaped, given_long (argument_of env type.variant) gs s.made s.values, length-append vs s.made) in
          let top : m.pieces ≡ above (map an_expr xs) [] =
          s.on_top ∙ ap (λ (l : List Piece). above (map an_expr s.made) l) there ∙ sym (above_both (map an_expr vs) (map an_expr s.made) []) ∙ ap (λ (l : List Piece). above l []) (sym (map-append an_expr vs s.made)) in
          record {
            made = exprs_of s.made;
            untaken_is = untaken_is env parameters gs (exprs_of s.made) (sym (takes_shaped parameters ss gs s.shaped) ∙ none) (given_listed (argument_of env type.variant) gs s.made s.values);
            fits = mark_fits m.tables 25 place values xs m.pieces same top ∙ ap (λ (es : Exprs). Some (evaluate (broken_rule 25 place es))) (behind_made vs s.made);
          };
    })

-- ---- statements

not_taken : (env : Env) (parameters : List Parameter) (gs : List Given) (es : Exprs) → untaken env parameters gs ≡ Some es → takes parameters gs ≡ false
not_taken env parameters gs es h = by_taken (takes parameters gs) h
  where
    by_taken : (b : Bool) → (if b then None else variant_arguments env gs) ≡ Some es → b ≡ false
    by_taken true k = let e : None ≡ Some es = k in absurd cc
    by_taken false k = refl

pub none_bound : (env : Env) (parameters : List Parameter) (gs : List Given) (es : Exprs) → untaken env parameters gs ≡ Some es → bound_arguments (argument_of env) parameters gs ≡ None
none_bound env parameters gs es h = refused (argument_of env) parameters gs (not_taken env parameters gs es h)

pub raise_refused : (env : Env) (place : Place) (parameters : List Parameter) (ns : List ExpressionNode) (d e : Drafted) (kind : ActionKind) → parameters ≡ raise_parameters → RefusesArguments env parameters 0 place ns d e kind
    → ActsOn env term.ErrRaise place ns d e kind
raise_refused env place parameters ns d e kind is h =
    let P : List Parameter → Type 0 = λ (ps : List Parameter). RefusesArguments env ps 0 place ns d e kind in
    let r = subst P is h in
    record {
      framed = r.framed;
      acts = λ items.
          let gs = givens env (args_on items ns) in
          record {
            grown = r.grown;
            named = r.named;
            stands = λ y k.
                let u = r.does items [] refl k.1 in
                let other = λ (o : Option bound.Args). or_else (option_map to.raise o) (option_map (λ (es : Exprs). evaluate (broken_rule 25 place es)) (untaken env raise_parameters gs)) in
                record {
                  made = evaluate (broken_rule 25 place u.made);
                  is = ap (λ (t : plain.Term). called_term env place t gs) k.0 ∙ ap other (none_bound env raise_parameters gs u.made u.untaken_is)
                      ∙ ap (λ (o : Option Exprs). option_map (λ (es : Exprs). evaluate (broken_rule 25 place es)) o) u.untaken_is;
                  fits = u.fits;
                };
          };
    }

-- a property that doesn't take its arguments
pub let_refused : (env : Env) (place : Place) (parameters : List Parameter) (p : PropertyLet) (before : ℕ) (ns : List ExpressionNode) (d m e : Drafted) (kind : ActionKind) → PushesObject p.receiver d m → before ≡ values_of p.receiver + 1
    → RefusesArguments env parameters before place ns m e kind → LetsWith env place parameters p ns d e kind
let_refused env place parameters p before ns d m e kind pushed counted r = record {
  grown = grown_twice d m e pushed.grown r.grown;
  named = r.named;
  framed = r.framed;
  stands = λ items value base received there.
      let of = declared_view p.of in
      let gs = givens env (args_on items ns) in
      let vs = value ∷ object_values base in
      let long : before ≡ length vs = omega (arith, counted, object_long p.receiver base received) in
      let u = r.does items vs (sym long) (object_top base value m.pieces (pushed.there base (an_expr value ∷ []) received there)) in
      let broken : Option Exprs → Option Action = λ (o : Option Exprs). option_map (λ (es : Exprs). broken_target 25 place value (behind_base base es)) o in
      record {
        made = broken_target 25 place value (behind_base base u.made);
        is = ap (λ (o : Option bound.Args). or_else (option_map (λ (args : bound.Args). property_given p.is_itself base p.procedure args value of) o) (broken (untaken env parameters gs))) (none_bound env parameters gs u.made u.untaken_is)
            ∙ ap broken u.untaken_is;
        fits = u.fits ∙ ap (λ (es : Exprs). Some (evaluate (broken_rule 25 place es))) (sym (object_behind base value u.made));
      };
}

-- what a procedure gives that is called without arguments is set
pub routine_set : (word place : Place) (r : Routine) (d m e : Drafted) (ending : Ending) (kind : ActionKind) → CallsAt r place d m ending → SetsTerm word place (term.Value ending) m e kind → SetsRoutine word place r d e kind
routine_set word place r d m e ending kind c s = record {
  grown = grown_twice d m e c.grown s.grown;
  named = s.named;
  stands = λ env y value k. s.stands env (alone env place y) value (c.stands env y (an_expr value ∷ []) k).called;
}

-- a property without a Set
pub sets_property : (word place : Place) (r : Receiver) (of : DeclaredType) (rule : ℕ) (at : Place) (may : Bool) (d e : Drafted) (kind : ActionKind) → may ≡ may_refer (declared_view of) → rule ≡ (if may then 27 else 28) → at ≡ (if may then place else word)
    → BreaksProcedure r rule at d e kind → SetsProperty word place r of d e kind
sets_property word place r of rule at may d e kind is rule_is at_is b = record {
  grown = b.grown;
  named = b.named;
  does = λ value base received there.
      let es = behind_base base no_exprs in
      b.does value base received there ∙ ap (λ (n : ℕ). Some (broken_target n at value es)) rule_is ∙ ap (λ (p : Place). Some (broken_target (if may then 27 else 28) p value es)) at_is ∙ by_may may value es ∙ ap (λ (c : Bool). Some (if c then broken_target 27 place value es else no_reference word (also value es))) is;
}
  where
    by_may : (b : Bool) (value : bound.Expr) (es : Exprs) → ◌≡◌ {A = Option Action} (Some (broken_target (if b then 27 else 28) (if b then place else word) value es)) (Some (if b then broken_target 27 place value es else no_reference word (also value es)))
    by_may true value es = refl
    by_may false value es = refl
