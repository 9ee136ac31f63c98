-- Calls of which the last arguments have names, and that stand as statements.
use Rattle.std.proofs.Common.{◌≡◌, ℕ, zero, suc, List, [], ◌∷◌, map, refl, sym, ap, subst, ◌∙◌}
use Rattle.vba_base.specs.declared.place.Place.{Place}
use Rattle.vba_expression.specs.Tree.{Args, missing, no_args}
use Rattle.vba_expression.specs.Tree as tree
use Rattle.vba_expression.specs.Nodes as nodes
use Rattle.vba_expression.specs.Nodes.{behind_nodes, last_arguments}
use Rattle.vba_expression.specs.declared.node.ExpressionNode.{ExpressionNode}
use Rattle.vba_expression.specs.declared.node.ExpressionNode.TheVariants as node
use Rattle.bound_project.specs.declared.declarations.Parameter.{Parameter}
use Rattle.bound_project.specs.declared.statement.ActionKind.TheVariants as action
use Rattle.bound_project.specs.Statements.{evaluate}
use Rattle.bound_project.specs.Bodies.{action_of}
use Rattle.bound_project.specs.View.{parameter_view}
use Rattle.bound_project.specs.Pieces.{Piece, Tables}
use Rattle.bound_project.specs.Project as project
use Rattle.bound_project.specs.Drafts.{Drafted}
use Rattle.bound_terms.specs.bound_accesses.specs.bound_names.specs.bound_members.specs.bound_calls.specs.bound_forms.specs.Terms.{Env, Given}
use Rattle.bound_terms.specs.bound_accesses.specs.bound_names.specs.bound_members.specs.bound_calls.specs.bound_forms.specs.ExpressionsBound.{givens, indexed}
use Rattle.bound_terms.specs.bound_accesses.specs.bound_names.specs.bound_members.specs.bound_calls.specs.declared.term.Ending.{Ending}
use Rattle.bound_terms.specs.bound_accesses.specs.bound_names.specs.bound_members.specs.bound_calls.specs.declared.term.Item.{Item}
use Rattle.bound_terms.specs.bound_accesses.specs.bound_names.specs.bound_members.specs.bound_calls.specs.declared.term.Item.TheVariants as item
use Rattle.bound_terms.specs.bound_accesses.specs.bound_names.specs.bound_members.specs.bound_calls.specs.declared.term.Term.TheVariants as term
use Rattle.bound_terms.specs.bound_accesses.specs.bound_names.specs.bound_members.specs.bound_calls.specs.declared.term.Passed.{Passed}
use Rattle.bound_terms.specs.bound_accesses.specs.bound_names.specs.bound_members.specs.bound_calls.specs.declared.term.Routine.{Routine}
use Rattle.statement_terms.specs.Called.{ActsOn, args_on}
use Rattle.bound_terms.specs.bound_accesses.specs.bound_names.specs.bound_members.specs.bound_calls.specs.Calls.{PushesReceiver}
use Rattle.bound_terms.specs.bound_accesses.specs.bound_names.specs.bound_members.specs.bound_calls.specs.Steps.{Goes}
use Rattle.bound_terms.specs.bound_accesses.specs.bound_names.specs.bound_members.specs.bound_calls.specs.InOrder.{with_named}
use Rattle.statement_terms.specs.NamedCalls.{PushesValues, ReadsNamed, ValuesPassed}
use Rattle.bound_actions.specs.NamedCalls.{ReadsWritten}
use Rattle.bound_terms.specs.bound_accesses.specs.bound_names.specs.bound_members.specs.bound_calls.specs.Standing.{Base, PassedStands, Stands, ValueStands}
use Rattle.statement_terms.specs.Assigning.{GivenPushed}
use Rattle.bound_terms.specs.bound_accesses.specs.bound_names.specs.bound_members.specs.bound_calls.proofs.Growing.{grown_twice}
use Rattle.bound_terms.specs.bound_operands.specs.Gathering.{EndsGathered, with_gathered}
use Rattle.bound_terms.specs.bound_operands.proofs.ParamArrays.{called_gathered, gathering, ungathered}
use Rattle.statement_terms.proofs.Called.{routine_called}
use Rattle.statement_terms.proofs.NamedCalls.{named_arguments}

-- ---- the arguments of a statement

-- what is below the arguments
below_values : (env : Env) (t : Tables) (n : ℕ) (x : Passed) (args : Args) (is : List nodes.Item) (ps : List Piece) (base : Base) → Stands env t (with_gathered n (item.Listed x ∷ [])) (nodes.arguments args ∷ is) ps base → is ≡ base.items
below_values env t zero x args is ps base h = h.1.1.0
below_values env t (suc n) x no_args is ps base h = absurd h
below_values env t (suc n) x (missing before comma) is ps base h = below_values env t n x before is h.0 base h.1.1
below_values env t (suc n) x (tree.named before comma name sign e) is ps base h = absurd h
below_values env t (suc n) x (tree.plain before comma e) is ps base h = below_values env t n x before is h.0 base h.1.1

below_all : (env : Env) (t : Tables) (ks : List ℕ) (n : ℕ) (x : Passed) (args : Args) (is : List nodes.Item) (ps : List Piece) (base : Base) → Stands env t (with_named ks (with_gathered n (item.Listed x ∷ []))) (nodes.arguments args ∷ is) ps base
    → is ≡ base.items
below_all env t [] n x args is ps base h = below_values env t n x args is ps base h
below_all env t (k ∷ ks) n x no_args is ps base h = absurd h
below_all env t (k ∷ ks) n x (missing before comma) is ps base h = absurd h
below_all env t (k ∷ ks) n x (tree.plain before comma e) is ps base h = absurd h
below_all env t (k ∷ ks) n x (tree.named before comma name sign e) is ps base h = below_all env t ks n x before is h.0 base h.1.1

all_framed : (env : Env) (t : Tables) (ks : List ℕ) (n : ℕ) (x : Passed) (is : List nodes.Item) (ps : List Piece) (base : Base) → Stands env t (with_named ks (with_gathered n (item.Listed x ∷ []))) is ps base
    → is ≡ nodes.arguments (last_arguments is) ∷ base.items
all_framed env t [] zero x [] ps base h = absurd h
all_framed env t [] (suc n) x [] ps base h = absurd h
all_framed env t (k ∷ ks) n x [] ps base h = absurd h
all_framed env t [] zero x (nodes.tree e ∷ is) ps base h = absurd h
all_framed env t [] (suc n) x (nodes.tree e ∷ is) ps base h = absurd h
all_framed env t (k ∷ ks) n x (nodes.tree e ∷ is) ps base h = absurd h
all_framed env t ks n x (nodes.arguments args ∷ is) ps base h = ap (λ l. nodes.arguments args ∷ l) (below_all env t ks n x args is ps base h)

-- all nodes of arguments behind the first one were read
pub reads_written : (env : Env) (ns : List ExpressionNode) (parameters : List Parameter) (none x : Passed) (named : List ℕ) (values : ℕ) (ys mid low xs : List Item) (d e : Drafted) → none.left.now ≡ parameters → none.count ≡ 0
    → ys ≡ with_named named mid → mid ≡ with_gathered values low → low ≡ item.Listed x ∷ xs → xs ≡ [] → Goes env d (item.Listed none ∷ []) e ys (λ is. behind_nodes is ns)
    → ReadsWritten env (map parameter_view parameters) (node.NoArguments ∷ ns) d e x named values
reads_written env ns parameters none x named values ys mid low xs d e left count names gathered a b g =
    let all : ys ≡ with_named named (with_gathered values (item.Listed x ∷ [])) = names ∙ ap (λ l. with_named named l) (gathered ∙ ap (λ l. with_gathered values l) (a ∙ ap (λ l. item.Listed x ∷ l) b)) in
    let start : PassedStands env (map parameter_view parameters) none no_args d.pieces d.pieces = record { made = []; taken = ap (λ l. map parameter_view l) (sym left); count_is = count; on_top = refl } in
    let base : List nodes.Item → Base = λ items. record { pieces = d.pieces; parameters = map parameter_view parameters; items = items } in
    let A : List nodes.Item → List Item → Type 0 = λ items l. Stands env e.tables l (behind_nodes (nodes.arguments no_args ∷ items) ns) e.pieces (base items) in
    let end : (items : List nodes.Item) → A items (with_named named (with_gathered values (item.Listed x ∷ []))) = λ items. subst (A items) all (g.stands (nodes.arguments no_args ∷ items) (base items) (d.pieces, (start, (refl, refl)))) in
    let frame : (items : List nodes.Item) → behind_nodes (nodes.arguments no_args ∷ items) ns ≡ nodes.arguments (last_arguments (behind_nodes (nodes.arguments no_args ∷ items) ns)) ∷ items =
    λ items. all_framed env e.tables named values x (behind_nodes (nodes.arguments no_args ∷ items) ns) e.pieces (base items) (end items) in
    let B : List nodes.Item → List nodes.Item → Type 0 = λ items l. Stands env e.tables (with_named named (with_gathered values (item.Listed x ∷ []))) l e.pieces (base items) in
    record { grown = g.grown; framed = frame; stands = λ items. subst (B items) (frame items) (end items) }

pub reads_named : (env : Env) (ns : List ExpressionNode) (parameters : List project.Parameter) (x : Passed) (named : List ℕ) (values : ℕ) (d e : Drafted) → values ≡ 0 → ReadsWritten env parameters ns d e x named values
    → ReadsNamed env parameters ns d e x named
reads_named env ns parameters x named values d e none h =
    let base : List nodes.Item → Base = λ items. record { pieces = d.pieces; parameters = parameters; items = items } in
    let A : List nodes.Item → ℕ → Type 0 = λ items n. Stands env e.tables (with_named named (with_gathered n (item.Listed x ∷ []))) (nodes.arguments (args_on items ns) ∷ items) e.pieces (base items) in
    record { grown = h.grown; framed = h.framed; stands = λ items. named_arguments env e.tables named x (args_on items ns) items e.pieces (base items) (subst (A items) none (h.stands items)) }

-- the last ones are values for a ParamArray
pub some_values : (env : Env) (t : Tables) (n : ℕ) (x : Passed) (args : Args) (is : List nodes.Item) (ps : List Piece) (base : Base) → (n ≡ 0 → ⊥) → Stands env t (with_gathered n (item.Listed x ∷ [])) (nodes.arguments args ∷ is) ps base
    → ValuesPassed env base.parameters x n args ps base.pieces
some_values env t zero x args is ps base some h = absurd (some refl)
some_values env t (suc n) x args is ps base some h =
    let u = ungathered env t (suc n) (item.Listed x) [] x args is ps base refl h in
    let A : List Piece → Type 0 = λ l. PassedStands env base.parameters x u.before u.between l in
    record {
      before = u.before;
      given = u.given;
      givens_are = u.givens_are;
      many = gathering env t n (item.Listed x) [] x args is ps base refl h;
      made = u.made;
      taken = u.values;
      count_is = u.count_is;
      between = u.between;
      on_top = u.on_top;
      passed = subst A u.stands.1.1.1 u.stands.1.0;
    }

pub pushes_values : (r : Routine) (x : Passed) (values : ℕ) (place : Place) (d d1 e : Drafted) (ending : Ending) → (values ≡ 0 → ⊥) → EndsGathered r x values d d1 ending → GivenPushed (term.Value ending) place d1 e → PushesValues r x values place d e
pushes_values r x values place d d1 e ending some h p = record {
  grown = grown_twice d d1 e h.passes.grown p.grown;
  stands = λ env y args there below s on t.
      let A : List Given → Type 0 = λ l. ValueStands d1.tables ending (indexed env place y l) d1.pieces below in
      p.stands env (indexed env place y (givens env args)) below
      (subst A (sym t.givens_are) (called_gathered env r x values d d1 ending y place (givens env t.before) t.passed.made t.given t.made t.between there below t.many t.count_is some h s on t.passed.taken t.passed.count_is t.taken t.on_top t.passed.on_top));
}

pub acts_values : (env : Env) (r : Routine) (x : Passed) (named : List ℕ) (values : ℕ) (place : Place) (ns : List ExpressionNode) (d r0 d1 e : Drafted) → PushesReceiver r.receiver d r0 → named ≡ [] → (values ≡ 0 → ⊥)
    → ReadsWritten env (map parameter_view r.parameters.now) ns r0 d1 x named values → PushesValues r x values place d1 e → ActsOn env (term.Routine r) place ns d e action.Evaluate
acts_values env r x named values place ns d r0 d1 e pushed none some a p = record {
  framed = a.framed;
  acts = λ items.
      let args = args_on items ns in
      let base : Base = record { pieces = r0.pieces; parameters = map parameter_view r.parameters.now; items = items } in
      let N : List ℕ → Type 0 = λ l. Stands env d1.tables (with_named l (with_gathered values (item.Listed x ∷ []))) (nodes.arguments args ∷ items) d1.pieces base in
      let v : ValuesPassed env (map parameter_view r.parameters.now) x values args d1.pieces r0.pieces = some_values env d1.tables values x args items d1.pieces base some (subst N none (a.stands items)) in
      record {
        grown = grown_twice d r0 e pushed.grown (grown_twice r0 d1 e a.grown p.grown);
        named = tt;
        stands = λ y h.
            let s = h.routine in
            let m = p.stands env y args r0.pieces [] s (pushed.there s.base [] s.received h.pushed) v in
            record { made = evaluate m.made; is = routine_called env place y s.base s.space s.number s.written (givens env args) m.made s.is m.is; fits = ap (λ ps. action_of e.tables action.Evaluate ps) m.on_top };
      };
}
