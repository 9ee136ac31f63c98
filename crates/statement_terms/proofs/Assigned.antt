-- What the value of an assignment goes to.
use Rattle.std.proofs.Common.{◌≡◌, ℕ, Bool, true, false, List, [], ◌∷◌, ◌++◌, map, length, Option, Some, None, is_some, if◌then◌else◌, refl, sym, ap, subst, ◌∙◌}
use Rattle.std.specs.Prelude.{◌||◌, option_and_then, option_map, slice_get}
use Rattle.vba_base.specs.declared.place.Place.{Place}
use Rattle.vba_lexer.specs.declared.token.Token.{Token}
use Rattle.bound_project.specs.Project as project
use Rattle.vba_expression.specs.Tree.{Expr, index, Args}
use Rattle.vba_expression.specs.Nodes as nodes
use Rattle.vba_expression.specs.Nodes.{behind_node, behind_nodes, last_arguments, last_tree, tree_in}
use Rattle.vba_expression.specs.declared.node.ExpressionNode.{ExpressionNode}
use Rattle.vba_expression.specs.declared.node.ExpressionNode.TheVariants as node
use Rattle.bound_project.specs.declared.declared_type.DeclaredType.{DeclaredType}
use Rattle.bound_project.specs.declared.declared_type.DeclaredType.TheVariants.{Plain}
use Rattle.bound_project.specs.declared.declared_type.ElementType.TheVariants.{Variant}
use Rattle.vba_values.specs.Types.{Declared}
use Rattle.bound_project.specs.declared.statement.ActionKind.TheVariants as action
use Rattle.bound_project.specs.declared.declarations.Parameter.{Parameter}
use Rattle.bound_project.specs.declared.statement.ActionKind.{ActionKind}
use Rattle.bound_project.specs.Expressions.{no_exprs}
use Rattle.bound_project.specs.Expressions as bound
use Rattle.bound_project.specs.Statements as to
use Rattle.bound_project.specs.Bodies.{action_of, behind_object, behind_value}
use Rattle.bound_project.specs.View.{declared_view, parameter_view}
use Rattle.bound_project.specs.Lists.{above, args_of}
use Rattle.bound_project.proofs.Lists.{args_are}
use Rattle.bound_project.specs.Pieces.{Piece, Tables, an_argument, an_expr, an_object, put}
use Rattle.bound_project.specs.Drafts.{Drafted, ActionNamed}
use Rattle.bound_members.specs.bound_calls.specs.bound_declarations.specs.constant_values.specs.declared_names.specs.binder.specs.Options.{or_else}
use Rattle.bound_members.specs.bound_calls.specs.bound_declarations.specs.constant_values.specs.declared_names.specs.binder.specs.Declarations.{Written}
use Rattle.bound_members.specs.bound_calls.specs.bound_declarations.specs.constant_values.specs.declared_names.specs.binder.specs.Scopes.{Space}
use Rattle.bound_members.specs.bound_calls.specs.bound_forms.specs.Terms.{Env, Given, a_value, broken_rule, routine_term}
use Rattle.bound_members.specs.bound_calls.specs.bound_forms.specs.Terms as plain
use Rattle.bound_members.specs.bound_calls.specs.bound_forms.specs.Operands.{alone, argument_of, place_told, behind_base}
use Rattle.bound_members.specs.bound_calls.specs.bound_forms.specs.Members.{item_of}
use Rattle.bound_members.specs.bound_calls.specs.bound_forms.specs.ExpressionsBound.{givens, term_of}
use Rattle.bound_members.specs.bound_calls.specs.bound_forms.specs.Targets.{assigned, assigned_to, broken_target, index_assigned, is_given_with, is_indexed_late, is_no_target, sub_object, takes_value, target_before, target_of_call, untaken, value_given, value_written, written_to, property_given}
use Rattle.bound_members.specs.bound_calls.specs.bound_declarations.specs.constant_values.specs.declared_names.specs.View.{space_view}
use Rattle.statement_terms.specs.declared.trees.Split.{Split}
use Rattle.bound_members.specs.bound_calls.specs.declared.term.Function.{Function}
use Rattle.bound_members.specs.bound_calls.specs.declared.term.Ending.{Ending}
use Rattle.bound_members.specs.bound_calls.specs.declared.term.Term.{Term}
use Rattle.bound_members.specs.bound_calls.specs.declared.term.Term.TheVariants as term
use Rattle.bound_members.specs.bound_calls.specs.declared.term.Routine.{Routine}
use Rattle.bound_members.specs.bound_calls.specs.declared.term.Tree.{Tree}
use Rattle.bound_members.specs.bound_calls.specs.Standing.{FunctionIs, PropertyStands, RoutineStands, TermStands, TreeStands, IsReceiver, ReceiverThere}
use Rattle.bound_members.specs.bound_calls.specs.Taking.{StandsAlone, broken_ending}
use Rattle.bound_members.specs.bound_calls.specs.Steps.{Leaves}
use Rattle.statement_nodes.specs.Pushed.{ActionStands}
use Rattle.statement_terms.specs.Assigning.{ValueFor}
use Rattle.statement_terms.specs.Members.{AssignsIn, AssignsTree, is_err_term}
use Rattle.bound_members.specs.bound_calls.specs.Calls.{PassesRest, node_of}
use Rattle.statement_terms.specs.Called.{ActionIs, AllPassed, AssignsTo, IsBare, LetMade, SplitAt, let_with, property_kind, is_method}
use Rattle.statement_terms.specs.Heights.{AddsOne}
use Rattle.bound_members.specs.bound_calls.proofs.Growing.{grown_pieces, grown_twice}
use Rattle.bound_members.specs.bound_calls.proofs.Arguing.{left_long}
use Rattle.bound_members.specs.bound_calls.proofs.CallSteps.{parameters_long, routine_item}
use Rattle.bound_members.specs.bound_calls.proofs.Passing.{arguments_bound}
use Rattle.statement_terms.proofs.NodeTrees.{behind_both, behind_push}
use Rattle.bound_members.specs.bound_calls.specs.bound_declarations.specs.constant_values.specs.declared_names.specs.binder.specs.Classes.{has_class}
use Rattle.bound_members.specs.bound_calls.specs.declared.term.Receiver.{Receiver}
use Rattle.bound_members.specs.bound_calls.specs.declared.term.Receiver.TheVariants as receiver

-- ---- properties that are assigned to

-- no arguments are written
pub passes_front : (env : Env) (front : List Parameter) (d e : Drafted) (all : ℕ) → PassesRest front d e → all ≡ length front → AllPassed env (map parameter_view front) [] 0 all e.pieces d.pieces
passes_front env front d e all h a = record {
  made = h.made;
  bound = arguments_bound (argument_of env) (map parameter_view front) [] [] (map parameter_view front) h.made refl h.left;
  all_is = a ∙ sym (left_long (map parameter_view front) h.made h.left ∙ parameters_long front);
  written_is = refl;
  no_names = refl;
  on_top = h.on_top;
}

-- what is given to a property, or to one of an object
let_fits : (of_object itself : Bool) (base : Option bound.Expr) (env : Env) (parameters : List project.Parameter) (gs : List Given) (written all procedure : ℕ) (of : DeclaredType) (t : Tables) (ps below : List Piece) (value : bound.Expr)
    → is_some base ≡ of_object → ReceiverThere base below (an_expr value ∷ []) → (h : AllPassed env parameters gs written all ps below)
    → action_of t (property_kind of_object itself procedure all of) ps ≡ Some (property_given itself base procedure (args_of h.made) value (declared_view of))
let_fits of_object itself base env parameters gs written all procedure of t ps below value same there h =
    ap (λ st. action_of t (property_kind of_object itself procedure all of) st) h.on_top
    ∙ ap (λ n. action_of t (property_kind of_object itself procedure n of) (above (map an_argument h.made) below)) h.all_is ∙ by of_object itself base same there
  where
    P : Bool → Bool → Option bound.Expr → List Piece → Type 0
    P m i o st = action_of t (property_kind m i procedure (length h.made) of) (above (map an_argument h.made) st) ≡ Some (property_given i o procedure (args_of h.made) value (declared_view of))

    by : (m i : Bool) (o : Option bound.Expr) → is_some o ≡ m → ReceiverThere o below (an_expr value ∷ []) → P m i o below
    by false false None s k = subst (P false false None) (sym k) (ap (λ o. behind_value o (λ args e. to.let_property procedure args e (declared_view of))) (args_are h.made (an_expr value ∷ [])))
    by false true None s k = subst (P false true None) (sym k) (ap (λ o. behind_value o (λ args e. to.set_property procedure args e (declared_view of))) (args_are h.made (an_expr value ∷ [])))
    by true i None s k = let z : false ≡ true = s in absurd cc
    by false i (Some e) s k = let z : true ≡ false = s in absurd cc
    by true false (Some b) s k =
        subst (P true false (Some b)) (sym k) (ap (λ o. behind_object o (λ base args e. to.let_method base procedure args e (declared_view of))) (args_are h.made (an_object b ∷ an_expr value ∷ [])))
    by true true (Some b) s k =
        subst (P true true (Some b)) (sym k) (ap (λ o. behind_object o (λ base args e. to.set_method base procedure args e (declared_view of))) (args_are h.made (an_object b ∷ an_expr value ∷ [])))

pub let_made : (of_object itself : Bool) (base : Option bound.Expr) (env : Env) (parameters : List project.Parameter) (gs : List Given) (written all procedure : ℕ) (of : DeclaredType) (t : Tables) (ps below : List Piece) (value : bound.Expr)
    → AllPassed env parameters gs written all ps below → is_some base ≡ of_object → ReceiverThere base below (an_expr value ∷ []) → LetMade env parameters itself base procedure of gs value (property_kind of_object itself procedure all of) t ps
let_made of_object itself base env parameters gs written all procedure of t ps below value h same there =
    record { args = args_of h.made; bound_is = h.bound; fits = let_fits of_object itself base env parameters gs written all procedure of t ps below value same there h }

-- what was pushed is what is done
pub let_done : (itself : Bool) (base : Option bound.Expr) (env : Env) (place : Place) (parameters : List project.Parameter) (procedure : ℕ) (of : DeclaredType) (gs : List Given) (value : bound.Expr) (kind : ActionKind) (t : Tables) (ps : List Piece)
    → LetMade env parameters itself base procedure of gs value kind t ps → ActionIs kind (let_with env place itself base parameters procedure (declared_view of) gs value) t ps
let_done itself base env place parameters procedure of gs value kind t ps m =
    let other = option_map (λ es. broken_target 25 place value (behind_base base es)) (untaken env parameters gs) in
    record {
      made = property_given itself base procedure m.args value (declared_view of);
      is = ap (λ o. or_else (option_map (λ args. property_given itself base procedure args value (declared_view of)) o) other) m.bound_is;
      fits = m.fits;
    }

pub property_named : (of_object itself : Bool) (t : Tables) (procedure all : ℕ) (of : DeclaredType) → ActionNamed t (property_kind of_object itself procedure all of)
property_named false false t procedure all of = tt
property_named false true t procedure all of = tt
property_named true false t procedure all of = tt
property_named true true t procedure all of = tt

-- what has a receiver is a property of an object
pub base_there : (r : Receiver) (base : Option bound.Expr) → IsReceiver r base → is_some base ≡ is_method r
base_there receiver.Module None h = refl
base_there (receiver.Own of) (Some base) h = refl
base_there (receiver.Pushed of) (Some base) h = refl
base_there receiver.Module (Some base) h = absurd h
base_there (receiver.Own of) None h = absurd h
base_there (receiver.Pushed of) None h = absurd h

-- ---- assignments

pub a_target : (env : Env) (place : Expr) (value : bound.Expr) → is_no_target env place ≡ false → assigned_to env place value ≡ written_to env place value
a_target env place value h = ap (λ (b : Bool). if b then Some (broken_target 27 (place_told place) value (sub_object (target_of_call env place))) else written_to env place value) h

bare_written : (env : Env) (place : Expr) (value : bound.Expr) → IsBare place → written_to env place value ≡ assigned env (place_told place) value [] (term_of env place)
bare_written env (index base left args right) value h = absurd h
bare_written env e value h = refl

pub bare_assigned : (env : Env) (place : Expr) (value : bound.Expr) → IsBare place → is_no_target env place ≡ false → assigned_to env place value ≡ assigned env (place_told place) value [] (term_of env place)
bare_assigned env place value bare target = a_target env place value target ∙ bare_written env place value bare

pub bare_given : (env : Env) (place : Expr) → IsBare place → is_given_with env place ≡ takes_value env (term_of env place)
bare_given env (index base left args right) h = absurd h
bare_given env e h = refl

-- to a property without arguments
pub property_of : (env : Env) (r : Routine) (y : plain.Term) (ps below : List Piece) → RoutineStands env r y ps below → PropertyStands env (record { receiver = r.receiver; space = r.space; written = r.written }) y ps below
property_of env r y ps below s =
    let x = s.routine in
    let P : Space → Type 0 = λ q. slice_get env.scope.spaces q.number ≡ Some q in
    record {
      base = x.base;
      number = x.number;
      is = x.is ∙ ap (λ q. routine_term x.base q x.number x.written) x.space_is ∙ ap (λ q. routine_term x.base (space_view r.space.now) x.number q) x.written_is;
      received = x.received;
      placed = subst P x.space_is x.placed;
      pushed = s.pushed;
    }

-- to another expression that doesn't end with arguments
pub assigns_tree : (has : Bool) (may : Option Bool) (env : Env) (place : Expr) (x : Tree) (d f e : Drafted) (kind : ActionKind) (given : Bool) → has_class env.scope.spaces ≡ has → IsBare place → is_no_target env place ≡ false → Leaves env place d f x
    → AssignsTree has may x f e kind given → AssignsTo env may place d e kind given
assigns_tree has may env place x d f e kind given known bare target l a = record {
  grown = grown_twice d f e l.grown a.grown;
  named = a.named;
  takes = a.takes env place d.pieces bare l.stands;
  stands = λ value goes alone.
      let T : List Piece → Type 0 = λ ps. TreeStands env f.tables x place f.pieces ps in
      a.stands env known place value goes bare target (subst T alone l.stands);
}

-- to Err, and to what it does
pub err_assigned : (env : Env) (t : Tables) (x : Term) (place : Place) (value : bound.Expr) (z : plain.Term) (ps below : List Piece) → is_err_term x ≡ true → TermStands env t x z ps below
    → (takes_value env z ≡ false) × ((assigned env place value [] z ≡ Some (broken_target 27 place value no_exprs)) × (ps ≡ below))
err_assigned env t term.Err place value z ps below h k = (ap (λ (y : plain.Term). takes_value env y) k.0, (ap (λ (y : plain.Term). assigned env place value [] y) k.0, k.1))
err_assigned env t term.ErrRaise place value z ps below h k = (ap (λ (y : plain.Term). takes_value env y) k.0, (ap (λ (y : plain.Term). assigned env place value [] y) k.0, k.1))
err_assigned env t term.ErrClear place value z ps below h k = (ap (λ (y : plain.Term). takes_value env y) k.0, (ap (λ (y : plain.Term). assigned env place value [] y) k.0, k.1))
err_assigned env t x place value z ps below h k = let e : false ≡ true = h in absurd cc

pub err_refused : (all : project.Declarations) (has : Bool) (may : Option Bool) (x : Term) (place : Place) (d e : Drafted) → is_err_term x ≡ true
    → e ≡ record d { pieces = put d.tables (node_of (broken_ending 27 place (Plain Variant) 1).kind place (broken_ending 27 place (Plain Variant) 1).of) d.pieces } → AssignsIn all has may place x d e action.Evaluate false
err_refused all has may x place d e h eq =
    let n = node_of (broken_ending 27 place (Plain Variant) 1).kind place (broken_ending 27 place (Plain Variant) 1).of in
    let P : Drafted → Type 0 = λ (z : Drafted). AssignsIn all has may place x d z action.Evaluate false in
    let any : bound.Expr = broken_rule 27 place no_exprs in
    subst P (sym eq) (record {
      grown = grown_pieces d (put d.tables n d.pieces);
      named = tt;
      takes = λ env z ps below k. (err_assigned env d.tables x place any z ps below h k).0;
      stands = λ env known alike z value goes k.
          let s = err_assigned env d.tables x place value z d.pieces (an_expr value ∷ []) h k in
          record { made = broken_target 27 place value no_exprs; is = s.1.0; fits = ap (λ (ps : List Piece). action_of d.tables action.Evaluate (put d.tables n ps)) s.1.1 };
    })

-- to a function of the library by its name alone
alone_assigned : (env : Env) (place : Place) (value : bound.Expr) (z : plain.Term) (f : Function) (made : bound.Node) (of : Declared) → FunctionIs env f z → alone env place z ≡ a_value made of → assigned env place value [] z ≡ value_written env place value made of
alone_assigned env place value z f made of h is =
    let A : plain.Term → Type 0 = λ (y : plain.Term). alone env place y ≡ a_value made of → assigned env place value [] y ≡ value_written env place value made of in
    subst A (sym h.is) (λ k. rw k refl) is

pub function_assigned : (all : project.Declarations) (has : Bool) (may : Option Bool) (x : Term) (f : Function) (place : Place) (ending : Ending) (d m e : Drafted) (kind : ActionKind) → x ≡ term.Function f → StandsAlone (term.Function f) place d m (term.Value ending)
    → AssignsIn all has may place (term.Value ending) m e kind false → AssignsIn all has may place x d e kind false
function_assigned all has may x f place ending d m e kind same s a =
    let P : Term → Type 0 = λ (y : Term). AssignsIn all has may place y d e kind false in
    subst P (sym same) (record {
      grown = grown_twice d m e s.grown a.grown;
      named = a.named;
      takes = λ env z ps below k. ap (λ (y : plain.Term). takes_value env y) k.0.is;
      stands = λ env known alike z value goes k.
          let v = s.stands env z (an_expr value ∷ []) k in
          let r = a.stands env known alike (alone env place z) value goes v in
          record {
            made = r.made;
            is = alone_assigned env place value z f v.made (declared_view ending.of) k.0 v.is ∙ sym (ap (λ (y : plain.Term). assigned env place value [] y) v.is) ∙ r.is;
            fits = r.fits;
          };
    })

-- to a property with arguments
pub item_itself : (env : Env) (place : Place) (y : plain.Term) (base : Option bound.Expr) (space : Space) (number : ℕ) (p : Written) → y ≡ routine_term base space number p → item_of env place y ≡ y
item_itself env place y base space number p e = routine_item env place y base space number p e

pub split_given : (env : Env) (base : Expr) (left right : Token) (args : Args) → takes_value env (target_before env base (givens env args)) ≡ true → is_given_with env (index base left args right) ≡ true
split_given env base left right args h = let t = target_before env base (givens env args) in ap (λ (b : Bool). b || is_indexed_late env (place_told base) t) h

pub split_assigned : (env : Env) (base : Expr) (left right : Token) (args : Args) (value : bound.Expr) → is_no_target env (index base left args right) ≡ false → takes_value env (target_before env base (givens env args)) ≡ true
    → assigned_to env (index base left args right) value ≡ assigned env (place_told base) value (givens env args) (target_before env base (givens env args))
split_assigned env base left right args value target h =
    let t = target_before env base (givens env args) in
    a_target env (index base left args right) value target
    ∙ ap (λ (b : Bool). if b then assigned env (place_told base) value (givens env args) t else index_assigned env (place_told base) t (givens env args) value) h

-- to a member with arguments
pub all_is : (split : Split) (all : List ExpressionNode) (s : SplitAt split all) → behind_nodes [] split.target.now ≡ nodes.tree (tree_in split.target.now) ∷ []
    → tree_in all ≡ last_tree (behind_nodes (nodes.tree (tree_in split.target.now) ∷ []) (split.arguments.now ++ node.Index s.left s.right ∷ []))
all_is split all s alone =
    let base = nodes.tree (tree_in split.target.now) ∷ [] in
    ap tree_in s.is ∙ ap last_tree (behind_both [] split.target.now split.closed.now) ∙ ap (λ is. last_tree (behind_nodes is split.closed.now)) alone
    ∙ ap (λ (l : List ExpressionNode). last_tree (behind_nodes base l)) s.closed_is

-- arguments that are one more item
pub index_at : (split : Split) (all : List ExpressionNode) (s : SplitAt split all) → behind_nodes [] split.target.now ≡ nodes.tree (tree_in split.target.now) ∷ [] → AddsOne split.arguments.now
    → (args : Args) × (tree_in all ≡ index (tree_in split.target.now) s.left args s.right)
index_at split all s alone one =
    let base = nodes.tree (tree_in split.target.now) ∷ [] in (
      last_arguments (one.added ∷ base),
      all_is split all s alone ∙ ap last_tree (behind_push base split.arguments.now (node.Index s.left s.right)) ∙ ap (λ (l : List nodes.Item). last_tree (behind_node (node.Index s.left s.right) l)) (one.is base),
    )

pub action_assigned : (env : Env) (value place : Expr) (may : Option Bool) (d e g : Drafted) (kind : ActionKind) (given : Bool) → d.pieces ≡ [] → ValueFor env may (value_given env place value) d e → AssignsTo env may place e g kind given
    → ActionStands (Some kind) (option_and_then (assigned_to env place) (value_given env place value)) d g
action_assigned env value place may d e g kind given none b a =
    let made = b.pushed.made in
    let alone : e.pieces ≡ an_expr made ∷ [] = b.pushed.on_top ∙ ap (λ (ps : List Piece). an_expr made ∷ ps) none in
    let s = a.stands made b.known alone in
    let all = grown_twice d e g b.grown a.grown in
    record { statements = all.statements; bodies = all.bodies; named = a.named; made = s.made; is = ap (λ o. option_and_then (assigned_to env place) o) b.pushed.is ∙ s.is; fits = s.fits }

-- what an assignment says
pub done_is : (env : Env) (may : Option Bool) (place : Expr) (d e : Drafted) (kind k : ActionKind) (given g : Bool) → k ≡ kind → g ≡ given → AssignsTo env may place d e kind given → AssignsTo env may place d e k g
done_is env may place d e kind k given g same is a =
    let K : ActionKind → Type 0 = λ (x : ActionKind). AssignsTo env may place d e x given in
    let G : Bool → Type 0 = λ (b : Bool). AssignsTo env may place d e k b in
    subst G (sym is) (subst K (sym same) a)
