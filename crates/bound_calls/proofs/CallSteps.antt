-- What the nodes of a call do to the stack.
use Rattle.std.proofs.Common.{◌≡◌, Bor, T, ℕ, ◌+◌, List, [], ◌∷◌, ◌++◌, map, length, Option, Some, None, is_some, refl, sym, ap, subst, ◌∙◌, arith, length-append}
use Rattle.std.proofs.lemmas.List.{map-append}
use Rattle.std.specs.Prelude.{unwrap_or}
use Rattle.vba_base.specs.declared.place.Place.{Place}
use Rattle.vba_lexer.specs.declared.token.Token.{Token}
use Rattle.vba_words.specs.declared.identifier.Identifier.{Identifier}
use Rattle.vba_expression.specs.declared.node.ExpressionNode.TheVariants as node
use Rattle.vba_expression.specs.Tree.{Expr, index, name, Args, missing, plain}
use Rattle.vba_expression.specs.Reader.{name_in}
use Rattle.vba_expression.specs.Nodes as nodes
use Rattle.vba_expression.specs.Nodes.{behind_node}
use Rattle.bound_project.specs.declared.node.NodeKind.TheVariants as kind
use Rattle.bound_project.specs.declared.node.Node.{Node}
use Rattle.bound_project.specs.declared.declarations.Parameter.{Parameter}
use Rattle.bound_project.specs.declared.declarations.Declarations.{Declarations}
use Rattle.bound_project.specs.View.{declarations_view, declared_view, parameter_view}
use Rattle.bound_project.specs.Expressions as bound
use Rattle.bound_project.specs.Lists.{above, args_of}
use Rattle.bound_project.proofs.Lists.{args_are}
use Rattle.bound_project.specs.Pieces.{Argument, Piece, Tables, an_argument, arguments_off, expr_of, of_found, put_kind, an_object, of_object, of_object_found, of_value, put}
use Rattle.bound_project.specs.Project as project
use Rattle.bound_project.specs.Drafts.{Drafted, NodeNamed}
use Rattle.bound_project.proofs.Drafts.{Extends}
use Rattle.vba_values.specs.Types.{Declared}
use Rattle.bound_declarations.specs.constant_values.specs.declared_names.specs.binder.specs.Declarations.{Written}
use Rattle.bound_declarations.specs.constant_values.specs.declared_names.specs.binder.specs.Scopes.{Space}
use Rattle.bound_forms.specs.Terms.{Env, Given, a_value, bound_arguments, routine_term}
use Rattle.bound_forms.specs.Terms as plain_terms
use Rattle.bound_forms.specs.ClassDefaults.{declared_in}
use Rattle.bound_forms.specs.Operands.{argument_of, bare_call, place_told, term_or, call_node}
use Rattle.bound_forms.specs.Members.{item_of}
use Rattle.bound_forms.specs.ExpressionsBound.{taken_by_term, call_with, callee, indexed, term_of, givens, wrong_term}
use Rattle.bound_calls.specs.declared.term.Ending.{Ending}
use Rattle.bound_calls.specs.declared.term.Routine.{Routine}
use Rattle.bound_calls.specs.declared.term.Term.{Term}
use Rattle.bound_calls.specs.declared.term.Term.TheVariants as term
use Rattle.bound_calls.specs.declared.term.Tree.{Tree}
use Rattle.bound_calls.specs.declared.term.Passed.{Passed}
use Rattle.bound_calls.specs.declared.term.Call.{Call}
use Rattle.bound_calls.specs.declared.term.Item.{Item}
use Rattle.bound_calls.specs.declared.term.Item.TheVariants as item
use Rattle.bound_calls.specs.Passing.{AllTaken}
use Rattle.bound_calls.specs.Standing.{RoutineStands, TermStands, TreeStands, ValueStands, PassedStands, Stands, ItemNamed, AllNamed, Base, own_expression, IsReceiver, ReceiverStands, ReceiverThere, RoutineIs}
use Rattle.bound_calls.specs.Taking.{BareIs, CallsRoutine}
use Rattle.bound_calls.specs.Steps.{Goes}
use Rattle.bound_calls.specs.Calls.{PassesPlain, PassesMissing, PassesRest, passed_in, with_passed, EndsCall, call_kind, node_of, PushesReceiver}
use Rattle.bound_calls.specs.Indexing.{AddsArgument, Closes}
use Rattle.bound_calls.proofs.Growing.{all_named, stands_grows, grown_pieces, grown_same, grown_twice}
use Rattle.bound_calls.proofs.Arguing.{left_long, behind}
use Rattle.bound_calls.proofs.Passing.{arguments_bound}
use Rattle.bound_calls.proofs.Reading.{bare_is, call_is}
use Rattle.bound_project.specs.declared.node.NodeKind.{NodeKind}
use Rattle.bound_project.specs.declared.declared_type.DeclaredType.{DeclaredType}
use Rattle.bound_project.specs.Project.{nowhere}
use Rattle.bound_calls.specs.declared.term.Receiver.{Receiver}
use Rattle.bound_calls.specs.declared.term.Receiver.TheVariants as receiver

-- ---- what is called

pub name_found : (e : Expr) (x : Identifier) → Some x ≡ name_in e → e ≡ name x
name_found (name y) x h = ap (λ o. name (unwrap_or o x)) (sym h)
name_found e x h = absurd (subst T (ap (λ (o : Option Identifier). is_some o) h) tt)

pub no_name : (env : Env) (e : Expr) (t : plain_terms.Term) → None ≡ name_in e → callee env e t ≡ t
no_name env (name y) t h = absurd (subst T (ap (λ (o : Option Identifier). is_some o) (sym h)) tt)
no_name env e t h = refl

-- ---- a call

pub above_both : (xs ys : List Piece) (st : List Piece) → above (xs ++ ys) st ≡ above ys (above xs st)
above_both [] ys st = refl
above_both (x ∷ xs) ys st = above_both xs ys (x ∷ st)

-- the pieces of all arguments, above others
arguments_taken : (count : ℕ) (xs ds : List Argument) (ps between below : List Piece) → count ≡ length xs + length ds → between ≡ above (map an_argument xs) below → ps ≡ above (map an_argument ds) between
    → arguments_off count ps bound.no_args ≡ Some (args_of (xs ++ ds), below)
arguments_taken count xs ds ps between below counted a b =
    let all : ps ≡ above (map an_argument (xs ++ ds)) below =
    b ∙ ap (λ st. above (map an_argument ds) st) a ∙ sym (above_both (map an_argument xs) (map an_argument ds) below) ∙ ap (λ l. above l below) (sym (map-append an_argument xs ds)) in
    let number : count ≡ length (xs ++ ds) = omega (arith, counted, length-append xs ds) in
    ap (λ st. arguments_off count st bound.no_args) all ∙ ap (λ m. arguments_off m (above (map an_argument (xs ++ ds)) below) bound.no_args) number ∙ args_are (xs ++ ds) below

-- the node of a call takes all arguments, and what it is called of
pub call_taken : (t : Tables) (r : Receiver) (base : Option bound.Expr) (procedure count : ℕ) (args : bound.Args) (ps there below : List Piece) → IsReceiver r base → ReceiverThere base there below
    → arguments_off count ps bound.no_args ≡ Some (args, there) → (n : Node) → put_kind t n (call_kind r procedure count) ps ≡ expr_of n (call_node base procedure args) ∷ below
call_taken t receiver.Module None procedure count args ps there below is on taken n =
    ap (λ o. of_found (λ xs. expr_of n (bound.call procedure xs)) o) taken ∙ ap (λ st. expr_of n (bound.call procedure args) ∷ st) on
call_taken t receiver.Module (Some e) procedure count args ps there below is on taken n = absurd is
call_taken t (receiver.Own of) None procedure count args ps there below is on taken n = absurd is
call_taken t (receiver.Own of) (Some e) procedure count args ps there below is on taken n =
    ap (λ o. of_object_found (λ x xs. expr_of n (bound.method x procedure xs)) o) taken ∙ ap (λ st. of_object (λ x xs. expr_of n (bound.method x procedure xs)) args st) on
call_taken t (receiver.Pushed of) None procedure count args ps there below is on taken n = absurd is
call_taken t (receiver.Pushed of) (Some e) procedure count args ps there below is on taken n =
    ap (λ o. of_object_found (λ x xs. expr_of n (bound.method x procedure xs)) o) taken ∙ ap (λ st. of_object (λ x xs. expr_of n (bound.method x procedure xs)) args st) on

-- arguments that were pushed, and the others, of what is a call of all of them
call_made : (value : Declared → plain_terms.Term → Place → Option bound.Expr) (env : Env) (t : Tables) (r : Routine) (x : Passed) (d e : Drafted) (ending : Ending) (y z : plain_terms.Term) (gs : List Given) (xs : List Argument)
    (there below : List Piece) → EndsCall r x d e ending → (s : RoutineIs env r y) → ReceiverThere s.base there below → AllTaken value (map parameter_view r.parameters.now) gs xs (map parameter_view x.left.now) → x.count ≡ length xs
    → d.pieces ≡ above (map an_argument xs) there
    → ((args : bound.Args) → bound_arguments value (map parameter_view r.parameters.now) gs ≡ Some args → z ≡ a_value (call_node s.base r.procedure args) (declared_view r.of)) → ValueStands t ending z e.pieces below
call_made value env t r x d e ending y z gs xs there below h s on taken counted on_top is =
    let args = args_of (xs ++ h.made) in
    let P : Ending → Type 0 = λ v. ValueStands t v z e.pieces below in
    subst P (sym h.ending_is) (record {
      made = call_node s.base r.procedure args;
      is = is args (arguments_bound value (map parameter_view r.parameters.now) gs xs (map parameter_view x.left.now) h.made taken h.left);
      ends = call_taken t r.receiver s.base r.procedure (x.count + length h.made) args e.pieces there below s.received on
          (arguments_taken (x.count + length h.made) xs h.made e.pieces d.pieces there (omega (arith, counted)) on_top h.on_top);
    })

-- brackets behind a procedure are its arguments
pub taken_routine : (env : Env) (place : Place) (base : Option bound.Expr) (space : Space) (number : ℕ) (w : Written) (gs : List Given)
    → taken_by_term env place (routine_term base space number w) gs ≡ call_with env place gs base space number w
taken_routine env place None space number w gs = refl
taken_routine env place (Some b) space number w gs = refl

-- the value that a call with arguments in brackets gives
pub call_stands : (env : Env) (t : Tables) (r : Routine) (x : Passed) (d e : Drafted) (ending : Ending) (y : plain_terms.Term) (place : Place) (args : Args) (there below : List Piece) → EndsCall r x d e ending
    → (s : RoutineIs env r y) → ReceiverThere s.base there below → PassedStands env (map parameter_view r.parameters.now) x args d.pieces there → ValueStands t ending (indexed env place y (givens env args)) e.pieces below
call_stands env t r x d e ending y place args there below h s on p =
    let z = routine_term s.base s.space s.number s.written in
    let gs = givens env args in
    let ps = map parameter_view r.parameters.now in
    call_made (argument_of env) env t r x d e ending y (indexed env place y gs) gs p.made there below h s on p.taken p.count_is p.on_top
    (λ all given. ap (λ w. indexed env place w gs) s.is
    ∙ ap (λ w. term_or w (wrong_term env place z gs)) (taken_routine env place s.base s.space s.number s.written gs
    ∙ call_is env place gs s.base s.space s.number s.written s.read r.procedure (declared_view r.of) ps all p.made (map parameter_view x.left.now) s.reads s.procedure_is s.parameters_are s.of_is p.taken given))

pub call_named : (t : Tables) (r : Receiver) (procedure count : ℕ) → NodeNamed t (call_kind r procedure count)
call_named t receiver.Module procedure count = tt
call_named t (receiver.Own of) procedure count = tt
call_named t (receiver.Pushed of) procedure count = tt

ending_call : (r : Routine) (x : Passed) (d e : Drafted) (ending : Ending) → EndsCall r x d e ending → NodeNamed e.tables ending.kind
ending_call r x d e ending h = let P : Ending → Type 0 = λ z. NodeNamed e.tables z.kind in subst P (sym h.ending_is) (call_named e.tables r.receiver r.procedure (x.count + length h.made))

routine_stands : (r : Routine) (x : Passed) (d m e : Drafted) (ending : Ending) → x.left.now ≡ r.parameters.now → x.count ≡ 0 → PushesReceiver r.receiver d m → EndsCall r x m e ending → (env : Env) (y : plain_terms.Term) (below : List Piece)
    → RoutineStands env r y d.pieces below → BareIs env e.tables ending y e.pieces below
routine_stands r x d m e ending left count p h env y below s =
    let u = s.routine in
    record {
      base = u.base;
      space = u.space;
      number = u.number;
      written = u.written;
      is = u.is;
      called = call_made (argument_of env) env e.tables r x m e ending y (bare_call env u.base u.space u.number u.written) [] [] m.pieces below h u (p.there u.base below u.received s.pushed) (ap (λ l. map parameter_view l) (sym left)) count refl
          (λ all given. bare_is env u.base u.space u.number u.written u.read r.procedure (declared_view r.of) (map parameter_view r.parameters.now) all u.reads u.procedure_is u.parameters_are u.of_is given);
    }

pub calls_routine : (r : Routine) (x : Passed) (d m e : Drafted) (ending : Ending) → x.left.now ≡ r.parameters.now → x.count ≡ 0 → PushesReceiver r.receiver d m → EndsCall r x m e ending → CallsRoutine r d e ending
calls_routine r x d m e ending left count p h = record {
  grown = grown_twice d m e p.grown h.grown;
  named = ending_call r x m e ending h;
  of_is = ap (λ (z : Ending). z.of) h.ending_is;
  stands = routine_stands r x d m e ending left count p h;
}

-- ---- what a procedure is called of

module_there : (d : Drafted) (base : Option bound.Expr) (below : List Piece) → IsReceiver receiver.Module base → ReceiverStands receiver.Module base d.pieces below → ReceiverThere base d.pieces below
module_there d None below is s = s
module_there d (Some b) below is s = absurd is

pub receives_module : (d : Drafted) → PushesReceiver receiver.Module d d
receives_module d = record { grown = grown_same d; there = module_there d }

pushed_there : (of : DeclaredType) (ps qs : List Piece) → qs ≡ of_value (λ e. an_object e) ps → (base : Option bound.Expr) (below : List Piece) → IsReceiver (receiver.Pushed of) base → ReceiverStands (receiver.Pushed of) base ps below → ReceiverThere base qs below
pushed_there of ps qs is None below r s = absurd r
pushed_there of ps qs is (Some b) below r s = is ∙ ap (λ st. of_value (λ e. an_object e) st) s

pub receives_pushed : (of : DeclaredType) (place : Place) (d e : Drafted) → e ≡ behind kind.ObjectThere place of d → PushesReceiver (receiver.Pushed of) d e
receives_pushed of place d e eq =
    let P : Drafted → Type 0 = λ x. PushesReceiver (receiver.Pushed of) d x in
    subst P (sym eq) (record { grown = grown_pieces d (put d.tables (node_of kind.ObjectThere place of) d.pieces); there = pushed_there of d.pieces (put d.tables (node_of kind.ObjectThere place of) d.pieces) refl })

own_there : (of : DeclaredType) (ps qs : List Piece) → qs ≡ an_object (own_expression of) ∷ ps → (base : Option bound.Expr) (below : List Piece) → IsReceiver (receiver.Own of) base → ReceiverStands (receiver.Own of) base ps below → ReceiverThere base qs below
own_there of ps qs is None below r s = absurd r
own_there of ps qs is (Some b) below r s = is ∙ ap (λ st. an_object (own_expression of) ∷ st) s ∙ ap (λ x. an_object x ∷ below) (sym r)

pub receives_own : (of : DeclaredType) (here there : Place) (d m e : Drafted) → here ≡ nowhere → m ≡ behind kind.This here of d → e ≡ behind kind.ObjectThere there of m → PushesReceiver (receiver.Own of) d e
receives_own of here there d m e at one two =
    let m1 = behind kind.This here of d in
    let e1 = behind kind.ObjectThere there of m1 in
    let all : e ≡ e1 = two ∙ ap (λ x. behind kind.ObjectThere there of x) one in
    let P : Drafted → Type 0 = λ x. PushesReceiver (receiver.Own of) d x in
    subst P (sym all) (record {
      grown = grown_twice d m1 e1 (grown_pieces d m1.pieces) (grown_pieces m1 e1.pieces);
      there = own_there of d.pieces e1.pieces (ap (λ q. an_object (bound.expr bound.this q (declared_view of) (declared_view of)) ∷ d.pieces) at);
    })

-- ---- the steps

-- an item whose arguments are read, and the same item with others
record Opened (env : Env) (t : Tables) (i : Item) (xs : List Item) (p : Passed) (args : Args) (is : List nodes.Item) (ps : List Piece) (base : Base) : Type 0 where
  pub below : List Piece
  pub parameters : List project.Parameter
  pub passed : PassedStands env parameters p args ps below
  pub close : (u : Tables) (q : Passed) (more : Args) (qs : List Piece) → Extends t u → PassedStands env parameters q more qs below → Stands env u (with_passed i q ∷ xs) (nodes.arguments more ∷ is) qs base

none_there : (p : Passed) → None ≡ Some p → ⊥
none_there p h = subst T (ap (λ (o : Option Passed). is_some o) (sym h)) tt

opened : (env : Env) (t : Tables) (i : Item) (xs : List Item) (p : Passed) (args : Args) (is : List nodes.Item) (ps : List Piece) (base : Base) → passed_in i ≡ Some p → AllNamed t xs → Stands env t (i ∷ xs) (nodes.arguments args ∷ is) ps base
    → Opened env t i xs p args is ps base
opened env t (item.Tree x) xs p args is ps base f k h = absurd (none_there p f)
opened env t (item.Operand x) xs p args is ps base f k h = absurd (none_there p f)
opened env t (item.Indexed x) xs p args is ps base f k h = absurd (none_there p f)
opened env t (item.Function x) xs p args is ps base f k h = absurd (none_there p f)
opened env t (item.Member x) xs p args is ps base f k h = absurd (none_there p f)
opened env t (item.Named x) xs p args is ps base f k h = absurd (none_there p f)
opened env t item.Gathered xs p args is ps base f k h = absurd (none_there p f)
opened env t (item.Untaken x) xs p args is ps base f k h = absurd (none_there p f)
opened env t item.Unlisted xs p args is ps base f k h = absurd (none_there p f)
opened env t (item.Shape x) xs p args is ps base f k h = absurd (none_there p f)
opened env t (item.Call x) xs p args [] ps base f k h = absurd h
opened env t (item.Call x) xs p args (nodes.arguments more ∷ is) ps base f k h = absurd h
opened env t (item.Call x) xs p args (nodes.tree e ∷ is) ps base f k h = record {
  below = h.1.0.between;
  parameters = map parameter_view x.routine.parameters.now;
  passed = (let A : Passed → Type 0 = λ q. PassedStands env (map parameter_view x.routine.parameters.now) q args ps h.1.0.between in subst A (ap (λ o. unwrap_or o x.passed) f) h.1.0.passed);
  close = λ u q more qs grown s.
      (h.0, (record { routine = h.1.0.routine; between = h.1.0.between; there = h.1.0.there; place_is = h.1.0.place_is; passed = s }, stands_grows env t u grown xs k is h.0 base h.1.1));
}
opened env t (item.Listed x) xs p args is ps base f k h = record {
  below = h.0;
  parameters = base.parameters;
  passed = (let A : Passed → Type 0 = λ q. PassedStands env base.parameters q args ps h.0 in subst A (ap (λ o. unwrap_or o x) f) h.1.0);
  close = λ u q more qs grown s. (h.0, (s, stands_grows env t u grown xs k is h.0 base h.1.1));
}

none_open : (env : Env) (t : Tables) (i : Item) (xs : List Item) (p : Passed) (ps : List Piece) (base : Base) → passed_in i ≡ Some p → Stands env t (i ∷ xs) [] ps base → ⊥
none_open env t (item.Tree x) xs p ps base f h = absurd h
none_open env t (item.Operand x) xs p ps base f h = absurd h
none_open env t (item.Call x) xs p ps base f h = absurd h
none_open env t (item.Listed x) xs p ps base f h = absurd h
none_open env t (item.Indexed x) xs p ps base f h = absurd h
none_open env t (item.Function x) xs p ps base f h = absurd h
none_open env t (item.Member x) xs p ps base f h = absurd h
none_open env t (item.Named x) xs p ps base f h = absurd h
none_open env t item.Gathered xs p ps base f h = absurd h
none_open env t (item.Untaken x) xs p ps base f h = none_there p f
none_open env t item.Unlisted xs p ps base f h = none_there p f
none_open env t (item.Shape x) xs p ps base f h = none_there p f

tree_open : (env : Env) (t : Tables) (i : Item) (xs : List Item) (p : Passed) (e : Expr) (is : List nodes.Item) (ps : List Piece) (base : Base) → passed_in i ≡ Some p → Stands env t (i ∷ xs) (nodes.tree e ∷ is) ps base → ⊥
tree_open env t (item.Tree x) xs p e is ps base f h = none_there p f
tree_open env t (item.Operand x) xs p e is ps base f h = none_there p f
tree_open env t (item.Call x) xs p e is ps base f h = absurd h
tree_open env t (item.Listed x) xs p e is ps base f h = absurd h
tree_open env t (item.Indexed x) xs p e is ps base f h = absurd h
tree_open env t (item.Function x) xs p e is ps base f h = absurd h
tree_open env t (item.Member x) xs p e is ps base f h = absurd h
tree_open env t (item.Named x) xs p e is ps base f h = absurd h
tree_open env t item.Gathered xs p e is ps base f h = absurd h
tree_open env t (item.Untaken x) xs p e is ps base f h = none_there p f
tree_open env t item.Unlisted xs p e is ps base f h = none_there p f
tree_open env t (item.Shape x) xs p e is ps base f h = none_there p f

passed_named : (t : Tables) (i : Item) (q p : Passed) → passed_in i ≡ Some p → ItemNamed t (with_passed i q)
passed_named t (item.Tree x) q p f = absurd (none_there p f)
passed_named t (item.Operand x) q p f = absurd (none_there p f)
passed_named t (item.Call x) q p f = tt
passed_named t (item.Listed x) q p f = tt
passed_named t (item.Indexed x) q p f = absurd (none_there p f)
passed_named t (item.Function x) q p f = absurd (none_there p f)
passed_named t (item.Member x) q p f = absurd (none_there p f)
passed_named t (item.Named x) q p f = absurd (none_there p f)
passed_named t item.Gathered q p f = absurd (none_there p f)
passed_named t (item.Untaken x) q p f = absurd (none_there p f)
passed_named t item.Unlisted q p f = absurd (none_there p f)
passed_named t (item.Shape x) q p f = absurd (none_there p f)

-- an argument that isn't written
pub missing_stands : (env : Env) (i : Item) (xs : List Item) (p q : Passed) (comma : Option Token) (d e : Drafted) → passed_in i ≡ Some p → AllNamed d.tables xs → PassesMissing p d e q → (is : List nodes.Item) (base : Base)
    → Stands env d.tables (i ∷ xs) is d.pieces base → Stands env e.tables (with_passed i q ∷ xs) (behind_node (node.MissingArgument comma) is) e.pieces base
missing_stands env i xs p q comma d e f k m [] base h = absurd (none_open env d.tables i xs p d.pieces base f h)
missing_stands env i xs p q comma d e f k m (nodes.tree x ∷ is) base h = absurd (tree_open env d.tables i xs p x is d.pieces base f h)
missing_stands env i xs p q comma d e f k m (nodes.arguments args ∷ is) base h =
    let o = opened env d.tables i xs p args is d.pieces base f k h in
    o.close e.tables q (missing args comma) e.pieces m.grown.tables (m.stands env o.parameters args comma o.below o.passed)

pub goes_missing : (env : Env) (i : Item) (xs old new : List Item) (p q : Passed) (comma : Option Token) (d e : Drafted) → old ≡ i ∷ xs → new ≡ with_passed i q ∷ xs → passed_in i ≡ Some p → AllNamed d.tables old → PassesMissing p d e q
    → Goes env d old e new (behind_node (node.MissingArgument comma))
goes_missing env i xs old new p q comma d e o n f k m =
    let g = behind_node (node.MissingArgument comma) in
    let N : List Item → Type 0 = λ l. AllNamed d.tables l in
    let A : List Item → Type 0 = λ l. Goes env d l e new g in
    let B : List Item → Type 0 = λ l. Goes env d (i ∷ xs) e l g in
    let all = subst N o k in
    subst A (sym o) (subst B (sym n) (record {
      grown = m.grown;
      named = (passed_named e.tables i q p f, all_named d.tables e.tables m.grown.tables xs all.1);
      stands = λ is base h. missing_stands env i xs p q comma d e f all.1 m is base h;
    }))

-- the expression on top is an argument
plain_stands : (env : Env) (x : Tree) (i : Item) (xs : List Item) (p q : Passed) (comma : Option Token) (d e : Drafted) → passed_in i ≡ Some p → AllNamed d.tables xs → PassesPlain p x d e q → (is : List nodes.Item) (base : Base)
    → Stands env d.tables (item.Tree x ∷ i ∷ xs) is d.pieces base → Stands env e.tables (with_passed i q ∷ xs) (behind_node (node.PlainArgument comma) is) e.pieces base
plain_stands env x i xs p q comma d e f k m [] base h = absurd h
plain_stands env x i xs p q comma d e f k m (nodes.arguments args ∷ is) base h = absurd h
plain_stands env x i xs p q comma d e f k m (nodes.tree y ∷ []) base h = absurd (none_open env d.tables i xs p h.0 base f h.1.1)
plain_stands env x i xs p q comma d e f k m (nodes.tree y ∷ nodes.tree z ∷ is) base h = absurd (tree_open env d.tables i xs p z is h.0 base f h.1.1)
plain_stands env x i xs p q comma d e f k m (nodes.tree y ∷ nodes.arguments args ∷ is) base h =
    let o = opened env d.tables i xs p args is h.0 base f k h.1.1 in
    o.close e.tables q (plain args comma y) e.pieces m.grown.tables (m.stands env o.parameters args comma y h.0 o.below h.1.0 o.passed)

pub adds_passed : (i : Item) (p q : Passed) (x : Tree) (d e : Drafted) → passed_in i ≡ Some p → PassesPlain p x d e q → AddsArgument i x d e (with_passed i q)
adds_passed i p q x d e f m = record { grown = m.grown; named = passed_named e.tables i q p f; stands = λ env comma xs is base k h. plain_stands env x i xs p q comma d e f k m is base h }

-- brackets behind a procedure aren't those of an object
pub routine_item : (env : Env) (place : Place) (z : plain_terms.Term) (base : Option bound.Expr) (space : Space) (number : ℕ) (w : Written) → z ≡ routine_term base space number w → item_of env place z ≡ z
routine_item env place z None space number w h = ap (λ y. item_of env place y) h ∙ sym h
routine_item env place z (Some b) space number w h = ap (λ y. item_of env place y) h ∙ sym h

-- what brackets make of an expression
pub tree_ended : (env : Env) (t : Tables) (y : Term) (place : Place) (known : Bor Declarations) → declared_in env.scope ≡ declarations_view known.now → (b : Expr) (args : Args) (left right : Token) (ps below : List Piece) → place ≡ place_told b
    → TermStands env t y (indexed env (place_told b) (item_of env (place_told b) (callee env b (term_of env b))) (givens env args)) ps below
    → TreeStands env t (record { place = place; name = None; dotted = None; term = y; declared = known }) (index b left args right) ps below
tree_ended env t y place known w b args left right ps below at h = record {
  term_is = h;
  place_is = at;
  name_is = refl;
  qualifier_is = refl;
  leaf = tt;
  declared_is = w;
}

-- arguments end
index_stands : (env : Env) (x : Call) (ending : Ending) (known : Bor Declarations) → declared_in env.scope ≡ declarations_view known.now → (left right : Token) (xs : List Item) (d e : Drafted) → AllNamed d.tables xs → EndsCall x.routine x.passed d e ending → (is : List nodes.Item) (base : Base)
    → Stands env d.tables (item.Call x ∷ xs) is d.pieces base
    → Stands env e.tables (item.Tree (record { place = x.place; name = None; dotted = None; term = term.Value ending; declared = known }) ∷ xs) (behind_node (node.Index left right) is) e.pieces base
index_stands env x ending known w left right xs d e k c [] base h = absurd h
index_stands env x ending known w left right xs d e k c (nodes.tree y ∷ is) base h = absurd h
index_stands env x ending known w left right xs d e k c (nodes.arguments args ∷ []) base h = absurd h
index_stands env x ending known w left right xs d e k c (nodes.arguments args ∷ nodes.arguments more ∷ is) base h = absurd h
index_stands env x ending known w left right xs d e k c (nodes.arguments args ∷ nodes.tree y ∷ is) base h =
    let s = h.1.0 in
    let A : plain_terms.Term → Type 0 = λ z. ValueStands e.tables ending (indexed env (place_told y) z (givens env args)) e.pieces h.0 in (
      h.0,
      (
        tree_ended env e.tables (term.Value ending) x.place known w y args left right e.pieces h.0 s.place_is
            (subst A (sym (routine_item env (place_told y) (callee env y (term_of env y)) s.routine.base s.routine.space s.routine.number s.routine.written s.routine.is))
            (call_stands env e.tables x.routine x.passed d e ending (callee env y (term_of env y)) (place_told y) args s.between h.0 c s.routine s.there s.passed)),
        stands_grows env d.tables e.tables c.grown.tables xs k is h.0 base h.1.1,
      ),
    )

pub closes_call : (x : Call) (ending : Ending) (known : Bor Declarations) (d e : Drafted) → EndsCall x.routine x.passed d e ending → Closes (declarations_view known.now) (item.Call x) d e (record { place = x.place; name = None; dotted = None; term = term.Value ending; declared = known })
closes_call x ending known d e c = record {
  grown = c.grown;
  named = ending_call x.routine x.passed d e ending c;
  stands = λ env w left right xs is base k h. index_stands env x ending known w left right xs d e k c is base h;
}

-- ---- ends of calls

pub parameters_long : (ps : List Parameter) → length (map parameter_view ps) ≡ length ps
parameters_long [] = refl
parameters_long (p ∷ ps) = omega (arith, parameters_long ps)

pub ends_call : (r : Routine) (x : Passed) (d e : Drafted) (left arguments : ℕ) (k : NodeKind) → k ≡ call_kind r.receiver r.procedure arguments → left ≡ length x.left.now → arguments ≡ x.count + left → PassesRest x.left.now d e
    → EndsCall r x d e (record { kind = k; of = r.of })
ends_call r x d e left arguments k is a b h =
    let count : arguments ≡ x.count + length h.made = omega (arith, a, b, left_long (map parameter_view x.left.now) h.made h.left, parameters_long x.left.now) in
    let A : ℕ → Ending = λ n. record { kind = call_kind r.receiver r.procedure n; of = r.of } in
    let K : NodeKind → Ending = λ q. record { kind = q; of = r.of } in record { grown = h.grown; made = h.made; left = h.left; on_top = h.on_top; ending_is = ap K is ∙ ap A count }
