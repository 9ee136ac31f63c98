-- What arguments with names do to the stack, and the calls that they end.
use Rattle.std.proofs.Common.{◌≡◌, Bor, ℕ, zero, suc, ◌+◌, ◌-◌, ◌==◌, ◌<◌, ◌≤◌, Bool, true, false, ◌&&◌, List, [], ◌∷◌, ◌++◌, map, length, get_or, drop, Option, Some, None, option_map, if◌then◌else◌, refl, sym, ap, subst, ◌∙◌, arith, length-append, append-nil, append_assoc, ne_eqb}
use Rattle.std.proofs.lemmas.List.{map-append, map_push, drop_more, drop_all, reverse-append, length-reverse, get_or-reverse}
use Rattle.std.specs.Prelude.{bytes_eq, reverse}
use Rattle.vba_base.specs.declared.place.Place.{Place}
use Rattle.vba_lexer.specs.declared.token.Token.{Token}
use Rattle.vba_words.specs.declared.identifier.Identifier.{Identifier}
use Rattle.vba_expression.specs.declared.node.ExpressionNode.TheVariants as node
use Rattle.vba_expression.specs.Tree.{Expr, Args, no_args, missing, plain}
use Rattle.vba_expression.specs.Tree as tree
use Rattle.vba_expression.specs.Nodes as nodes
use Rattle.vba_expression.specs.Nodes.{behind_node, last_arguments, rest}
use Rattle.vba_tree.specs.Tree.{Parameter as Written_parameter}
use Rattle.vba_values.specs.Types.{Declared}
use Rattle.bound_project.specs.declared.declarations.Parameter.{Parameter}
use Rattle.bound_project.specs.declared.node.Node.{Node}
use Rattle.bound_project.specs.declared.declarations.Declarations.{Declarations}
use Rattle.bound_project.specs.View.{declarations_view, declared_view, parameter_view}
use Rattle.bound_project.specs.Expressions.{call, in_order}
use Rattle.bound_project.specs.Expressions as bound
use Rattle.bound_project.specs.Lists.{above, args_of}
use Rattle.bound_project.proofs.Lists.{above_push, args_are}
use Rattle.bound_project.specs.Pieces.{Argument, Piece, Tables, an_argument, arguments_off, expr_of, of_found, order_in, put_kind, of_object, of_object_found}
use Rattle.bound_project.specs.Project as project
use Rattle.bound_project.specs.Drafts.{Drafted, NodeNamed}
use Rattle.bound_project.proofs.Drafts.{order_extends}
use Rattle.bound_declarations.specs.constant_values.specs.declared_names.specs.binder.specs.Constants.{home}
use Rattle.bound_declarations.specs.constant_values.specs.declared_names.specs.binder.specs.Declarations.{Written}
use Rattle.bound_declarations.specs.constant_values.specs.declared_names.specs.binder.specs.Names.{scope_in}
use Rattle.bound_declarations.specs.constant_values.specs.declared_names.specs.binder.specs.Scopes.{Scope, Space}
use Rattle.bound_declarations.specs.constant_values.specs.declared_names.specs.binder.specs.Storage.{bound_parameters, procedure_number}
use Rattle.bound_forms.specs.Terms.{Env, Given, a_value, bound_arguments, parameter_named}
use Rattle.bound_forms.specs.Terms as plain_terms
use Rattle.bound_forms.specs.ClassDefaults.{declared_in}
use Rattle.bound_declarations.specs.constant_values.specs.declared_names.specs.binder.specs.Signatures.{is_get, reader, parameters_in, call_type}
use Rattle.bound_forms.specs.Operands.{argument_of, place_told, term_or, call_node}
use Rattle.bound_forms.specs.ExpressionsBound.{call_with, indexes_value, callee, indexed, term_of, givens, wrong_term}
use Rattle.bound_calls.specs.declared.term.Ending.{Ending}
use Rattle.bound_calls.specs.declared.term.Routine.{Routine}
use Rattle.bound_calls.specs.declared.term.Term.TheVariants as term
use Rattle.bound_calls.specs.declared.term.Tree.{Tree}
use Rattle.bound_calls.specs.declared.term.Ordered.{Ordered}
use Rattle.bound_calls.specs.declared.term.Passed.{Passed}
use Rattle.bound_calls.specs.declared.term.Call.{Call}
use Rattle.bound_calls.specs.declared.term.Item.{Item}
use Rattle.bound_calls.specs.declared.term.Item.TheVariants as item
use Rattle.bound_calls.specs.Passing.{AllTaken, AllLeft}
use Rattle.bound_calls.specs.Standing.{ValueStands, CallStands, Stands, NamedStands, NamedAbove, passed_below, AllNamed, Grown, Base, IsReceiver, ReceiverThere, RoutineIs}
use Rattle.bound_calls.specs.Steps.{Goes}
use Rattle.bound_calls.specs.Calls.{PassesTree, passed_in}
use Rattle.bound_calls.specs.InOrder.{is_there, all_apart, counted_from, places_from, other_numbers, others, numbers_given, numbers_pushed, NamedTaken, AllNamedTaken, is_named, with_named, OtherPassed, PassesOthers, PassesApart, AddsOrder, Orders, EndsInOrder, EndsNamed, named_kind}
use Rattle.bound_calls.proofs.Growing.{grown_same, grown_twice, all_named, stands_grows}
use Rattle.bound_calls.proofs.Arguing.{left_long}
use Rattle.bound_calls.proofs.CallSteps.{above_both, parameters_long, routine_item, taken_routine}
use Rattle.bound_calls.proofs.Reading.{called_valued}
use Rattle.bound_calls.proofs.InOrder.{named_bound}
use Rattle.bound_calls.specs.declared.term.Receiver.{Receiver}
use Rattle.bound_calls.specs.declared.term.Receiver.TheVariants as receiver

-- ---- lists of numbers, with one more

abbrev one_if : {A : Type 0} → Bool → A → List A
one_if true x = []
one_if false x = x ∷ []

first_one : {A : Type 0} (b : Bool) (x : A) → (if b then [] else x ∷ []) ≡ one_if b x
first_one true x = refl
first_one false x = refl

behind_first : {A : Type 0} (b : Bool) (x : A) (xs ys zs : List A) → xs ≡ ys ++ zs → (if b then xs else x ∷ xs) ≡ (if b then ys else x ∷ ys) ++ zs
behind_first true x xs ys zs h = h
behind_first false x xs ys zs h = ap (λ l. x ∷ l) h

others_more : {A : Type 0} (n : ℕ) (ps : List A) (p : A) (ks : List ℕ) → others n (ps ++ p ∷ []) ks ≡ others n ps ks ++ one_if (is_there (n + length ps) ks) p
others_more n [] p ks = let e : n ≡ n + 0 = omega arith in first_one (is_there n ks) p ∙ ap (λ m. one_if (is_there m ks) p) e
others_more n (q ∷ ps) p ks =
    let e : suc n + length ps ≡ n + suc (length ps) = omega arith in
    behind_first (is_there n ks) q (others (suc n) (ps ++ p ∷ []) ks) (others (suc n) ps ks) (one_if (is_there (n + suc (length ps)) ks) p) (others_more (suc n) ps p ks ∙ ap (λ m. others (suc n) ps ks ++ one_if (is_there m ks) p) e)

other_numbers_more : (n c : ℕ) (ks : List ℕ) → other_numbers n (suc c) ks ≡ other_numbers n c ks ++ one_if (is_there (n + c) ks) (n + c)
other_numbers_more n zero ks = let e : n ≡ n + 0 = omega arith in first_one (is_there n ks) n ∙ ap (λ m. one_if (is_there m ks) m) e
other_numbers_more n (suc c) ks =
    let e : suc n + c ≡ n + suc c = omega arith in
    behind_first (is_there n ks) n (other_numbers (suc n) (suc c) ks) (other_numbers (suc n) c ks) (one_if (is_there (n + suc c) ks) (n + suc c)) (other_numbers_more (suc n) c ks ∙ ap (λ m. other_numbers (suc n) c ks ++ one_if (is_there m ks) m) e)

one_long : {A : Type 0} (b : Bool) (x : A) (xs : List A) (ns : List ℕ) (n : ℕ) → length xs ≡ length ns → length (if b then xs else x ∷ xs) ≡ length (if b then ns else n ∷ ns)
one_long true x xs ns n h = h
one_long false x xs ns n h = omega (arith, h)

others_long : {A : Type 0} (n : ℕ) (ps : List A) (ks : List ℕ) → length (others n ps ks) ≡ length (other_numbers n (length ps) ks)
others_long n [] ks = refl
others_long n (p ∷ ps) ks = one_long (is_there n ks) p (others (suc n) ps ks) (other_numbers (suc n) (length ps) ks) n (others_long (suc n) ps ks)

-- ---- names on the stack

pub named_more : (ks : List ℕ) (k : ℕ) (xs : List Item) → with_named (ks ++ k ∷ []) xs ≡ with_named ks (item.Named (record { number = k }) ∷ xs)
named_more [] k xs = refl
named_more (j ∷ ks) k xs = ap (λ l. item.Named (record { number = j }) ∷ l) (named_more ks k xs)

below_one : (i : Item) (xs : List Item) (p : Passed) → passed_in i ≡ Some p → passed_below (i ∷ xs) ≡ Some p
below_one (item.Call x) xs p f = f
below_one (item.Listed x) xs p f = f
below_one (item.Tree x) xs p f = let e : None ≡ Some p = f in absurd cc
below_one (item.Operand x) xs p f = let e : None ≡ Some p = f in absurd cc
below_one (item.Indexed x) xs p f = let e : None ≡ Some p = f in absurd cc
below_one (item.Function x) xs p f = let e : None ≡ Some p = f in absurd cc
below_one (item.Member x) xs p f = let e : None ≡ Some p = f in absurd cc
below_one (item.Named x) xs p f = let e : None ≡ Some p = f in absurd cc
below_one item.Gathered xs p f = let e : None ≡ Some p = f in absurd cc
below_one (item.Untaken x) xs p f = let e : None ≡ Some p = f in absurd cc
below_one item.Unlisted xs p f = let e : None ≡ Some p = f in absurd cc
below_one (item.Shape x) xs p f = let e : None ≡ Some p = f in absurd cc

below_other : (i : Item) (xs : List Item) → is_named i ≡ false → passed_below (i ∷ xs) ≡ passed_in i
below_other (item.Call x) xs h = refl
below_other (item.Listed x) xs h = refl
below_other (item.Tree x) xs h = refl
below_other (item.Operand x) xs h = refl
below_other (item.Indexed x) xs h = refl
below_other (item.Function x) xs h = refl
below_other (item.Member x) xs h = refl
below_other item.Gathered xs h = refl
below_other (item.Untaken x) xs h = refl
below_other item.Unlisted xs h = refl
below_other (item.Shape x) xs h = refl
below_other (item.Named x) xs h = let e : true ≡ false = h in absurd cc

below_same : (i : Item) (xs : List Item) → is_named i ≡ true → passed_below (i ∷ xs) ≡ passed_below xs
below_same (item.Named x) xs h = refl
below_same (item.Call x) xs h = let n : false ≡ true = h in absurd cc
below_same (item.Listed x) xs h = let n : false ≡ true = h in absurd cc
below_same (item.Tree x) xs h = let n : false ≡ true = h in absurd cc
below_same (item.Operand x) xs h = let n : false ≡ true = h in absurd cc
below_same (item.Indexed x) xs h = let n : false ≡ true = h in absurd cc
below_same (item.Function x) xs h = let n : false ≡ true = h in absurd cc
below_same (item.Member x) xs h = let n : false ≡ true = h in absurd cc
below_same item.Gathered xs h = let n : false ≡ true = h in absurd cc
below_same (item.Untaken x) xs h = let n : false ≡ true = h in absurd cc
below_same item.Unlisted xs h = let n : false ≡ true = h in absurd cc
below_same (item.Shape x) xs h = let n : false ≡ true = h in absurd cc

-- looked up from the last item
item_above : (xs : List Item) (k n : ℕ) (i : Item) → k < length xs → n ≡ length xs - 1 - k → i ≡ get_or xs n i → drop k (reverse xs) ≡ i ∷ drop (k + 1) (reverse xs)
item_above xs k n i lt at is =
    drop_more (reverse xs) k i (omega (arith, lt, length-reverse xs)) ∙ ap (λ m. m ∷ drop (k + 1) (reverse xs)) (get_or-reverse xs k i lt ∙ ap (λ m. get_or xs m i) (sym at) ∙ sym is)

pub below_found : (xs : List Item) (k n : ℕ) (i : Item) → k < length xs → n ≡ length xs - 1 - k → i ≡ get_or xs n i → is_named i ≡ false → passed_below (drop k (reverse xs)) ≡ passed_in i
below_found xs k n i lt at is h = ap (λ l. passed_below l) (item_above xs k n i lt at is) ∙ below_other i (drop (k + 1) (reverse xs)) h

pub below_next : (xs : List Item) (k n : ℕ) (i : Item) → k < length xs → n ≡ length xs - 1 - k → i ≡ get_or xs n i → is_named i ≡ true → passed_below (drop k (reverse xs)) ≡ passed_below (drop (k + 1) (reverse xs))
below_next xs k n i lt at is h = ap (λ l. passed_below l) (item_above xs k n i lt at is) ∙ below_same i (drop (k + 1) (reverse xs)) h

pub below_none : (xs : List Item) (k : ℕ) → length xs ≤ k → passed_below (drop k (reverse xs)) ≡ None
below_none xs k le = ap (λ l. passed_below l) (drop_all k (reverse xs) (omega (arith, le, length-reverse xs)))

below_named : (ks : List ℕ) (i : Item) (xs : List Item) (p : Passed) → passed_in i ≡ Some p → passed_below (with_named ks (i ∷ xs)) ≡ Some p
below_named [] i xs p f = below_one i xs p f
below_named (k ∷ ks) i xs p f = below_named ks i xs p f

-- below what has arguments there are arguments
arguments_below : (env : Env) (t : Tables) (xs : List Item) (p : Passed) (is : List nodes.Item) (ps : List Piece) (base : Base) → passed_below xs ≡ Some p → Stands env t xs is ps base
    → Stands env t xs (nodes.arguments (last_arguments is) ∷ rest is) ps base
arguments_below env t [] p is ps base f h = let e : None ≡ Some p = f in absurd cc
arguments_below env t (item.Tree x ∷ xs) p is ps base f h = let e : None ≡ Some p = f in absurd cc
arguments_below env t (item.Operand x ∷ xs) p is ps base f h = let e : None ≡ Some p = f in absurd cc
arguments_below env t (item.Indexed x ∷ xs) p is ps base f h = let e : None ≡ Some p = f in absurd cc
arguments_below env t (item.Function x ∷ xs) p is ps base f h = let e : None ≡ Some p = f in absurd cc
arguments_below env t (item.Member x ∷ xs) p is ps base f h = let e : None ≡ Some p = f in absurd cc
arguments_below env t (item.Gathered ∷ xs) p is ps base f h = let e : None ≡ Some p = f in absurd cc
arguments_below env t (item.Untaken x ∷ xs) p is ps base f h = let e : None ≡ Some p = f in absurd cc
arguments_below env t (item.Unlisted ∷ xs) p is ps base f h = let e : None ≡ Some p = f in absurd cc
arguments_below env t (item.Shape x ∷ xs) p is ps base f h = let e : None ≡ Some p = f in absurd cc
arguments_below env t (item.Named x ∷ xs) p [] ps base f h = absurd h
arguments_below env t (item.Named x ∷ xs) p (nodes.tree e ∷ is) ps base f h = absurd h
arguments_below env t (item.Named x ∷ xs) p (nodes.arguments args ∷ is) ps base f h = h
arguments_below env t (item.Call x ∷ xs) p [] ps base f h = absurd h
arguments_below env t (item.Call x ∷ xs) p (nodes.tree e ∷ is) ps base f h = absurd h
arguments_below env t (item.Call x ∷ xs) p (nodes.arguments args ∷ is) ps base f h = h
arguments_below env t (item.Listed x ∷ xs) p [] ps base f h = absurd h
arguments_below env t (item.Listed x ∷ xs) p (nodes.tree e ∷ is) ps base f h = absurd h
arguments_below env t (item.Listed x ∷ xs) p (nodes.arguments args ∷ is) ps base f h = h

pub named_under : (t : Tables) (ks : List ℕ) (xs : List Item) → AllNamed t (with_named ks xs) → AllNamed t xs
named_under t [] xs h = h
named_under t (k ∷ ks) xs h = named_under t ks xs h.1

pub none_on_top : (ks : List ℕ) (old xs : List Item) → old ≡ with_named ks xs → ks ≡ [] → old ≡ xs
none_on_top ks old xs h e = h ∙ ap (λ l. with_named l xs) e

-- ---- parameters by their names

named_first : (n : ℕ) (p : project.Parameter) (ps : List project.Parameter) (fold : List ℕ) → p.many ≡ false → bytes_eq p.name.fold fold ≡ true → parameter_named n (p ∷ ps) fold ≡ Some (n, p)
named_first n p ps fold many same = rw (many, same) refl

pub found_here : (n : ℕ) (ps : List Parameter) (i : ℕ) (p : Parameter) (fold : List ℕ) → i < length ps → p ≡ get_or ps i p → p.is_param_array ≡ false → bytes_eq p.name.fold fold ≡ true
    → parameter_named n (map parameter_view (drop i ps)) fold ≡ Some (n, parameter_view p)
found_here n ps i p fold lt is many same =
    let left : drop i ps ≡ p ∷ drop (i + 1) ps = drop_more ps i p lt ∙ ap (λ m. m ∷ drop (i + 1) ps) (sym is) in
    ap (λ l. parameter_named n (map parameter_view l) fold) left ∙ named_first n (parameter_view p) (map parameter_view (drop (i + 1) ps)) fold many same

-- ---- one more argument with a name

named_stands : (env : Env) (x : Tree) (xs : List Item) (p : Passed) (number : ℕ) (parameter : Parameter) (name : Identifier) (comma : Option Token) (mark : Token) (d e : Drafted) → passed_below xs ≡ Some p
    → parameter_named p.count (map parameter_view p.left.now) name.name ≡ Some (number, parameter_view parameter) → AllNamed d.tables xs → PassesTree parameter x d e → (is : List nodes.Item) (base : Base)
    → Stands env d.tables (item.Tree x ∷ xs) is d.pieces base → Stands env e.tables (item.Named (record { number = number }) ∷ xs) (behind_node (node.NamedArgument comma name mark) is) e.pieces base
named_stands env x xs p number parameter name comma mark d e f found k m [] base h = absurd h
named_stands env x xs p number parameter name comma mark d e f found k m (nodes.arguments args ∷ is) base h = absurd h
named_stands env x xs p number parameter name comma mark d e f found k m (nodes.tree y ∷ is) base h =
    let t = m.stands env y h.0 h.1.0 in
    let A : Option Passed → Type 0 = λ o. NamedAbove env o (record { number = number }) name y e.pieces h.0 in
    let s : NamedStands env p (record { number = number }) name y e.pieces h.0 = record { parameter = parameter_view parameter; found = found; made = t.made; makes = λ r. t.taken.makes r; on_top = t.on_top } in
    (h.0, (subst A (sym f) s, stands_grows env d.tables e.tables m.grown.tables xs k (nodes.arguments (last_arguments is) ∷ rest is) h.0 base (arguments_below env d.tables xs p is h.0 base f h.1.1)))

pub goes_named : (env : Env) (x : Tree) (xs old new : List Item) (p : Passed) (number : ℕ) (parameter : Parameter) (name : Identifier) (comma : Option Token) (mark : Token) (d e : Drafted) → old ≡ item.Tree x ∷ xs
    → new ≡ item.Named (record { number = number }) ∷ xs → passed_below xs ≡ Some p → parameter_named p.count (map parameter_view p.left.now) name.name ≡ Some (number, parameter_view parameter) → AllNamed d.tables old
    → PassesTree parameter x d e → Goes env d old e new (behind_node (node.NamedArgument comma name mark))
goes_named env x xs old new p number parameter name comma mark d e o n f found k m =
    let g = behind_node (node.NamedArgument comma name mark) in
    let N : List Item → Type 0 = λ l. AllNamed d.tables l in
    let A : List Item → Type 0 = λ l. Goes env d l e new g in
    let B : List Item → Type 0 = λ l. Goes env d (item.Tree x ∷ xs) e l g in
    let all = subst N o k in
    subst A (sym o) (subst B (sym n) (record {
      grown = m.grown;
      named = (tt, all_named d.tables e.tables m.grown.tables xs all.1);
      stands = λ is base h. named_stands env x xs p number parameter name comma mark d e f found all.1 m is base h;
    }))

-- ---- what the other parameters have

left_both : (ps qs : List project.Parameter) (xs ys : List Argument) → AllLeft ps xs → AllLeft qs ys → AllLeft (ps ++ qs) (xs ++ ys)
left_both [] qs [] ys h k = k
left_both [] qs (x ∷ xs) ys h k = absurd h
left_both (p ∷ ps) qs [] ys h k = absurd h
left_both (p ∷ ps) qs (x ∷ xs) ys h k = (h.0, left_both ps qs xs ys h.1 k)

above_map : (xs ys : List Argument) (st : List Piece) → above (map an_argument (xs ++ ys)) st ≡ above (map an_argument ys) (above (map an_argument xs) st)
above_map xs ys st = ap (λ l. above l st) (map-append an_argument xs ys) ∙ above_both (map an_argument xs) (map an_argument ys) st

-- some parameters have what they have, and others are left
pub record Othering (all : List Parameter) (ks : List ℕ) (i : ℕ) (d e : Drafted) (os : List ℕ) : Type 0 where
  pub done : List Parameter
  pub rest_is : done ++ drop i all ≡ all
  pub count_is : length done ≡ i
  pub passes : PassesOthers done ks d e os

pub othering_starts : (all : List Parameter) (ks : List ℕ) (d : Drafted) → Othering all ks 0 d d []
othering_starts all ks d = record { done = []; rest_is = refl; count_is = refl; passes = record { grown = grown_same d; made = []; left = tt; on_top = refl; all_is = refl } }

-- what one more parameter pushes
record OneMore (b : Bool) (p : Parameter) (k : ℕ) (d e : Drafted) (os ps : List ℕ) : Type 0 where
  pub grown : Grown d e
  pub made : List Argument
  pub left : AllLeft (one_if b (parameter_view p)) made
  pub on_top : e.pieces ≡ above (map an_argument made) d.pieces
  pub all_is : ps ≡ os ++ one_if b k

one_more : (b : Bool) (p : Parameter) (k : ℕ) (d e : Drafted) (os ps : List ℕ) → OtherPassed b p k d e os ps → OneMore b p k d e os ps
one_more true p k d e os ps h =
    let P : Drafted → Type 0 = λ x. OneMore true p k d x os ps in
    subst P (sym h.0) (record { grown = grown_same d; made = []; left = tt; on_top = refl; all_is = h.1 ∙ sym (append-nil os) })
one_more false p k d e os ps h = record { grown = h.0.grown; made = h.0.made ∷ []; left = (h.0.left, tt); on_top = h.0.on_top; all_is = h.1 }

othering_on : (all : List Parameter) (ks : List ℕ) (i : ℕ) (d e f : Drafted) (os qs : List ℕ) (p : Parameter) (k : ℕ) → k ≡ i → (r : Othering all ks i d e os) → drop i all ≡ p ∷ drop (i + 1) all
    → OtherPassed (is_there k ks) p k e f os qs → Othering all ks (i + 1) d f qs
othering_on all ks i d e f os qs p k same r left h =
    let q = r.passes in
    let m = one_more (is_there k ks) p k e f os qs h in
    let at : k ≡ 0 + length r.done = omega (arith, same, r.count_is) in
    let views : others 0 (map parameter_view (r.done ++ p ∷ [])) ks ≡ others 0 (map parameter_view r.done) ks ++ one_if (is_there k ks) (parameter_view p) =
    ap (λ l. others 0 l ks) (map_push parameter_view r.done p) ∙ others_more 0 (map parameter_view r.done) (parameter_view p) ks
    ∙ ap (λ c. others 0 (map parameter_view r.done) ks ++ one_if (is_there (0 + c) ks) (parameter_view p)) (parameters_long r.done)
    ∙ ap (λ c. others 0 (map parameter_view r.done) ks ++ one_if (is_there c ks) (parameter_view p)) (sym at) in
    let counted : length (r.done ++ p ∷ []) ≡ suc (length r.done) = omega (arith, length-append r.done (p ∷ [])) in
    let numbers : other_numbers 0 (length (r.done ++ p ∷ [])) ks ≡ other_numbers 0 (length r.done) ks ++ one_if (is_there k ks) k =
    ap (λ c. other_numbers 0 c ks) counted ∙ other_numbers_more 0 (length r.done) ks ∙ ap (λ c. other_numbers 0 (length r.done) ks ++ one_if (is_there c ks) c) (sym at) in
    let A : List project.Parameter → Type 0 = λ l. AllLeft l (q.made ++ m.made) in
    record {
      done = r.done ++ p ∷ [];
      rest_is = append_assoc r.done (p ∷ []) (drop (i + 1) all) ∙ ap (λ l. r.done ++ l) (sym left) ∙ r.rest_is;
      count_is = omega (arith, counted, r.count_is);
      passes = record {
        grown = grown_twice d e f q.grown m.grown;
        made = q.made ++ m.made;
        left = subst A (sym views) (left_both (others 0 (map parameter_view r.done) ks) (one_if (is_there k ks) (parameter_view p)) q.made m.made q.left m.left);
        on_top = m.on_top ∙ ap (λ st. above (map an_argument m.made) st) q.on_top ∙ sym (above_map q.made m.made d.pieces);
        all_is = m.all_is ∙ ap (λ l. l ++ one_if (is_there k ks) k) q.all_is ∙ sym numbers;
      };
    }

pub othering_next : (all : List Parameter) (ks : List ℕ) (i : ℕ) (d e f : Drafted) (os qs : List ℕ) (p : Parameter) (k : ℕ) → i < length all → p ≡ get_or all i p → k ≡ i → Othering all ks i d e os
    → OtherPassed (is_there k ks) p k e f os qs → Othering all ks (i + 1) d f qs
othering_next all ks i d e f os qs p k lt is same r h =
    let left : drop i all ≡ p ∷ drop (i + 1) all = drop_more all i p lt ∙ ap (λ m. m ∷ drop (i + 1) all) (sym is) in
    othering_on all ks i d e f os qs p k same r left h

pub othering_done : (all : List Parameter) (ks : List ℕ) (i : ℕ) (d e : Drafted) (os : List ℕ) → length all ≤ i → Othering all ks i d e os → PassesOthers all ks d e os
othering_done all ks i d e os le r =
    let A : List Parameter → Type 0 = λ l. r.done ++ l ≡ all in
    let is : r.done ≡ all = sym (append-nil r.done) ∙ subst A (drop_all i all le) r.rest_is in
    let B : List Parameter → Type 0 = λ l. PassesOthers l ks d e os in
    subst B is r.passes

-- ---- the ends of calls

pub passes_apart : (ps : List Parameter) (ks os all : List ℕ) (d e : Drafted) → all_apart ks ≡ true → PassesOthers ps ks d e os → all ≡ ks ++ os → PassesApart ps ks d e all
passes_apart ps ks os all d e apart h is =
    record { apart = apart; grown = h.grown; made = h.made; left = h.left; on_top = h.on_top; all_is = is ∙ ap (λ l. ks ++ l) h.all_is }

order_grown : (order : List ℕ) (d e : Drafted) (number : ℕ) → AddsOrder order d e number → Grown d e
order_grown order d e number h =
    let P : Drafted → Type 0 = λ x. Grown d x in subst P (sym h.draft_is) (record { tables = order_extends d.tables order; statements = refl; bodies = refl })

last_is : (os : List (List ℕ)) (order : List ℕ) (n : ℕ) → n ≡ length os → get_or (os ++ order ∷ []) n [] ≡ order
last_is [] order n e = ap (λ m. get_or (order ∷ []) m []) e
last_is (o ∷ os) order zero e = absurd (omega (arith, e))
last_is (o ∷ os) order (suc n) e = last_is os order n (omega (arith, e))

counted_long : (n c : ℕ) → length (counted_from n c) ≡ c
counted_long n zero = refl
counted_long n (suc c) = omega (arith, counted_long (suc n) c)

pub ends_in_order : (ps : List Parameter) (x : Passed) (named given all : List ℕ) (d d1 e : Drafted) (o : Ordered) → given ≡ numbers_given x.count named → PassesApart ps given d d1 all → Orders ps all d1 e o → EndsInOrder ps x named d e o
ends_in_order ps x named given all d d1 e o is h w =
    let ks = numbers_given x.count named in
    let P : List ℕ → Type 0 = λ l. PassesApart ps l d d1 all in
    let p = subst P is h in
    let D : Drafted → Type 0 = λ y. y.pieces ≡ d1.pieces in
    let same : e.pieces ≡ d1.pieces = subst D (sym w.adds.draft_is) refl in
    let L : Drafted → Type 0 = λ y. o.order < length y.tables.orders in
    let O : Drafted → Type 0 = λ y. order_in y.tables o.order ≡ places_from 0 (length ps) all in
    let long : length all ≡ x.count + length named + length p.made =
    omega (
      arith,
      ap (λ l. length l) p.all_is,
      length-append ks (other_numbers 0 (length ps) ks),
      length-append (counted_from 0 x.count) named,
      counted_long 0 x.count,
      left_long (others 0 (map parameter_view ps) ks) p.made p.left,
      others_long 0 (map parameter_view ps) ks,
      ap (λ c. length (other_numbers 0 c ks)) (parameters_long ps),
    ) in
    record {
      grown = grown_twice d d1 e p.grown (order_grown (places_from 0 (length ps) all) d1 e o.order w.adds);
      apart = p.apart;
      made = p.made;
      left = p.left;
      on_top = same ∙ p.on_top;
      order_named = subst L (sym w.adds.draft_is) (omega (arith, w.adds.number_is, length-append d1.tables.orders (places_from 0 (length ps) all ∷ [])));
      order_is = subst O (sym w.adds.draft_is) (last_is d1.tables.orders (places_from 0 (length ps) all) o.order w.adds.number_is) ∙ ap (λ l. places_from 0 (length ps) l) p.all_is;
      arguments_is = w.arguments_is ∙ long;
    }

-- ---- what stands below the names

named_push : (value : Declared → plain_terms.Term → Place → Option bound.Expr) (n : ℕ) (ps : List project.Parameter) (gs : List Given) (ks : List ℕ) (xs : List Argument) (g : Given) (k : ℕ) (x : Argument) → AllNamedTaken value n ps gs ks xs
    → NamedTaken value n ps g k x → AllNamedTaken value n ps (gs ++ g ∷ []) (ks ++ k ∷ []) (xs ++ x ∷ [])
named_push value n ps [] [] [] g k x h t = (t, tt)
named_push value n ps [] [] (y ∷ xs) g k x h t = absurd h
named_push value n ps [] (j ∷ ks) xs g k x h t = absurd h
named_push value n ps (f ∷ gs) [] xs g k x h t = absurd h
named_push value n ps (f ∷ gs) (j ∷ ks) [] g k x h t = absurd h
named_push value n ps (f ∷ gs) (j ∷ ks) (y ∷ xs) g k x h t = (h.0, named_push value n ps gs ks xs g k x h.1 t)

pub record Unpacked (env : Env) (t : Tables) (ks : List ℕ) (i : Item) (xs : List Item) (p : Passed) (args : Args) (is : List nodes.Item) (ps : List Piece) (base : Base) : Type 0 where
  pub before : Args
  pub given : List Given
  pub givens_are : givens env args ≡ givens env before ++ given
  pub made : List Argument
  pub taken : AllNamedTaken (argument_of env) p.count (map parameter_view p.left.now) given (reverse ks) made
  pub between : List Piece
  pub on_top : ps ≡ above (map an_argument made) between
  pub stands : Stands env t (i ∷ xs) (nodes.arguments before ∷ is) between base

above_more : (xs : List Argument) (x : Argument) (st : List Piece) → above (map an_argument (xs ++ x ∷ [])) st ≡ an_argument x ∷ above (map an_argument xs) st
above_more xs x st = ap (λ l. above l st) (map_push an_argument xs x) ∙ above_push (map an_argument xs) (an_argument x) st

unpacked_on : (env : Env) (t : Tables) (k : ℕ) (ks : List ℕ) (i : Item) (xs : List Item) (p : Passed) (before : Args) (comma : Option Token) (name : Identifier) (mark : Token) (e : Expr) (is : List nodes.Item) (ps below : List Piece) (base : Base)
    → NamedStands env p (record { number = k }) name e ps below → Unpacked env t ks i xs p before is below base → Unpacked env t (k ∷ ks) i xs p (tree.named before comma name mark e) is ps base
unpacked_on env t k ks i xs p before comma name mark e is ps below base s r =
    let g : Given = record { name = Some name.name; term = Some (term_of env e); place = place_told e } in
    let A : List ℕ → Type 0 = λ l. AllNamedTaken (argument_of env) p.count (map parameter_view p.left.now) (r.given ++ g ∷ []) l (r.made ++ s.made ∷ []) in
    record {
      before = r.before;
      given = r.given ++ g ∷ [];
      givens_are = ap (λ l. l ++ g ∷ []) r.givens_are ∙ append_assoc (givens env r.before) r.given (g ∷ []);
      made = r.made ++ s.made ∷ [];
      taken =
          subst A (sym (reverse-append (k ∷ []) ks))
          (named_push (argument_of env) p.count (map parameter_view p.left.now) r.given (reverse ks) r.made g k s.made r.taken (record { fold = name.name; parameter = s.parameter; has_name = refl; found = s.found; makes = s.makes }));
      between = r.between;
      on_top = s.on_top ∙ ap (λ st. an_argument s.made ∷ st) r.on_top ∙ sym (above_more r.made s.made r.between);
      stands = r.stands;
    }

pub unpacked : (env : Env) (t : Tables) (ks : List ℕ) (i : Item) (xs : List Item) (p : Passed) (args : Args) (is : List nodes.Item) (ps : List Piece) (base : Base) → passed_in i ≡ Some p
    → Stands env t (with_named ks (i ∷ xs)) (nodes.arguments args ∷ is) ps base → Unpacked env t ks i xs p args is ps base
unpacked env t [] i xs p args is ps base f h = record { before = args; given = []; givens_are = sym (append-nil (givens env args)); made = []; taken = tt; between = ps; on_top = refl; stands = h }
unpacked env t (k ∷ ks) i xs p no_args is ps base f h = absurd h
unpacked env t (k ∷ ks) i xs p (missing before comma) is ps base f h = absurd h
unpacked env t (k ∷ ks) i xs p (plain before comma e) is ps base f h = absurd h
unpacked env t (k ∷ ks) i xs p (tree.named before comma name mark e) is ps base f h =
    let A : Option Passed → Type 0 = λ o. NamedAbove env o (record { number = k }) name e ps h.0 in
    unpacked_on env t k ks i xs p before comma name mark e is ps h.0 base (subst A (below_named ks i xs p f) h.1.0) (unpacked env t ks i xs p before is h.0 base f h.1.1)

-- ---- a call with names

-- all arguments off the stack
all_taken : (count : ℕ) (all : List Argument) (ps below : List Piece) → count ≡ length all → ps ≡ above (map an_argument all) below → arguments_off count ps bound.no_args ≡ Some (args_of all, below)
all_taken count all ps below counted a =
    ap (λ st. arguments_off count st bound.no_args) a ∙ ap (λ m. arguments_off m (above (map an_argument all) below) bound.no_args) counted ∙ args_are all below

-- the node of a call takes all arguments, and what it is called of
call_ends : (t : Tables) (r : Receiver) (base : Option bound.Expr) (procedure count order : ℕ) (places : List ℕ) (all : List Argument) (ps there below : List Piece) → IsReceiver r base → ReceiverThere base there below
    → count ≡ length all → order_in t order ≡ places → ps ≡ above (map an_argument all) there
    → (n : Node) → put_kind t n (named_kind r procedure count order) ps ≡ expr_of n (call_node base procedure (in_order places (args_of all))) ∷ below
call_ends t receiver.Module None procedure count order places all ps there below received on counted is a n =
    let A : List ℕ → Option (bound.Args × List Piece) → List Piece = λ l o. of_found (λ args. expr_of n (call procedure (in_order l args))) o in
    ap (λ l. A l (arguments_off count ps bound.no_args)) is ∙ ap (λ o. A places o) (all_taken count all ps there counted a) ∙ ap (λ st. expr_of n (call procedure (in_order places (args_of all))) ∷ st) on
call_ends t receiver.Module (Some e) procedure count order places all ps there below received on counted is a n = absurd received
call_ends t (receiver.Own of) None procedure count order places all ps there below received on counted is a n = absurd received
call_ends t (receiver.Own of) (Some e) procedure count order places all ps there below received on counted is a n =
    let A : List ℕ → Option (bound.Args × List Piece) → List Piece = λ l o. of_object_found (λ x args. expr_of n (bound.method x procedure (in_order l args))) o in
    ap (λ l. A l (arguments_off count ps bound.no_args)) is ∙ ap (λ o. A places o) (all_taken count all ps there counted a)
    ∙ ap (λ st. of_object (λ x args. expr_of n (bound.method x procedure (in_order places args))) (args_of all) st) on
call_ends t (receiver.Pushed of) None procedure count order places all ps there below received on counted is a n = absurd received
call_ends t (receiver.Pushed of) (Some e) procedure count order places all ps there below received on counted is a n =
    let A : List ℕ → Option (bound.Args × List Piece) → List Piece = λ l o. of_object_found (λ x args. expr_of n (bound.method x procedure (in_order l args))) o in
    ap (λ l. A l (arguments_off count ps bound.no_args)) is ∙ ap (λ o. A places o) (all_taken count all ps there counted a)
    ∙ ap (λ st. of_object (λ x args. expr_of n (bound.method x procedure (in_order places args))) (args_of all) st) on

and_no : (b : Bool) → (b && false) ≡ false
and_no true = refl
and_no false = refl

none_named : (value : Declared → plain_terms.Term → Place → Option bound.Expr) (n : ℕ) (g : Given) (ns : List Given) (ks : List ℕ) (ys : List Argument) → AllNamedTaken value n [] (g ∷ ns) ks ys → ⊥
none_named value n g ns [] ys h = h
none_named value n g ns (k ∷ ks) [] h = h
none_named value n g ns (k ∷ ks) (y ∷ ys) h = let e : ◌≡◌ {A = Option (ℕ × project.Parameter)} None (Some (k, h.0.parameter)) = h.0.found in absurd cc

some_written : (value : Declared → plain_terms.Term → Place → Option bound.Expr) (s : Scope) (takes : Bool) (qs : List Written_parameter) (gs : List Given) (xs : List Argument) (left : List project.Parameter) (n : ℕ) (g : Given) (ns : List Given) (ks : List ℕ)
    (ys : List Argument) → AllTaken value (bound_parameters s takes qs) gs xs left → AllNamedTaken value n left (g ∷ ns) ks ys → (length qs == 0) ≡ false
some_written value s takes [] [] [] left n g ns ks ys t h = absurd (none_named value n g ns ks ys (subst (λ l. AllNamedTaken value n l (g ∷ ns) ks ys) (sym t) h))
some_written value s takes [] [] (x ∷ xs) left n g ns ks ys t h = absurd t
some_written value s takes [] (f ∷ gs) xs left n g ns ks ys t h = absurd t
some_written value s takes (q ∷ qs) gs xs left n g ns ks ys t h = ne_eqb (length (q ∷ qs)) 0 (λ (e : length (q ∷ qs) ≡ 0). omega (arith, e))

no_index : (w : Written) (gs : List Given) → (length w.parameters == 0) ≡ false → indexes_value w gs ≡ false
no_index w [] h = refl
no_index w (g ∷ gs) h = ap (λ b. is_get w.kind && b) h ∙ and_no (is_get w.kind)

pub call_is : (env : Env) (place : Place) (gs : List Given) (base : Option bound.Expr) (space : Space) (number : ℕ) (w : Written) (read : ℕ × Written) (procedure : ℕ) (of : Declared) (parameters : List project.Parameter)
    (args : bound.Args) → reader env.scope space number w ≡ Some read → procedure ≡ procedure_number env.scope space read.0 → parameters ≡ parameters_in env.scope space read.1 → of ≡ call_type env.scope space read.1
    → (length read.1.parameters == 0) ≡ false → bound_arguments (argument_of env) parameters gs ≡ Some args → call_with env place gs base space number w ≡ a_value (call_node base procedure args) of
call_is env place gs base space number w read procedure of parameters args reads number_is parameters_are of_is some given =
    called_valued env place gs base space number w read procedure of parameters args reads number_is parameters_are of_is (no_index read.1 gs some) given

names_long : (value : Declared → plain_terms.Term → Place → Option bound.Expr) (n : ℕ) (ps : List project.Parameter) (gs : List Given) (ks : List ℕ) (xs : List Argument) → AllNamedTaken value n ps gs ks xs → length ks ≡ length xs
names_long value n ps [] [] [] h = refl
names_long value n ps [] [] (y ∷ xs) h = absurd h
names_long value n ps [] (j ∷ ks) xs h = absurd h
names_long value n ps (f ∷ gs) [] xs h = absurd h
names_long value n ps (f ∷ gs) (j ∷ ks) [] h = absurd h
names_long value n ps (f ∷ gs) (j ∷ ks) (y ∷ xs) h = omega (arith, names_long value n ps gs ks xs h.1)

-- all arguments by an order, behind what was pushed
pub record InOrderBound (env : Env) (t : Tables) (parameters : List project.Parameter) (o : Ordered) (gs : List Given) (ps below : List Piece) : Type 0 where
  pub all : List Argument
  pub places : List ℕ
  pub bound : bound_arguments (argument_of env) parameters gs ≡ Some (in_order places (args_of all))
  pub arguments_is : o.arguments ≡ length all
  pub order_is : order_in t o.order ≡ places
  pub on_top : ps ≡ above (map an_argument all) below

pub in_order_bound : (env : Env) (t : Tables) (parameters : List Parameter) (x : Passed) (named : List ℕ) (o : Ordered) (gs : List Given) (xs : List Argument) (g : Given) (ns : List Given) (ys : List Argument) (between below : List Piece)
    (d e : Drafted) → EndsInOrder parameters x named d e o → t ≡ e.tables → AllTaken (argument_of env) (map parameter_view parameters) gs xs (map parameter_view x.left.now) → x.count ≡ length xs
    → AllNamedTaken (argument_of env) x.count (map parameter_view x.left.now) (g ∷ ns) named ys → d.pieces ≡ above (map an_argument ys) between → between ≡ above (map an_argument xs) below
    → InOrderBound env t (map parameter_view parameters) o (gs ++ g ∷ ns) e.pieces below
in_order_bound env t parameters x named o gs xs g ns ys between below d e h same taken counted by_name a b =
    let value = argument_of env in
    let ps = map parameter_view parameters in
    let left = map parameter_view x.left.now in
    let N : ℕ → Type 0 = λ c. AllNamedTaken value c left (g ∷ ns) named ys in
    let U : ℕ → Type 0 = λ c. all_apart (numbers_given c named) ≡ true in
    let V : ℕ → Type 0 = λ c. AllLeft (others 0 ps (numbers_given c named)) h.made in
    let names = subst N counted by_name in
    record {
      all = (xs ++ ys) ++ h.made;
      places = places_from 0 (length ps) (numbers_pushed (length ps) (numbers_given (length xs) named));
      bound = named_bound value ps gs xs left g ns named ys h.made taken names (subst U counted h.apart) (subst V counted h.left);
      arguments_is = h.arguments_is ∙ omega (arith, counted, length-append (xs ++ ys) h.made, length-append xs ys, names_long value (length xs) left (g ∷ ns) named ys names);
      order_is =
          ap (λ u. order_in u o.order) same ∙ h.order_is ∙ ap (λ c. places_from 0 c (numbers_pushed c (numbers_given x.count named))) (sym (parameters_long parameters))
          ∙ ap (λ c. places_from 0 (length ps) (numbers_pushed (length ps) (numbers_given c named))) counted;
      on_top = h.on_top ∙ ap (λ st. above (map an_argument h.made) st) (a ∙ ap (λ st. above (map an_argument ys) st) b ∙ sym (above_map xs ys below)) ∙ sym (above_map (xs ++ ys) h.made below);
    }

-- the value of a call, behind what was pushed
pub call_stands : (env : Env) (t : Tables) (r : Routine) (x : Passed) (d e : Drafted) (named : List ℕ) (ending : Ending) (y : plain_terms.Term) (place : Place) (gs : List Given) (xs : List Argument) (g : Given) (ns : List Given) (ys : List Argument)
    (between there below : List Piece) → EndsNamed r x named d e ending → t ≡ e.tables → (s : RoutineIs env r y) → ReceiverThere s.base there below → AllTaken (argument_of env) (map parameter_view r.parameters.now) gs xs (map parameter_view x.left.now) → x.count ≡ length xs
    → AllNamedTaken (argument_of env) x.count (map parameter_view x.left.now) (g ∷ ns) named ys → d.pieces ≡ above (map an_argument ys) between → between ≡ above (map an_argument xs) there
    → ValueStands t ending (indexed env place y (gs ++ g ∷ ns)) e.pieces below
call_stands env t r x d e named ending y place gs xs g ns ys between there below h same s on taken counted by_name a b =
    let value = argument_of env in
    let ps = map parameter_view r.parameters.now in
    let left = map parameter_view x.left.now in
    let o = h.ordered in
    let m = in_order_bound env t r.parameters.now x named o gs xs g ns ys between there d e h.ends same taken counted by_name a b in
    let args = in_order m.places (args_of m.all) in
    let N : ℕ → Type 0 = λ c. AllNamedTaken value c left (g ∷ ns) named ys in
    let A : List project.Parameter → Type 0 = λ l. AllTaken value l gs xs left in
    let some : (length s.read.1.parameters == 0) ≡ false = some_written value (scope_in (home env.scope s.space) s.read.1) _ s.read.1.parameters gs xs left (length xs) g ns named ys (subst A s.parameters_are taken) (subst N counted by_name) in
    let P : Ending → Type 0 = λ z. ValueStands t z (indexed env place y (gs ++ g ∷ ns)) e.pieces below in
    let z = plain_terms.routine_term s.base s.space s.number s.written in
    let all = gs ++ g ∷ ns in
    subst P (sym h.ending_is) (record {
      made = call_node s.base r.procedure args;
      is = ap (λ w. indexed env place w all) s.is ∙ ap (λ w. term_or w (wrong_term env place z all)) (taken_routine env place s.base s.space s.number s.written all
          ∙ call_is env place all s.base s.space s.number s.written s.read r.procedure (declared_view r.of) ps args s.reads s.procedure_is s.parameters_are s.of_is some m.bound);
      ends = call_ends t r.receiver s.base r.procedure o.arguments o.order m.places m.all e.pieces there below s.received on m.arguments_is m.order_is m.on_top;
    })

kind_named : (t : Tables) (r : Receiver) (procedure count order : ℕ) → order < length t.orders → NodeNamed t (named_kind r procedure count order)
kind_named t receiver.Module procedure count order h = h
kind_named t (receiver.Own of) procedure count order h = h
kind_named t (receiver.Pushed of) procedure count order h = h

pub ending_named : (r : Routine) (x : Passed) (named : List ℕ) (d e : Drafted) (ending : Ending) → EndsNamed r x named d e ending → NodeNamed e.tables ending.kind
ending_named r x named d e ending h = let P : Ending → Type 0 = λ z. NodeNamed e.tables z.kind in subst P (sym h.ending_is) (kind_named e.tables r.receiver r.procedure h.ordered.arguments h.ordered.order h.ends.order_named)

-- there is a name
none_given : (value : Declared → plain_terms.Term → Place → Option bound.Expr) (n : ℕ) (ps : List project.Parameter) (k : ℕ) (ks : List ℕ) (xs : List Argument) → AllNamedTaken value n ps [] (reverse (k ∷ ks)) xs → ⊥
none_given value n ps k ks xs h = at (reverse ks) xs (subst (λ l. AllNamedTaken value n ps [] l xs) (reverse-append (k ∷ []) ks) h)
  where
    at : (js : List ℕ) (xs : List Argument) → AllNamedTaken value n ps [] (js ++ k ∷ []) xs → ⊥
    at [] xs h = h
    at (j ∷ js) xs h = h

called_stands : (env : Env) (x : Call) (d e : Drafted) (named : List ℕ) (ending : Ending) (y : Expr) (before : Args) (given : List Given) (made : List Argument) (gs : List Given) (between below : List Piece) → (given ≡ [] → ⊥) → EndsNamed x.routine x.passed named d e ending
    → gs ≡ givens env before ++ given → CallStands env x y before between below → AllNamedTaken (argument_of env) x.passed.count (map parameter_view x.passed.left.now) given named made → d.pieces ≡ above (map an_argument made) between
    → ValueStands e.tables ending (indexed env (place_told y) (callee env y (term_of env y)) gs) e.pieces below
called_stands env x d e named ending y before [] made gs between below some h is s names a = absurd (some refl)
called_stands env x d e named ending y before (g ∷ ns) made gs between below some h is s names a =
    let A : List Given → Type 0 = λ l. ValueStands e.tables ending (indexed env (place_told y) (callee env y (term_of env y)) l) e.pieces below in
    let p = s.passed in
    subst A (sym is) (call_stands env e.tables x.routine x.passed d e named ending (callee env y (term_of env y)) (place_told y) (givens env before) p.made g ns made between s.between below h refl s.routine s.there p.taken p.count_is names a p.on_top)

index_stands : (env : Env) (x : Call) (k : ℕ) (ks : List ℕ) (ending : Ending) (known : Bor Declarations) → declared_in env.scope ≡ declarations_view known.now → (left right : Token) (xs : List Item) (d e : Drafted) → AllNamed d.tables xs → EndsNamed x.routine x.passed (reverse (k ∷ ks)) d e ending → (is : List nodes.Item)
    (base : Base) → Stands env d.tables (with_named (k ∷ ks) (item.Call x ∷ xs)) is d.pieces base
    → Stands env e.tables (item.Tree (record { place = x.place; name = None; dotted = None; term = term.Value ending; declared = known }) ∷ xs) (behind_node (node.Index left right) is) e.pieces base
index_stands env x k ks ending known w left right xs d e n c [] base h = absurd h
index_stands env x k ks ending known w left right xs d e n c (nodes.tree y ∷ is) base h = absurd h
index_stands env x k ks ending known w left right xs d e n c (nodes.arguments args ∷ []) base h =
    let u = unpacked env d.tables (k ∷ ks) (item.Call x) xs x.passed args [] d.pieces base refl h in absurd u.stands
index_stands env x k ks ending known w left right xs d e n c (nodes.arguments args ∷ nodes.arguments more ∷ is) base h =
    let u = unpacked env d.tables (k ∷ ks) (item.Call x) xs x.passed args (nodes.arguments more ∷ is) d.pieces base refl h in absurd u.stands
index_stands env x k ks ending known w left right xs d e n c (nodes.arguments args ∷ nodes.tree y ∷ is) base h =
    let u = unpacked env d.tables (k ∷ ks) (item.Call x) xs x.passed args (nodes.tree y ∷ is) d.pieces base refl h in
    let s = u.stands.1.0 in
    let below = u.stands.0 in
    let T : plain_terms.Term → Type 0 = λ z. ValueStands e.tables ending (indexed env (place_told y) z (givens env args)) e.pieces below in
    let N : List Given → Type 0 = λ l. AllNamedTaken (argument_of env) x.passed.count (map parameter_view x.passed.left.now) l (reverse (k ∷ ks)) u.made in (
      below,
      (
        record {
          term_is = subst T (sym (routine_item env (place_told y) (callee env y (term_of env y)) s.routine.base s.routine.space s.routine.number s.routine.written s.routine.is))
              (called_stands env x d e (reverse (k ∷ ks)) ending y u.before u.given u.made (givens env args) u.between below (λ z. none_given (argument_of env) x.passed.count (map parameter_view x.passed.left.now) k ks u.made (subst N z u.taken)) c u.givens_are s u.taken u.on_top);
          place_is = s.place_is;
          name_is = refl;
          qualifier_is = refl;
          leaf = tt;
          declared_is = w;
        },
        stands_grows env d.tables e.tables c.ends.grown.tables xs n is below base u.stands.1.1,
      ),
    )

index_some : (env : Env) (x : Call) (ks : List ℕ) (ending : Ending) (known : Bor Declarations) → declared_in env.scope ≡ declarations_view known.now → (left right : Token) (xs : List Item) (d e : Drafted) → (ks ≡ [] → ⊥) → AllNamed d.tables xs → EndsNamed x.routine x.passed (reverse ks) d e ending → (is : List nodes.Item)
    (base : Base) → Stands env d.tables (with_named ks (item.Call x ∷ xs)) is d.pieces base
    → Stands env e.tables (item.Tree (record { place = x.place; name = None; dotted = None; term = term.Value ending; declared = known }) ∷ xs) (behind_node (node.Index left right) is) e.pieces base
index_some env x [] ending known w left right xs d e some n c is base h = absurd (some refl)
index_some env x (k ∷ ks) ending known w left right xs d e some n c is base h = index_stands env x k ks ending known w left right xs d e n c is base h

pub goes_index : (env : Env) (x : Call) (ks : List ℕ) (ending : Ending) (known : Bor Declarations) → declared_in env.scope ≡ declarations_view known.now → (left right : Token) (xs old new : List Item) (d e : Drafted) → (ks ≡ [] → ⊥) → old ≡ item.Call x ∷ xs
    → new ≡ item.Tree (record { place = x.place; name = None; dotted = None; term = term.Value ending; declared = known }) ∷ xs → AllNamed d.tables old → EndsNamed x.routine x.passed (reverse ks) d e ending
    → Goes env d (with_named ks old) e new (behind_node (node.Index left right))
goes_index env x ks ending known w left right xs old new d e some o n k c =
    let g = behind_node (node.Index left right) in
    let y = item.Tree (record { place = x.place; name = None; dotted = None; term = term.Value ending; declared = known }) in
    let N : List Item → Type 0 = λ l. AllNamed d.tables l in
    let A : List Item → Type 0 = λ l. Goes env d (with_named ks l) e new g in
    let B : List Item → Type 0 = λ l. Goes env d (with_named ks (item.Call x ∷ xs)) e l g in
    let all = subst N o k in
    subst A (sym o) (subst B (sym n) (record {
      grown = c.ends.grown;
      named = (ending_named x.routine x.passed (reverse ks) d e ending c, all_named d.tables e.tables c.ends.grown.tables xs all.1);
      stands = λ is base h. index_some env x ks ending known w left right xs d e some all.1 c is base h;
    }))
