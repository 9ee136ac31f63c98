-- What values for a ParamArray do to the stack, and the calls that they end.
use Rattle.std.proofs.Common.{Bor, ◌≡◌, ℕ, zero, suc, ◌+◌, ◌==◌, ◌<◌, ◌≤◌, Bool, true, false, ◌||◌, List, [], ◌∷◌, ◌++◌, map, length, Option, Some, None, refl, sym, ap, subst, ◌∙◌, arith, length-append, append-nil, append_assoc, eq-eqb, ne_eqb}
use Rattle.std.proofs.lemmas.List.{map_push}
use Rattle.vba_base.specs.declared.place.Place.{Place}
use Rattle.vba_lexer.specs.declared.token.Token.{Token}
use Rattle.vba_expression.specs.declared.node.ExpressionNode.TheVariants as node
use Rattle.vba_expression.specs.Tree.{Expr, Args, no_args, missing, plain}
use Rattle.vba_expression.specs.Tree as tree
use Rattle.vba_expression.specs.Nodes as nodes
use Rattle.vba_expression.specs.Nodes.{behind_node}
use Rattle.vba_tree.specs.Tree.{Parameter as Written_parameter}
use Rattle.vba_values.specs.Types.{Declared}
use Rattle.vba_values.specs.Types as type
use Rattle.bound_project.specs.declared.declared_type.DeclaredType.{DeclaredType}
use Rattle.bound_project.specs.declared.declared_type.DeclaredType.TheVariants.{Plain}
use Rattle.bound_project.specs.declared.declared_type.ElementType.TheVariants as element
use Rattle.bound_project.specs.Project.{nowhere}
use Rattle.bound_project.specs.declared.declarations.Parameter.{Parameter}
use Rattle.bound_project.specs.declared.node.NodeKind.{NodeKind}
use Rattle.bound_project.specs.declared.node.NodeKind.TheVariants as kind
use Rattle.bound_project.specs.declared.node.Node.{Node}
use Rattle.bound_project.specs.declared.declarations.Declarations.{Declarations}
use Rattle.bound_project.specs.View.{declarations_view, declared_view, parameter_view}
use Rattle.bound_project.specs.Expressions.{Exprs}
use Rattle.bound_project.specs.Expressions as bound
use Rattle.bound_project.specs.Lists.{above, args_of, exprs_of}
use Rattle.bound_project.proofs.Lists.{above_push, args_are, exprs_are}
use Rattle.bound_project.specs.Pieces.{Argument, Piece, Tables, an_argument, an_expr, arguments_off, exprs_off, of_found, put, put_kind, values_listed}
use Rattle.bound_project.specs.Project as project
use Rattle.bound_project.specs.Drafts.{Drafted, NodeNamed}
use Rattle.bound_members.specs.bound_calls.specs.bound_declarations.specs.constant_values.specs.declared_names.specs.binder.specs.Constants.{home}
use Rattle.bound_members.specs.bound_calls.specs.bound_declarations.specs.constant_values.specs.declared_names.specs.binder.specs.Names.{scope_in}
use Rattle.bound_members.specs.bound_calls.specs.bound_declarations.specs.constant_values.specs.declared_names.specs.binder.specs.Scopes.{Scope}
use Rattle.bound_members.specs.bound_calls.specs.bound_declarations.specs.constant_values.specs.declared_names.specs.binder.specs.Storage.{bound_parameters}
use Rattle.bound_members.specs.bound_calls.specs.bound_forms.specs.Terms.{Env, Given, Item as Taken_item, are_apart, bound_arguments, built, by_position, has_names, left_over, listed_values, routine_term, taken_by}
use Rattle.bound_members.specs.bound_calls.specs.bound_forms.specs.Terms as terms
use Rattle.bound_members.specs.bound_calls.specs.bound_forms.specs.ClassDefaults.{declared_in}
use Rattle.bound_members.specs.bound_calls.specs.bound_forms.specs.Operands.{argument_of, term_or, place_told, call_node}
use Rattle.bound_members.specs.bound_calls.specs.bound_forms.specs.ExpressionsBound.{callee, givens, indexed, term_of, wrong_term}
use Rattle.bound_members.specs.bound_calls.specs.declared.term.Call.{Call}
use Rattle.bound_members.specs.bound_calls.specs.declared.term.Ending.{Ending}
use Rattle.bound_members.specs.bound_calls.specs.declared.term.Item.{Item}
use Rattle.bound_members.specs.bound_calls.specs.declared.term.Item.TheVariants as item
use Rattle.bound_members.specs.bound_calls.specs.declared.term.Passed.{Passed}
use Rattle.bound_members.specs.bound_calls.specs.declared.term.Routine.{Routine}
use Rattle.bound_members.specs.bound_calls.specs.declared.term.Term.TheVariants as term
use Rattle.bound_members.specs.bound_calls.specs.declared.term.Tree.{Tree}
use Rattle.bound_members.specs.bound_calls.specs.Calls.{ArgumentIs, PassesRest, PushesArgument, node_of, passed_in}
use Rattle.bound_members.specs.bound_calls.specs.Passing.{AllLeft, AllTaken}
use Rattle.bound_members.specs.bound_calls.specs.Standing.{AllListed, AllNamed, Base, GatheredAbove, GatheredStands, Stands, ValueStands, gathered_below, is_gathering, missing_given, missing_value, plain_given, ReceiverThere, RoutineIs}
use Rattle.bound_members.specs.bound_calls.specs.Steps.{Goes}
use Rattle.bound_members.specs.bound_calls.proofs.CallSteps.{parameters_long, routine_item, tree_ended, call_named, call_taken, taken_routine}
use Rattle.bound_members.specs.bound_calls.proofs.Arguing.{left_long}
use Rattle.bound_members.specs.bound_calls.proofs.Growing.{all_named, grown_pieces, grown_twice, stands_grows}
use Rattle.bound_members.specs.bound_calls.proofs.NamedSteps.{call_is}
use Rattle.bound_members.specs.bound_calls.proofs.Passing.{bound_by, built_rest, is_for, other_number, rest_from, rest_is}
use Rattle.bound_operands.specs.Gathering.{EndsGathered, PassesGathered, gathers, with_gathered}
use Rattle.bound_members.proofs.Listing.{every_listed, listed_more, listed_nameless, value_given, value_missing}

-- ---- values on the stack

pub gathered_more : (n : ℕ) (xs : List Item) → with_gathered n (item.Gathered ∷ xs) ≡ with_gathered (suc n) xs
gathered_more zero xs = refl
gathered_more (suc n) xs = ap (λ l. item.Gathered ∷ l) (gathered_more n xs)

pub named_below : (t : Tables) (n : ℕ) (xs : List Item) → AllNamed t (with_gathered n xs) → AllNamed t xs
named_below t zero xs h = h
named_below t (suc n) xs h = named_below t n xs h.1

first_below : (i : Item) (xs : List Item) (p : Passed) → passed_in i ≡ Some p → gathered_below (i ∷ xs) ≡ Some p
first_below (item.Call x) xs p f = f
first_below (item.Listed x) xs p f = f
first_below (item.Tree x) xs p f = let e : None ≡ Some p = f in absurd cc
first_below (item.Operand x) xs p f = let e : None ≡ Some p = f in absurd cc
first_below (item.Indexed x) xs p f = let e : None ≡ Some p = f in absurd cc
first_below (item.Function x) xs p f = let e : None ≡ Some p = f in absurd cc
first_below (item.Member x) xs p f = let e : None ≡ Some p = f in absurd cc
first_below (item.Named x) xs p f = let e : None ≡ Some p = f in absurd cc
first_below item.Gathered xs p f = let e : None ≡ Some p = f in absurd cc
first_below (item.Untaken x) xs p f = let e : None ≡ Some p = f in absurd cc
first_below item.Unlisted xs p f = let e : None ≡ Some p = f in absurd cc
first_below (item.Shape s) xs p f = let e : None ≡ Some p = f in absurd cc

below_gathered : (n : ℕ) (i : Item) (xs : List Item) (p : Passed) → passed_in i ≡ Some p → gathered_below (with_gathered n (i ∷ xs)) ≡ Some p
below_gathered zero i xs p f = first_below i xs p f
below_gathered (suc n) i xs p f = below_gathered n i xs p f

-- ---- one more value

abbrev pub variant : DeclaredType
variant = Plain element.Variant

one_above : (env : Env) (p : Passed) (e : Expr) (ps below : List Piece) → is_gathering (map parameter_view p.left.now) ≡ true → ArgumentIs (argument_of env type.variant (term_of env e) (place_told e)) ps below
    → GatheredStands env p (plain_given env e) ps below
one_above env p e ps below many h = record { many = many; made = h.made; is = value_given (argument_of env type.variant) (term_of env e) (place_told e) h.made h.is; on_top = h.on_top }

another_above : (env : Env) (o : Option Passed) (g : Given) (f : Expr) (ps between below : List Piece) → GatheredAbove env o g between below → ArgumentIs (argument_of env type.variant (term_of env f) (place_told f)) ps between
    → GatheredAbove env o (plain_given env f) ps between
another_above env None g f ps between below h k = absurd h
another_above env (Some p) g f ps between below h k = one_above env p f ps between h.many k

gather_stands : (env : Env) (x : Tree) (i : Item) (xs : List Item) (comma : Option Token) (d e : Drafted) → gathers i ≡ true → AllNamed d.tables (i ∷ xs) → PushesArgument variant x d e → (is : List nodes.Item) (base : Base)
    → Stands env d.tables (item.Tree x ∷ i ∷ xs) is d.pieces base → Stands env e.tables (item.Gathered ∷ i ∷ xs) (behind_node (node.PlainArgument comma) is) e.pieces base
gather_stands env x i xs comma d e g k m [] base h = absurd h
gather_stands env x i xs comma d e g k m (nodes.arguments args ∷ is) base h = absurd h
gather_stands env x (item.Tree y) xs comma d e g k m (nodes.tree a ∷ is) base h = let n : false ≡ true = g in absurd cc
gather_stands env x (item.Operand y) xs comma d e g k m (nodes.tree a ∷ is) base h = let n : false ≡ true = g in absurd cc
gather_stands env x (item.Indexed y) xs comma d e g k m (nodes.tree a ∷ is) base h = let n : false ≡ true = g in absurd cc
gather_stands env x (item.Function y) xs comma d e g k m (nodes.tree a ∷ is) base h = let n : false ≡ true = g in absurd cc
gather_stands env x (item.Member y) xs comma d e g k m (nodes.tree a ∷ is) base h = let n : false ≡ true = g in absurd cc
gather_stands env x (item.Named y) xs comma d e g k m (nodes.tree a ∷ is) base h = let n : false ≡ true = g in absurd cc
gather_stands env x (item.Untaken y) xs comma d e g k m (nodes.tree a ∷ is) base h = let n : false ≡ true = g in absurd cc
gather_stands env x item.Unlisted xs comma d e g k m (nodes.tree a ∷ is) base h = let n : false ≡ true = g in absurd cc
gather_stands env x (item.Shape s) xs comma d e g k m (nodes.tree a ∷ is) base h = let n : false ≡ true = g in absurd cc
gather_stands env x (item.Call y) xs comma d e g k m (nodes.tree a ∷ []) base h = absurd h.1.1
gather_stands env x (item.Call y) xs comma d e g k m (nodes.tree a ∷ nodes.tree b ∷ is) base h = absurd h.1.1
gather_stands env x (item.Call y) xs comma d e g k m (nodes.tree a ∷ nodes.arguments args ∷ is) base h =
    (h.0, (one_above env y.passed a e.pieces h.0 g (m.stands env a h.0 h.1.0), stands_grows env d.tables e.tables m.grown.tables (item.Call y ∷ xs) k (nodes.arguments args ∷ is) h.0 base h.1.1))
gather_stands env x (item.Listed y) xs comma d e g k m (nodes.tree a ∷ []) base h = absurd h.1.1
gather_stands env x (item.Listed y) xs comma d e g k m (nodes.tree a ∷ nodes.tree b ∷ is) base h = absurd h.1.1
gather_stands env x (item.Listed y) xs comma d e g k m (nodes.tree a ∷ nodes.arguments args ∷ is) base h =
    (h.0, (one_above env y a e.pieces h.0 g (m.stands env a h.0 h.1.0), stands_grows env d.tables e.tables m.grown.tables (item.Listed y ∷ xs) k (nodes.arguments args ∷ is) h.0 base h.1.1))
gather_stands env x item.Gathered xs comma d e g k m (nodes.tree a ∷ []) base h = absurd h.1.1
gather_stands env x item.Gathered xs comma d e g k m (nodes.tree a ∷ nodes.tree b ∷ is) base h = absurd h.1.1
gather_stands env x item.Gathered xs comma d e g k m (nodes.tree a ∷ nodes.arguments no_args ∷ is) base h = absurd h.1.1
gather_stands env x item.Gathered xs comma d e g k m (nodes.tree a ∷ nodes.arguments (missing before other) ∷ is) base h = (
  h.0,
  (
    another_above env (gathered_below xs) missing_given a e.pieces h.0 h.1.1.0 h.1.1.1.0 (m.stands env a h.0 h.1.0),
    stands_grows env d.tables e.tables m.grown.tables (item.Gathered ∷ xs) k (nodes.arguments (missing before other) ∷ is) h.0 base h.1.1,
  ),
)
gather_stands env x item.Gathered xs comma d e g k m (nodes.tree a ∷ nodes.arguments (tree.named before other name sign b) ∷ is) base h = absurd h.1.1
gather_stands env x item.Gathered xs comma d e g k m (nodes.tree a ∷ nodes.arguments (plain before other b) ∷ is) base h = (
  h.0,
  (
    another_above env (gathered_below xs) (plain_given env b) a e.pieces h.0 h.1.1.0 h.1.1.1.0 (m.stands env a h.0 h.1.0),
    stands_grows env d.tables e.tables m.grown.tables (item.Gathered ∷ xs) k (nodes.arguments (plain before other b) ∷ is) h.0 base h.1.1,
  ),
)

pub goes_gathered : (env : Env) (x : Tree) (i : Item) (xs new : List Item) (comma : Option Token) (d e : Drafted) → new ≡ item.Gathered ∷ i ∷ xs → gathers i ≡ true → AllNamed d.tables (item.Tree x ∷ i ∷ xs)
    → PushesArgument variant x d e → Goes env d (item.Tree x ∷ i ∷ xs) e new (behind_node (node.PlainArgument comma))
goes_gathered env x i xs new comma d e n g k m =
    let B : List Item → Type 0 = λ l. Goes env d (item.Tree x ∷ i ∷ xs) e l (behind_node (node.PlainArgument comma)) in
    subst B (sym n) (record {
      grown = m.grown;
      named = (tt, all_named d.tables e.tables m.grown.tables (i ∷ xs) k.1);
      stands = λ is base h. gather_stands env x i xs comma d e g k.1 m is base h;
    })

-- ---- one more value, which isn't written

abbrev pub missing_put : Drafted → Drafted
missing_put d = record d { pieces = put d.tables (node_of kind.NotGiven nowhere (Plain element.Variant)) d.pieces }

none_above : (env : Env) (p : Passed) (ps : List Piece) → is_gathering (map parameter_view p.left.now) ≡ true → GatheredStands env p missing_given (an_expr missing_value ∷ ps) ps
none_above env p ps many = record { many = many; made = missing_value; is = value_missing (argument_of env type.variant); on_top = refl }

another_none : (env : Env) (o : Option Passed) (g : Given) (ps below : List Piece) → GatheredAbove env o g ps below → GatheredAbove env o missing_given (an_expr missing_value ∷ ps) ps
another_none env None g ps below h = absurd h
another_none env (Some p) g ps below h = none_above env p ps h.many

missing_stands : (env : Env) (i : Item) (xs : List Item) (comma : Option Token) (d : Drafted) → gathers i ≡ true → (is : List nodes.Item) (base : Base) → Stands env d.tables (i ∷ xs) is d.pieces base
    → Stands env d.tables (item.Gathered ∷ i ∷ xs) (behind_node (node.MissingArgument comma) is) (an_expr missing_value ∷ d.pieces) base
missing_stands env (item.Tree y) xs comma d g is base h = let n : false ≡ true = g in absurd cc
missing_stands env (item.Operand y) xs comma d g is base h = let n : false ≡ true = g in absurd cc
missing_stands env (item.Indexed y) xs comma d g is base h = let n : false ≡ true = g in absurd cc
missing_stands env (item.Function y) xs comma d g is base h = let n : false ≡ true = g in absurd cc
missing_stands env (item.Member y) xs comma d g is base h = let n : false ≡ true = g in absurd cc
missing_stands env (item.Named y) xs comma d g is base h = let n : false ≡ true = g in absurd cc
missing_stands env (item.Untaken y) xs comma d g is base h = let n : false ≡ true = g in absurd cc
missing_stands env item.Unlisted xs comma d g is base h = let n : false ≡ true = g in absurd cc
missing_stands env (item.Shape s) xs comma d g is base h = let n : false ≡ true = g in absurd cc
missing_stands env (item.Call y) xs comma d g [] base h = absurd h
missing_stands env (item.Call y) xs comma d g (nodes.tree a ∷ is) base h = absurd h
missing_stands env (item.Call y) xs comma d g (nodes.arguments args ∷ is) base h = (d.pieces, (none_above env y.passed d.pieces g, h))
missing_stands env (item.Listed y) xs comma d g [] base h = absurd h
missing_stands env (item.Listed y) xs comma d g (nodes.tree a ∷ is) base h = absurd h
missing_stands env (item.Listed y) xs comma d g (nodes.arguments args ∷ is) base h = (d.pieces, (none_above env y d.pieces g, h))
missing_stands env item.Gathered xs comma d g [] base h = absurd h
missing_stands env item.Gathered xs comma d g (nodes.tree a ∷ is) base h = absurd h
missing_stands env item.Gathered xs comma d g (nodes.arguments no_args ∷ is) base h = absurd h
missing_stands env item.Gathered xs comma d g (nodes.arguments (tree.named before other name sign b) ∷ is) base h = absurd h
missing_stands env item.Gathered xs comma d g (nodes.arguments (missing before other) ∷ is) base h = (d.pieces, (another_none env (gathered_below xs) missing_given d.pieces h.0 h.1.0, h))
missing_stands env item.Gathered xs comma d g (nodes.arguments (plain before other b) ∷ is) base h = (d.pieces, (another_none env (gathered_below xs) (plain_given env b) d.pieces h.0 h.1.0, h))

pub goes_none : (env : Env) (i : Item) (xs new : List Item) (comma : Option Token) (d e : Drafted) → new ≡ item.Gathered ∷ i ∷ xs → gathers i ≡ true → AllNamed d.tables (i ∷ xs) → e ≡ missing_put d
    → Goes env d (i ∷ xs) e new (behind_node (node.MissingArgument comma))
goes_none env i xs new comma d e n g k eq =
    let A : Drafted → Type 0 = λ z. Goes env d (i ∷ xs) z new (behind_node (node.MissingArgument comma)) in
    let B : List Item → Type 0 = λ l. Goes env d (i ∷ xs) (missing_put d) l (behind_node (node.MissingArgument comma)) in
    subst A (sym eq) (subst B (sym n) (record {
      grown = grown_pieces d (put d.tables (node_of kind.NotGiven nowhere (Plain element.Variant)) d.pieces);
      named = (tt, k);
      stands = λ is base h. missing_stands env i xs comma d g is base h;
    }))

-- ---- what stands below the values

pub record Ungathered (env : Env) (t : Tables) (n : ℕ) (i : Item) (xs : List Item) (args : Args) (is : List nodes.Item) (ps : List Piece) (base : Base) : Type 0 where
  pub before : Args
  pub given : List Given
  pub givens_are : givens env args ≡ givens env before ++ given
  pub made : List bound.Expr
  pub values : AllListed (argument_of env type.variant) given made
  pub count_is : length made ≡ n
  pub between : List Piece
  pub on_top : ps ≡ above (map an_expr made) between
  pub stands : Stands env t (i ∷ xs) (nodes.arguments before ∷ is) between base

push_long : {A : Type 0} (xs : List A) (x : A) → length (xs ++ x ∷ []) ≡ suc (length xs)
push_long [] x = refl
push_long (y ∷ xs) x = ap suc (push_long xs x)

above_value : (es : List bound.Expr) (e : bound.Expr) (st : List Piece) → above (map an_expr (es ++ e ∷ [])) st ≡ an_expr e ∷ above (map an_expr es) st
above_value es e st = ap (λ l. above l st) (map_push an_expr es e) ∙ above_push (map an_expr es) (an_expr e) st

ungathered_on : (env : Env) (t : Tables) (n : ℕ) (i : Item) (xs : List Item) (p : Passed) (before args : Args) (g : Given) (is : List nodes.Item) (ps below : List Piece) (base : Base) → givens env args ≡ givens env before ++ g ∷ [] → GatheredStands env p g ps below
    → Ungathered env t n i xs before is below base → Ungathered env t (suc n) i xs args is ps base
ungathered_on env t n i xs p before args g is ps below base eq s r =
    record {
      before = r.before;
      given = r.given ++ g ∷ [];
      givens_are = eq ∙ ap (λ l. l ++ g ∷ []) r.givens_are ∙ append_assoc (givens env r.before) r.given (g ∷ []);
      made = r.made ++ s.made ∷ [];
      values = listed_more (argument_of env type.variant) r.given r.made g s.made r.values s.is;
      count_is = push_long r.made s.made ∙ ap suc r.count_is;
      between = r.between;
      on_top = s.on_top ∙ ap (λ st. an_expr s.made ∷ st) r.on_top ∙ sym (above_value r.made s.made r.between);
      stands = r.stands;
    }

pub ungathered : (env : Env) (t : Tables) (n : ℕ) (i : Item) (xs : List Item) (p : Passed) (args : Args) (is : List nodes.Item) (ps : List Piece) (base : Base) → passed_in i ≡ Some p
    → Stands env t (with_gathered n (i ∷ xs)) (nodes.arguments args ∷ is) ps base → Ungathered env t n i xs args is ps base
ungathered env t zero i xs p args is ps base f h = record { before = args; given = []; givens_are = sym (append-nil (givens env args)); made = []; values = tt; count_is = refl; between = ps; on_top = refl; stands = h }
ungathered env t (suc n) i xs p no_args is ps base f h = absurd h
ungathered env t (suc n) i xs p (missing before comma) is ps base f h =
    let A : Option Passed → Type 0 = λ o. GatheredAbove env o missing_given ps h.0 in
    ungathered_on env t n i xs p before (missing before comma) missing_given is ps h.0 base refl (subst A (below_gathered n i xs p f) h.1.0) (ungathered env t n i xs p before is h.0 base f h.1.1)
ungathered env t (suc n) i xs p (tree.named before comma name sign e) is ps base f h = absurd h
ungathered env t (suc n) i xs p (plain before comma e) is ps base f h =
    let A : Option Passed → Type 0 = λ o. GatheredAbove env o (plain_given env e) ps h.0 in
    ungathered_on env t n i xs p before (plain before comma e) (plain_given env e) is ps h.0 base refl (subst A (below_gathered n i xs p f) h.1.0) (ungathered env t n i xs p before is h.0 base f h.1.1)

-- there is a value, so a ParamArray is left first
pub gathering : (env : Env) (t : Tables) (n : ℕ) (i : Item) (xs : List Item) (p : Passed) (args : Args) (is : List nodes.Item) (ps : List Piece) (base : Base) → passed_in i ≡ Some p
    → Stands env t (with_gathered (suc n) (i ∷ xs)) (nodes.arguments args ∷ is) ps base → is_gathering (map parameter_view p.left.now) ≡ true
gathering env t n i xs p no_args is ps base f h = absurd h
gathering env t n i xs p (missing before comma) is ps base f h =
    let A : Option Passed → Type 0 = λ o. GatheredAbove env o missing_given ps h.0 in
    let s : GatheredStands env p missing_given ps h.0 = subst A (below_gathered n i xs p f) h.1.0 in s.many
gathering env t n i xs p (tree.named before comma name sign e) is ps base f h = absurd h
gathering env t n i xs p (plain before comma e) is ps base f h =
    let A : Option Passed → Type 0 = λ o. GatheredAbove env o (plain_given env e) ps h.0 in
    let s : GatheredStands env p (plain_given env e) ps h.0 = subst A (below_gathered n i xs p f) h.1.0 in s.many

-- ---- the arguments of a call

-- what parameters take, by their numbers from a number on, the last one a list
abbrev list_item : ℕ → Exprs → Taken_item
list_item n es = record { parameter = n; add = λ rest. Some (bound.by_list es rest) }

abbrev gathered_from : (Declared → terms.Term → Place → Option bound.Expr) → ℕ → List project.Parameter → List Given → Exprs → List Taken_item
gathered_from value n [] gs es = []
gathered_from value n (p ∷ ps) [] es = list_item n es ∷ []
gathered_from value n (p ∷ ps) (g ∷ gs) es = record { parameter = n; add = taken_by value p g } ∷ gathered_from value (suc n) ps gs es

abbrev behind_list : ℕ → List project.Parameter → List Given → List Taken_item
behind_list n [] gs = []
behind_list n (p ∷ ps) [] = rest_from (suc n) ps
behind_list n (p ∷ ps) (g ∷ gs) = behind_list (suc n) ps gs

list_position : (value : Declared → terms.Term → Place → Option bound.Expr) (n : ℕ) (p : project.Parameter) (left : List project.Parameter) (g : Given) (ns : List Given) (es : Exprs) → p.many ≡ true → g.name ≡ None → has_names ns ≡ false → listed_values (value type.variant) (g ∷ ns) ≡ Some es
    → by_position value n (p ∷ left) (g ∷ ns) ≡ Some (list_item n es ∷ [])
list_position value n p left g ns es many name others listed = rw (name, many, others, listed) refl

positions : (value : Declared → terms.Term → Place → Option bound.Expr) (n : ℕ) (ps : List project.Parameter) (gs : List Given) (xs : List Argument) (p : project.Parameter) (left : List project.Parameter) (g : Given) (ns : List Given) (es : Exprs)
    → AllTaken value ps gs xs (p ∷ left) → p.many ≡ true → g.name ≡ None → has_names ns ≡ false → listed_values (value type.variant) (g ∷ ns) ≡ Some es → by_position value n ps (gs ++ g ∷ ns) ≡ Some (gathered_from value n ps gs es)
positions value n ps [] [] p left g ns es t many name others listed =
    let A : List project.Parameter → Type 0 = λ l. by_position value n l (g ∷ ns) ≡ Some (gathered_from value n l [] es) in subst A (sym t) (list_position value n p left g ns es many name others listed)
positions value n ps [] (x ∷ xs) p left g ns es t many name others listed = absurd t
positions value n [] (f ∷ gs) xs p left g ns es t many name others listed = absurd t
positions value n (q ∷ ps) (f ∷ gs) [] p left g ns es t many name others listed = absurd t
positions value n (q ∷ ps) (f ∷ gs) (x ∷ xs) p left g ns es t many name others listed = rw (t.0.no_name, t.0.no_list, positions value (suc n) ps gs xs p left g ns es t.1 many name others listed) refl

none_before : (value : Declared → terms.Term → Place → Option bound.Expr) (m n : ℕ) (ps : List project.Parameter) (gs : List Given) (es : Exprs) → m < n → is_for m (gathered_from value n ps gs es) ≡ false
none_before value m n [] gs es lt = refl
none_before value m n (p ∷ ps) [] es lt = ap (λ (b : Bool). b || false) (other_number m n lt)
none_before value m n (p ∷ ps) (g ∷ gs) es lt = ap (λ (b : Bool). b || is_for m (gathered_from value (suc n) ps gs es)) (other_number m n lt) ∙ none_before value m (suc n) ps gs es (omega (arith, lt))

apart : (value : Declared → terms.Term → Place → Option bound.Expr) (n : ℕ) (ps : List project.Parameter) (gs : List Given) (es : Exprs) → are_apart (gathered_from value n ps gs es) ≡ true
apart value n [] gs es = refl
apart value n (p ∷ ps) [] es = refl
apart value n (p ∷ ps) (g ∷ gs) es = rw (none_before value n (suc n) ps gs es (omega arith)) (apart value (suc n) ps gs es)

left_is : (value : Declared → terms.Term → Place → Option bound.Expr) (all : List Taken_item) (n : ℕ) (ps : List project.Parameter) (gs : List Given) (es : Exprs) → ((k : ℕ) → n ≤ k → is_for k all ≡ is_for k (gathered_from value n ps gs es))
    → left_over n ps all ≡ behind_list n ps gs
left_is value all n [] gs es h = refl
left_is value all n (p ∷ ps) [] es h =
    let here : is_for n all ≡ true = h n (omega arith) ∙ ap (λ (b : Bool). b || false) (eq-eqb n n refl) in
    let behind : (k : ℕ) → suc n ≤ k → is_for k all ≡ false = λ k le. h k (omega (arith, le)) ∙ ap (λ (b : Bool). b || false) (ne_eqb n k (λ (e : n ≡ k). omega (arith, le, e))) in
    rw here (rest_is all (suc n) ps behind)
left_is value all n (p ∷ ps) (g ∷ gs) es h =
    let here : is_for n all ≡ true = h n (omega arith) ∙ ap (λ (b : Bool). b || is_for n (gathered_from value (suc n) ps gs es)) (eq-eqb n n refl) in
    let behind : (k : ℕ) → suc n ≤ k → is_for k all ≡ is_for k (gathered_from value (suc n) ps gs es) =
    λ k le. h k (omega (arith, le)) ∙ ap (λ (b : Bool). b || is_for k (gathered_from value (suc n) ps gs es)) (ne_eqb n k (λ (e : n ≡ k). omega (arith, le, e))) in
    rw here (left_is value all (suc n) ps gs es behind)

built_list : (n : ℕ) (p : project.Parameter) (left : List project.Parameter) (es : Exprs) (ds : List Argument) → AllLeft left ds → built (list_item n es ∷ rest_from (suc n) left) ≡ Some (args_of (values_listed es ∷ ds))
built_list n p left es ds h = rw (built_rest (suc n) left ds h) refl

built_all : (value : Declared → terms.Term → Place → Option bound.Expr) (n : ℕ) (ps : List project.Parameter) (gs : List Given) (xs : List Argument) (p : project.Parameter) (left : List project.Parameter) (es : Exprs) (ds : List Argument)
    → AllTaken value ps gs xs (p ∷ left) → AllLeft left ds → built (gathered_from value n ps gs es ++ behind_list n ps gs) ≡ Some (args_of (xs ++ values_listed es ∷ ds))
built_all value n ps [] [] p left es ds t h =
    let A : List project.Parameter → Type 0 = λ l. built (gathered_from value n l [] es ++ behind_list n l []) ≡ Some (args_of (values_listed es ∷ ds)) in subst A (sym t) (built_list n p left es ds h)
built_all value n ps [] (x ∷ xs) p left es ds t h = absurd t
built_all value n [] (g ∷ gs) xs p left es ds t h = absurd t
built_all value n (q ∷ ps) (g ∷ gs) [] p left es ds t h = absurd t
built_all value n (q ∷ ps) (g ∷ gs) (x ∷ xs) p left es ds t h = rw (built_all value (suc n) ps gs xs p left es ds t.1 h) (t.0.makes (args_of (xs ++ values_listed es ∷ ds)))

nameless_more : (value : Declared → terms.Term → Place → Option bound.Expr) (ps : List project.Parameter) (gs : List Given) (xs : List Argument) (left : List project.Parameter) (ns : List Given) → AllTaken value ps gs xs left → has_names ns ≡ false
    → has_names (gs ++ ns) ≡ false
nameless_more value ps [] xs left ns t h = h
nameless_more value [] (g ∷ gs) xs left ns t h = absurd t
nameless_more value (p ∷ ps) (g ∷ gs) [] left ns t h = absurd t
nameless_more value (p ∷ ps) (g ∷ gs) (x ∷ xs) left ns t h = rw t.0.no_name (nameless_more value ps gs xs left ns t.1 h)

first_nameless : (value : Declared → terms.Term → Place → Option bound.Expr) (g : Given) (ns : List Given) (es : List bound.Expr) → AllListed (value type.variant) (g ∷ ns) es → g.name ≡ None
first_nameless value g ns [] h = absurd h
first_nameless value g ns (e ∷ es) h = h.0.no_name

others_nameless : (value : Declared → terms.Term → Place → Option bound.Expr) (g : Given) (ns : List Given) (es : List bound.Expr) → AllListed (value type.variant) (g ∷ ns) es → has_names ns ≡ false
others_nameless value g ns [] h = absurd h
others_nameless value g ns (e ∷ es) h = listed_nameless (value type.variant) ns es h.1

pub gathered_bound : (value : Declared → terms.Term → Place → Option bound.Expr) (ps : List project.Parameter) (gs : List Given) (xs : List Argument) (p : project.Parameter) (left : List project.Parameter) (g : Given) (ns : List Given) (es : List bound.Expr)
    (ds : List Argument) → AllTaken value ps gs xs (p ∷ left) → p.many ≡ true → AllListed (value type.variant) (g ∷ ns) es → AllLeft left ds → bound_arguments value ps (gs ++ g ∷ ns) ≡ Some (args_of (xs ++ values_listed (exprs_of es) ∷ ds))
gathered_bound value ps gs xs p left g ns es ds t many v h =
    let is = gathered_from value 0 ps gs (exprs_of es) in
    let listed = every_listed (value type.variant) (g ∷ ns) es v in
    bound_by value ps (gs ++ g ∷ ns) is (behind_list 0 ps gs) (args_of (xs ++ values_listed (exprs_of es) ∷ ds)) (positions value 0 ps gs xs p left g ns (exprs_of es) t many (first_nameless value g ns es v) (others_nameless value g ns es v) listed)
    (apart value 0 ps gs (exprs_of es)) (left_is value is 0 ps gs (exprs_of es) (λ k le. refl)) (built_all value 0 ps gs xs p left (exprs_of es) ds t h) (nameless_more value ps gs xs (p ∷ left) (g ∷ ns) t (listed_nameless (value type.variant) (g ∷ ns) es v))

-- ---- the ends of calls

pub passes_gathered : (x : Passed) (values : ℕ) (first : Parameter) (others : List Parameter) (d m e : Drafted) (count arguments : ℕ) (n : Node) → n.kind ≡ kind.ByList values → x.left.now ≡ first ∷ others → count ≡ length others → arguments ≡ x.count + 1 + count
    → m ≡ record d { pieces = put d.tables n d.pieces } → PassesRest others m e → PassesGathered x values d e arguments
passes_gathered x values first others d m e count arguments n kind_is left counted all made rest =
    let G : Drafted → Type 0 = λ y. PassesRest others y e in
    let r = subst G made rest in
    record {
      grown = grown_twice d (record d { pieces = put d.tables n d.pieces }) e (grown_pieces d (put d.tables n d.pieces)) r.grown;
      first = first;
      others = others;
      left_is = left;
      made = r.made;
      left = r.left;
      arguments_is = omega (arith, all, counted, left_long (map parameter_view others) r.made r.left, parameters_long others);
      stands = λ es below long on_top.
          let A : NodeKind → List Piece = λ k. put_kind d.tables n k d.pieces in
          let B : Option (Exprs × List Piece) → List Piece = λ o. of_found (λ l. an_argument (values_listed l)) o in
          let list : put d.tables n d.pieces ≡ an_argument (values_listed (exprs_of es)) ∷ below =
          ap A kind_is ∙ ap (λ st. B (exprs_off values st bound.no_exprs)) on_top ∙ ap (λ c. B (exprs_off c (above (map an_expr es) below) bound.no_exprs)) (sym long) ∙ ap B (exprs_are es below) in
          r.on_top ∙ ap (λ st. above (map an_argument r.made) st) list;
    }

-- all arguments off the stack
all_taken : (count : ℕ) (all : List Argument) (ps below : List Piece) → count ≡ length all → ps ≡ above (map an_argument all) below → arguments_off count ps bound.no_args ≡ Some (args_of all, below)
all_taken count all ps below counted a =
    ap (λ st. arguments_off count st bound.no_args) a ∙ ap (λ m. arguments_off m (above (map an_argument all) below) bound.no_args) counted ∙ args_are all below

some_there : (value : Declared → terms.Term → Place → Option bound.Expr) (s : Scope) (takes : Bool) (qs : List Written_parameter) (gs : List Given) (xs : List Argument) (p : project.Parameter) (left : List project.Parameter)
    → AllTaken value (bound_parameters s takes qs) gs xs (p ∷ left) → (length qs == 0) ≡ false
some_there value s takes [] [] [] p left t = let e : ◌≡◌ {A = List project.Parameter} [] (p ∷ left) = t in absurd cc
some_there value s takes [] [] (x ∷ xs) p left t = absurd t
some_there value s takes [] (g ∷ gs) xs p left t = absurd t
some_there value s takes (q ∷ qs) gs xs p left t = ne_eqb (length (q ∷ qs)) 0 (λ (e : length (q ∷ qs) ≡ 0). omega (arith, e))

pub above_two : (xs ys : List Argument) (st : List Piece) → above (map an_argument ys) (above (map an_argument xs) st) ≡ above (map an_argument (xs ++ ys)) st
above_two [] ys st = refl
above_two (x ∷ xs) ys st = above_two xs ys (an_argument x ∷ st)

pub two_long : (xs : List Argument) (x : Argument) (ys : List Argument) → length (xs ++ x ∷ ys) ≡ length xs + suc (length ys)
two_long xs x ys = length-append xs (x ∷ ys)

pub first_many : (first : Parameter) (others ps : List Parameter) → ps ≡ first ∷ others → is_gathering (map parameter_view ps) ≡ true → (parameter_view first).many ≡ true
first_many first others ps e h = subst (λ l. is_gathering (map parameter_view l) ≡ true) e h

-- the value of a call, behind what was pushed
pub called_gathered : (env : Env) (r : Routine) (x : Passed) (values : ℕ) (d e : Drafted) (ending : Ending) (y : terms.Term) (place : Place) (gs : List Given) (xs : List Argument) (given : List Given) (es : List bound.Expr) (between there below : List Piece)
    → is_gathering (map parameter_view x.left.now) ≡ true → length es ≡ values → (values ≡ 0 → ⊥) → EndsGathered r x values d e ending → (s : RoutineIs env r y) → ReceiverThere s.base there below
    → AllTaken (argument_of env) (map parameter_view r.parameters.now) gs xs (map parameter_view x.left.now) → x.count ≡ length xs → AllListed (argument_of env type.variant) given es → d.pieces ≡ above (map an_expr es) between
    → between ≡ above (map an_argument xs) there
    → ValueStands e.tables ending (indexed env place y (gs ++ given)) e.pieces below
called_gathered env r x values d e ending y place gs xs [] [] between there below many long some h s on taken counted v a b = absurd (some (sym long))
called_gathered env r x values d e ending y place gs xs [] (z ∷ es) between there below many long some h s on taken counted v a b = absurd v
called_gathered env r x values d e ending y place gs xs (g ∷ ns) es between there below many long some h s on taken counted v a b =
    let value = argument_of env in
    let ps = map parameter_view r.parameters.now in
    let q = h.passes in
    let others = map parameter_view q.others in
    let first = parameter_view q.first in
    let L : List Parameter → Type 0 = λ l. AllTaken value ps gs xs (map parameter_view l) in
    let t : AllTaken value ps gs xs (first ∷ others) = subst L q.left_is taken in
    let all = xs ++ values_listed (exprs_of es) ∷ q.made in
    let args = args_of all in
    let given : bound_arguments value ps (gs ++ g ∷ ns) ≡ Some args = gathered_bound value ps gs xs first others g ns es q.made t (first_many q.first q.others x.left.now q.left_is many) v q.left in
    let count : h.arguments ≡ length all = omega (arith, q.arguments_is, counted, two_long xs (values_listed (exprs_of es)) q.made) in
    let on_top : e.pieces ≡ above (map an_argument all) there =
    q.stands es between long a ∙ ap (λ st. above (map an_argument (values_listed (exprs_of es) ∷ q.made)) st) b ∙ above_two xs (values_listed (exprs_of es) ∷ q.made) there in
    let A : List project.Parameter → Type 0 = λ l. AllTaken value l gs xs (first ∷ others) in
    let some_left : (length s.read.1.parameters == 0) ≡ false = some_there value (scope_in (home env.scope s.space) s.read.1) _ s.read.1.parameters gs xs first others (subst A s.parameters_are t) in
    let P : Ending → Type 0 = λ z. ValueStands e.tables z (indexed env place y (gs ++ g ∷ ns)) e.pieces below in
    let z = routine_term s.base s.space s.number s.written in
    subst P (sym h.ending_is) (record {
      made = call_node s.base r.procedure args;
      is = ap (λ w. indexed env place w (gs ++ g ∷ ns)) s.is ∙ ap (λ w. term_or w (wrong_term env place z (gs ++ g ∷ ns))) (taken_routine env place s.base s.space s.number s.written (gs ++ g ∷ ns)
          ∙ call_is env place (gs ++ g ∷ ns) s.base s.space s.number s.written s.read r.procedure (declared_view r.of) ps args s.reads s.procedure_is s.parameters_are s.of_is some_left given);
      ends = call_taken e.tables r.receiver s.base r.procedure h.arguments args e.pieces there below s.received on (all_taken h.arguments all e.pieces there count on_top);
    })

pub ending_gathered : (r : Routine) (x : Passed) (values : ℕ) (d e : Drafted) (ending : Ending) → EndsGathered r x values d e ending → NodeNamed e.tables ending.kind
ending_gathered r x values d e ending h = let P : Ending → Type 0 = λ z. NodeNamed e.tables z.kind in subst P (sym h.ending_is) (call_named e.tables r.receiver r.procedure h.arguments)

-- arguments end
index_stands : (env : Env) (x : Call) (n : ℕ) (ending : Ending) (known : Bor Declarations) → declared_in env.scope ≡ declarations_view known.now → (left right : Token) (xs : List Item) (d e : Drafted) → AllNamed d.tables xs → EndsGathered x.routine x.passed (suc n) d e ending → (is : List nodes.Item) (base : Base)
    → Stands env d.tables (with_gathered (suc n) (item.Call x ∷ xs)) is d.pieces base
    → Stands env e.tables (item.Tree (record { place = x.place; name = None; dotted = None; term = term.Value ending; declared = known }) ∷ xs) (behind_node (node.Index left right) is) e.pieces base
index_stands env x n ending known told left right xs d e k c [] base h = absurd h
index_stands env x n ending known told left right xs d e k c (nodes.tree y ∷ is) base h = absurd h
index_stands env x n ending known told left right xs d e k c (nodes.arguments args ∷ []) base h =
    let u = ungathered env d.tables (suc n) (item.Call x) xs x.passed args [] d.pieces base refl h in absurd u.stands
index_stands env x n ending known told left right xs d e k c (nodes.arguments args ∷ nodes.arguments more ∷ is) base h =
    let u = ungathered env d.tables (suc n) (item.Call x) xs x.passed args (nodes.arguments more ∷ is) d.pieces base refl h in absurd u.stands
index_stands env x n ending known told left right xs d e k c (nodes.arguments args ∷ nodes.tree y ∷ is) base h =
    let u = ungathered env d.tables (suc n) (item.Call x) xs x.passed args (nodes.tree y ∷ is) d.pieces base refl h in
    let s = u.stands.1.0 in
    let p = s.passed in
    let below = u.stands.0 in
    let many = gathering env d.tables n (item.Call x) xs x.passed args (nodes.tree y ∷ is) d.pieces base refl h in
    let z = callee env y (term_of env y) in
    let T : terms.Term → Type 0 = λ (t : terms.Term). ValueStands e.tables ending (indexed env (place_told y) t (givens env args)) e.pieces below in
    let A : List Given → Type 0 = λ l. ValueStands e.tables ending (indexed env (place_told y) z l) e.pieces below in (
      below,
      (
        tree_ended env e.tables (term.Value ending) x.place known told y args left right e.pieces below s.place_is
            (subst T (sym (routine_item env (place_told y) z s.routine.base s.routine.space s.routine.number s.routine.written s.routine.is)) (subst A (sym u.givens_are)
            (called_gathered env x.routine x.passed (suc n) d e ending z (place_told y) (givens env u.before) p.made u.given u.made u.between s.between below many u.count_is (λ e0. absurd (omega (arith, e0))) c s.routine s.there p.taken p.count_is u.values u.on_top p.on_top))),
        stands_grows env d.tables e.tables c.passes.grown.tables xs k is below base u.stands.1.1,
      ),
    )

index_some : (env : Env) (x : Call) (n : ℕ) (ending : Ending) (known : Bor Declarations) → declared_in env.scope ≡ declarations_view known.now → (left right : Token) (xs : List Item) (d e : Drafted) → (n ≡ 0 → ⊥) → AllNamed d.tables xs → EndsGathered x.routine x.passed n d e ending → (is : List nodes.Item) (base : Base)
    → Stands env d.tables (with_gathered n (item.Call x ∷ xs)) is d.pieces base
    → Stands env e.tables (item.Tree (record { place = x.place; name = None; dotted = None; term = term.Value ending; declared = known }) ∷ xs) (behind_node (node.Index left right) is) e.pieces base
index_some env x zero ending known told left right xs d e some k c is base h = absurd (some refl)
index_some env x (suc n) ending known told left right xs d e some k c is base h = index_stands env x n ending known told left right xs d e k c is base h

pub goes_index : (env : Env) (x : Call) (n : ℕ) (ending : Ending) (known : Bor Declarations) → declared_in env.scope ≡ declarations_view known.now → (left right : Token) (xs old new : List Item) (d e : Drafted) → (n ≡ 0 → ⊥) → old ≡ item.Call x ∷ xs
    → new ≡ item.Tree (record { place = x.place; name = None; dotted = None; term = term.Value ending; declared = known }) ∷ xs → AllNamed d.tables old → EndsGathered x.routine x.passed n d e ending
    → Goes env d (with_gathered n old) e new (behind_node (node.Index left right))
goes_index env x n ending known told left right xs old new d e some o w k c =
    let g = behind_node (node.Index left right) in
    let y = item.Tree (record { place = x.place; name = None; dotted = None; term = term.Value ending; declared = known }) in
    let N : List Item → Type 0 = λ l. AllNamed d.tables l in
    let A : List Item → Type 0 = λ l. Goes env d (with_gathered n l) e new g in
    let B : List Item → Type 0 = λ l. Goes env d (with_gathered n (item.Call x ∷ xs)) e l g in
    let all = subst N o k in
    subst A (sym o) (subst B (sym w) (record {
      grown = c.passes.grown;
      named = (ending_gathered x.routine x.passed n d e ending c, all_named d.tables e.tables c.passes.grown.tables xs all.1);
      stands = λ is base h. index_some env x n ending known told left right xs d e some all.1 c is base h;
    }))
