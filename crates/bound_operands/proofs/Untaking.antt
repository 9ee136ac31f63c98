-- What arguments that aren't taken do to the stack, and what they end.
use Rattle.std.proofs.Common.{◌≡◌, ℕ, ◌+◌, ◌==◌, Bool, true, false, ◌&&◌, ◌||◌, not, List, [], ◌∷◌, ◌++◌, map, length, is_some, Option, Some, None, option_map, refl, sym, ap, subst, ◌∙◌, arith, length-append, ne_eqb, Bor}
use Rattle.std.proofs.lemmas.List.{length-map, length-reverse, map_push, reverse-append, reverse-reverse}
use Rattle.std.specs.Prelude.{reverse}
use Rattle.vba_base.specs.declared.place.Place.{Place}
use Rattle.vba_lexer.specs.declared.token.Token.{Token}
use Rattle.vba_words.specs.declared.identifier.Identifier.{Identifier}
use Rattle.vba_expression.specs.declared.node.ExpressionNode.TheVariants as node
use Rattle.vba_expression.specs.Tree.{Expr, Args, no_args, missing, plain}
use Rattle.vba_expression.specs.Tree as tree
use Rattle.vba_expression.specs.Nodes as nodes
use Rattle.vba_expression.specs.Nodes.{behind_node}
use Rattle.vba_values.specs.Types as type
use Rattle.bound_project.specs.Expressions.{Exprs, also, marked, no_exprs}
use Rattle.bound_project.specs.Expressions as bound
use Rattle.bound_project.specs.Lists.{above, exprs_of}
use Rattle.bound_project.proofs.Lists.{above_push, exprs_are}
use Rattle.bound_project.specs.Pieces.{Piece, Tables, an_expr, expr_of, exprs_off, of_found}
use Rattle.bound_project.specs.Drafts.{Drafted}
use Rattle.bound_project.specs.declared.declarations.Declarations.{Declarations}
use Rattle.bound_project.specs.declared.declared_type.DeclaredType.{DeclaredType}
use Rattle.bound_project.specs.Project as project
use Rattle.bound_project.specs.View.{declarations_view, declared_view}
use Rattle.bound_members.specs.bound_calls.specs.bound_forms.specs.ClassDefaults.{declared_in}
use Rattle.bound_members.specs.bound_calls.specs.bound_forms.specs.Terms.{Env, Given, a_value, broken_call, has_names}
use Rattle.bound_members.specs.bound_calls.specs.bound_forms.specs.Operands.{are_numbers, are_places, argument_of, if_there, place_told}
use Rattle.bound_members.specs.bound_calls.specs.bound_forms.specs.Operands as operands
use Rattle.bound_members.specs.bound_calls.specs.bound_forms.specs.Members.{item_of}
use Rattle.bound_members.specs.bound_calls.specs.bound_forms.specs.ExpressionsBound.{callee, givens, indexed, term_of}
use Rattle.bound_members.specs.bound_calls.specs.declared.term.Item.{Item}
use Rattle.bound_members.specs.bound_calls.specs.declared.term.Item.TheVariants as item
use Rattle.bound_members.specs.bound_calls.specs.declared.term.Shape.{Shape}
use Rattle.bound_members.specs.bound_calls.specs.declared.term.Term.TheVariants as term
use Rattle.bound_members.specs.bound_calls.specs.declared.term.Tree.{Tree}
use Rattle.bound_members.specs.bound_calls.specs.declared.term.Untaken.{Untaken}
use Rattle.bound_members.specs.bound_calls.specs.Calls.{ArgumentIs, PushesArgument}
use Rattle.bound_members.specs.bound_calls.specs.Shapes.{AreShaped, IsShaped, shape_given, shapes_given, some_term, with_shapes}
use Rattle.bound_members.specs.bound_calls.specs.Standing.{AllGiven, AllNamed, Base, ShapeStands, Stands, UntakenStands, ValueEnds, ValueStands, behind_values, missing_given, missing_value, named_given, plain_given, refused_rule, refused_type, values_before}
use Rattle.bound_members.specs.bound_calls.specs.Steps.{Goes}
use Rattle.bound_members.specs.bound_calls.specs.Taking.{broken_ending}
use Rattle.bound_members.specs.bound_calls.proofs.CallSteps.{tree_ended}
use Rattle.bound_members.specs.bound_calls.proofs.Growing.{all_named, grown_pieces, grown_same, stands_grows}
use Rattle.bound_members.specs.bound_calls.proofs.Lacking.{told_view}
use Rattle.bound_members.specs.bound_calls.proofs.Shaping.{rule_shaped}
use Rattle.bound_members.proofs.Naming.{given_listed, given_more, missing_is, value_is}
use Rattle.bound_operands.specs.Untaken.{ClosesUntaken, EachArgument, all_plain, is_plain, is_refused}
use Rattle.bound_operands.specs.Indexing.{fits_count}
use Rattle.bound_operands.proofs.Elements.{fits_given}
use Rattle.bound_operands.proofs.ParamArrays.{missing_put, variant}

-- ---- numbers of an element

both_places : (name : Option (Bor Identifier)) (is_written numbers names : Bool)
    → ((is_some (some_term is_written) && numbers) && not (is_some (option_map (λ (x : Identifier). x.name) (option_map (λ n. n.now) name)) || names)) ≡ ((not (is_some name) && is_written) && (numbers && not names))
both_places None true numbers names = refl
both_places None false numbers names = refl
both_places (Some n) true true names = refl
both_places (Some n) true false names = refl
both_places (Some n) false numbers names = refl

one_place : (name : Option (Bor Identifier)) (is_written : Bool)
    → (is_some (some_term is_written) && not (is_some (option_map (λ (x : Identifier). x.name) (option_map (λ n. n.now) name)) || false)) ≡ ((not (is_some name) && is_written) && true)
one_place None true = refl
one_place None false = refl
one_place (Some n) true = refl
one_place (Some n) false = refl

plain_places : (s : Shape) (ss : List Shape) → are_places (shapes_given (s ∷ ss)) ≡ all_plain (s ∷ ss)
plain_places s [] = one_place s.name s.is_written
plain_places s (r ∷ ss) = both_places s.name s.is_written (are_numbers (shapes_given (r ∷ ss))) (has_names (shapes_given (r ∷ ss))) ∙ ap (λ b. is_plain s && b) (plain_places r ss)

pub no_places : (ss : List Shape) → all_plain ss ≡ false → are_places (shapes_given ss) ≡ false
no_places [] h = refl
no_places (s ∷ ss) h = plain_places s ss ∙ h

pub all_places : (ss : List Shape) → all_plain ss ≡ true → are_places (shapes_given ss) ≡ not (length ss == 0)
all_places [] h = refl
all_places (s ∷ ss) h =
    let some : (length (s ∷ ss) == 0) ≡ false = ne_eqb (length (s ∷ ss)) 0 (λ (e : length (s ∷ ss) ≡ 0). omega (arith, e)) in plain_places s ss ∙ h ∙ sym (ap (λ b. not b) some)

pub places_are : (ss : List Shape) → are_places (shapes_given ss) ≡ (all_plain ss && not (length ss == 0))
places_are ss = at (all_plain ss) refl
  where
    at : (b : Bool) → all_plain ss ≡ b → are_places (shapes_given ss) ≡ (b && not (length ss == 0))
    at true e = all_places ss e
    at false e = no_places ss e

-- as many arguments as an array is declared with bounds
pub fits_shapes : (bounds : ℕ) (ss : List Shape) → operands.fits_bounds bounds (shapes_given ss) ≡ ((bounds == 0) || (length ss == bounds))
fits_shapes bounds ss = sym (fits_given bounds (shapes_given ss)) ∙ ap (fits_count bounds) (length-map ss shape_given)

-- ---- one more argument

-- what isn't taken has arguments
record Refused (is : List nodes.Item) : Type 0 where
  pub args : Args
  pub rest : List nodes.Item
  pub are : is ≡ nodes.arguments args ∷ rest

refused_arguments : (env : Env) (t : Tables) (i : Item) (xs : List Item) (is : List nodes.Item) (ps : List Piece) (base : Base) → is_refused i ≡ true → Stands env t (i ∷ xs) is ps base → Refused is
refused_arguments env t (item.Tree y) xs is ps base g h = let n : false ≡ true = g in absurd cc
refused_arguments env t (item.Operand y) xs is ps base g h = let n : false ≡ true = g in absurd cc
refused_arguments env t (item.Call y) xs is ps base g h = let n : false ≡ true = g in absurd cc
refused_arguments env t (item.Listed y) xs is ps base g h = let n : false ≡ true = g in absurd cc
refused_arguments env t (item.Indexed y) xs is ps base g h = let n : false ≡ true = g in absurd cc
refused_arguments env t (item.Function y) xs is ps base g h = let n : false ≡ true = g in absurd cc
refused_arguments env t (item.Member y) xs is ps base g h = let n : false ≡ true = g in absurd cc
refused_arguments env t (item.Named y) xs is ps base g h = let n : false ≡ true = g in absurd cc
refused_arguments env t item.Gathered xs is ps base g h = let n : false ≡ true = g in absurd cc
refused_arguments env t (item.Untaken y) xs [] ps base g h = absurd h
refused_arguments env t (item.Untaken y) xs (nodes.tree a ∷ is) ps base g h = absurd h
refused_arguments env t (item.Untaken y) xs (nodes.arguments args ∷ is) ps base g h = record { args = args; rest = is; are = refl }
refused_arguments env t item.Unlisted xs [] ps base g h = absurd h
refused_arguments env t item.Unlisted xs (nodes.tree a ∷ is) ps base g h = absurd h
refused_arguments env t item.Unlisted xs (nodes.arguments args ∷ is) ps base g h = record { args = args; rest = is; are = refl }
refused_arguments env t (item.Shape s) xs [] ps base g h = absurd h
refused_arguments env t (item.Shape s) xs (nodes.tree a ∷ is) ps base g h = absurd h
refused_arguments env t (item.Shape s) xs (nodes.arguments args ∷ is) ps base g h = record { args = args; rest = is; are = refl }

-- what is known of an argument that is written
abbrev pub written : Option (Bor Identifier) → Shape
written name = record { name = name; is_written = true }

abbrev pub not_written : Shape
not_written = record { name = None; is_written = false }

plain_above : (env : Env) (t : Tables) (i : Item) (xs : List Item) (comma : Option Token) (a : Expr) (args : Args) (is : List nodes.Item) (ps below : List Piece) (base : Base)
    → ArgumentIs (argument_of env type.variant (term_of env a) (place_told a)) ps below → Stands env t (i ∷ xs) (nodes.arguments args ∷ is) below base
    → Stands env t (item.Shape (written None) ∷ i ∷ xs) (behind_node (node.PlainArgument comma) (nodes.tree a ∷ nodes.arguments args ∷ is)) ps base
plain_above env t i xs comma a args is ps below base k h =
    (below, (record { shaped = (refl, refl); made = k.made; is = value_is (argument_of env type.variant) None (term_of env a) (place_told a) k.made k.is; on_top = k.on_top }, h))

named_above : (env : Env) (t : Tables) (i : Item) (xs : List Item) (comma : Option Token) (name : Bor Identifier) (mark : Token) (a : Expr) (args : Args) (is : List nodes.Item) (ps below : List Piece) (base : Base)
    → ArgumentIs (argument_of env type.variant (term_of env a) (place_told a)) ps below → Stands env t (i ∷ xs) (nodes.arguments args ∷ is) below base
    → Stands env t (item.Shape (written (Some name)) ∷ i ∷ xs) (behind_node (node.NamedArgument comma name.now mark) (nodes.tree a ∷ nodes.arguments args ∷ is)) ps base
named_above env t i xs comma name mark a args is ps below base k h =
    (below, (record { shaped = (refl, refl); made = k.made; is = value_is (argument_of env type.variant) (Some name.now.name) (term_of env a) (place_told a) k.made k.is; on_top = k.on_top }, h))

-- what a node makes of an expression and of arguments
abbrev Above : Env → Tables → Item → List Item → Option (Bor Identifier) → (List nodes.Item → List nodes.Item) → Type 0
Above env t i xs name f = (a : Expr) (args : Args) (is : List nodes.Item) (ps below : List Piece) (base : Base) → ArgumentIs (argument_of env type.variant (term_of env a) (place_told a)) ps below
    → Stands env t (i ∷ xs) (nodes.arguments args ∷ is) below base → Stands env t (item.Shape (written name) ∷ i ∷ xs) (f (nodes.tree a ∷ nodes.arguments args ∷ is)) ps base

refuse_stands : (env : Env) (x : Tree) (i : Item) (xs : List Item) (name : Option (Bor Identifier)) (d e : Drafted) (f : List nodes.Item → List nodes.Item) → Above env e.tables i xs name f → is_refused i ≡ true → AllNamed d.tables (i ∷ xs)
    → PushesArgument variant x d e → (is : List nodes.Item) (base : Base) → Stands env d.tables (item.Tree x ∷ i ∷ xs) is d.pieces base → Stands env e.tables (item.Shape (written name) ∷ i ∷ xs) (f is) e.pieces base
refuse_stands env x i xs name d e f up g k m [] base h = absurd h
refuse_stands env x i xs name d e f up g k m (nodes.arguments args ∷ is) base h = absurd h
refuse_stands env x i xs name d e f up g k m (nodes.tree a ∷ is) base h =
    let r = refused_arguments env d.tables i xs is h.0 base g h.1.1 in
    let A : List nodes.Item → Type 0 = λ l. Stands env d.tables (i ∷ xs) l h.0 base in
    let B : List nodes.Item → Type 0 = λ l. Stands env e.tables (item.Shape (written name) ∷ i ∷ xs) (f (nodes.tree a ∷ l)) e.pieces base in
    let below : Stands env e.tables (i ∷ xs) (nodes.arguments r.args ∷ r.rest) h.0 base =
    stands_grows env d.tables e.tables m.grown.tables (i ∷ xs) k (nodes.arguments r.args ∷ r.rest) h.0 base (subst A r.are h.1.1) in
    subst B (sym r.are) (up a r.args r.rest e.pieces h.0 base (m.stands env a h.0 h.1.0) below)

goes_on : (env : Env) (x : Tree) (i : Item) (xs new : List Item) (name : Option (Bor Identifier)) (d e : Drafted) (f : List nodes.Item → List nodes.Item) → Above env e.tables i xs name f → new ≡ item.Shape (written name) ∷ i ∷ xs
    → is_refused i ≡ true → AllNamed d.tables (item.Tree x ∷ i ∷ xs) → PushesArgument variant x d e → Goes env d (item.Tree x ∷ i ∷ xs) e new f
goes_on env x i xs new name d e f up n g k m =
    let B : List Item → Type 0 = λ l. Goes env d (item.Tree x ∷ i ∷ xs) e l f in
    subst B (sym n) (record {
      grown = m.grown;
      named = (tt, all_named d.tables e.tables m.grown.tables (i ∷ xs) k.1);
      stands = λ is base h. refuse_stands env x i xs name d e f up g k.1 m is base h;
    })

pub goes_refused : (env : Env) (x : Tree) (i : Item) (xs new : List Item) (name : Option (Bor Identifier)) (d e : Drafted) → new ≡ item.Shape (written name) ∷ i ∷ xs → is_refused i ≡ true → AllNamed d.tables (item.Tree x ∷ i ∷ xs)
    → PushesArgument variant x d e → EachArgument name (λ f. Goes env d (item.Tree x ∷ i ∷ xs) e new f)
goes_refused env x i xs new None d e n g k m =
    λ comma. goes_on env x i xs new None d e (behind_node (node.PlainArgument comma)) (λ a args is ps below base. plain_above env e.tables i xs comma a args is ps below base) n g k m
goes_refused env x i xs new (Some name) d e n g k m =
    λ comma mark. goes_on env x i xs new (Some name) d e (behind_node (node.NamedArgument comma name.now mark)) (λ a args is ps below base. named_above env e.tables i xs comma name mark a args is ps below base) n g k m

-- ---- one more argument, which isn't written

missing_stands : (env : Env) (i : Item) (xs : List Item) (comma : Option Token) (d : Drafted) → is_refused i ≡ true → (is : List nodes.Item) (base : Base) → Stands env d.tables (i ∷ xs) is d.pieces base
    → Stands env d.tables (item.Shape not_written ∷ i ∷ xs) (behind_node (node.MissingArgument comma) is) (an_expr missing_value ∷ d.pieces) base
missing_stands env i xs comma d g is base h =
    let r = refused_arguments env d.tables i xs is d.pieces base g h in
    let A : List nodes.Item → Type 0 = λ l. Stands env d.tables (i ∷ xs) l d.pieces base in
    let B : List nodes.Item → Type 0 = λ l. Stands env d.tables (item.Shape not_written ∷ i ∷ xs) (behind_node (node.MissingArgument comma) l) (an_expr missing_value ∷ d.pieces) base in
    subst B (sym r.are) (d.pieces, (record { shaped = (refl, refl); made = missing_value; is = missing_is (argument_of env type.variant); on_top = refl }, subst A r.are h))

pub goes_missing : (env : Env) (i : Item) (xs new : List Item) (comma : Option Token) (d e : Drafted) → new ≡ item.Shape not_written ∷ i ∷ xs → is_refused i ≡ true → AllNamed d.tables (i ∷ xs) → e ≡ missing_put d
    → Goes env d (i ∷ xs) e new (behind_node (node.MissingArgument comma))
goes_missing env i xs new comma d e n g k eq =
    let A : Drafted → Type 0 = λ z. Goes env d (i ∷ xs) z new (behind_node (node.MissingArgument comma)) in
    let B : List Item → Type 0 = λ l. Goes env d (i ∷ xs) (missing_put d) l (behind_node (node.MissingArgument comma)) in
    subst A (sym eq) (subst B (sym n) (record {
      grown = grown_pieces d (missing_put d).pieces;
      named = (tt, k);
      stands = λ is base h. missing_stands env i xs comma d g is base h;
    }))

-- ---- arguments end

pub named_under : (t : Tables) (ss : List Shape) (xs : List Item) → AllNamed t (with_shapes ss xs) → AllNamed t xs
named_under t [] xs h = h
named_under t (s ∷ ss) xs h = named_under t ss xs h.1

shaped_more : (ss : List Shape) (gs : List Given) (s : Shape) (g : Given) → AreShaped ss gs → IsShaped s g → AreShaped (ss ++ s ∷ []) (gs ++ g ∷ [])
shaped_more [] [] s g h k = (k, tt)
shaped_more [] (f ∷ gs) s g h k = absurd h
shaped_more (r ∷ ss) [] s g h k = absurd h
shaped_more (r ∷ ss) (f ∷ gs) s g h k = (h.0, shaped_more ss gs s g h.1 k)

above_value : (es : List bound.Expr) (e : bound.Expr) (st : List Piece) → above (map an_expr (es ++ e ∷ [])) st ≡ an_expr e ∷ above (map an_expr es) st
above_value es e st = ap (λ l. above l st) (map_push an_expr es e) ∙ above_push (map an_expr es) (an_expr e) st

-- the arguments, by their shapes, of which the last one comes first
record Unshaped (env : Env) (t : Tables) (ss : List Shape) (x : Untaken) (xs : List Item) (args : Args) (is : List nodes.Item) (ps : List Piece) (base : Base) : Type 0 where
  pub shaped : AreShaped (reverse ss) (givens env args)
  pub made : List bound.Expr
  pub values : AllGiven (argument_of env type.variant) (givens env args) made
  pub count_is : length made ≡ length ss
  pub between : List Piece
  pub on_top : ps ≡ above (map an_expr made) between
  pub stands : Stands env t (item.Untaken x ∷ xs) (nodes.arguments no_args ∷ is) between base

unshaped_on : (env : Env) (t : Tables) (s : Shape) (ss : List Shape) (x : Untaken) (xs : List Item) (before args : Args) (g : Given) (is : List nodes.Item) (ps below : List Piece) (base : Base) → givens env args ≡ givens env before ++ g ∷ []
    → ShapeStands env s g ps below → Unshaped env t ss x xs before is below base → Unshaped env t (s ∷ ss) x xs args is ps base
unshaped_on env t s ss x xs before args g is ps below base eq k r =
    let value = argument_of env type.variant in
    let A : List Shape → Type 0 = λ l. AreShaped l (givens env before ++ g ∷ []) in
    let B : List Given → Type 0 = λ l. AreShaped (reverse (s ∷ ss)) l in
    let C : List Given → Type 0 = λ l. AllGiven value l (r.made ++ k.made ∷ []) in
    record {
      shaped = subst B (sym eq) (subst A (sym (reverse-append (s ∷ []) ss)) (shaped_more (reverse ss) (givens env before) s g r.shaped k.shaped));
      made = r.made ++ k.made ∷ [];
      values = subst C (sym eq) (given_more value (givens env before) r.made g k.made r.values k.is);
      count_is = length-append r.made (k.made ∷ []) ∙ omega (arith, r.count_is);
      between = r.between;
      on_top = k.on_top ∙ ap (λ st. an_expr k.made ∷ st) r.on_top ∙ sym (above_value r.made k.made r.between);
      stands = r.stands;
    }

unshaped : (env : Env) (t : Tables) (ss : List Shape) (x : Untaken) (xs : List Item) (args : Args) (is : List nodes.Item) (ps : List Piece) (base : Base) → Stands env t (with_shapes ss (item.Untaken x ∷ xs)) (nodes.arguments args ∷ is) ps base
    → Unshaped env t ss x xs args is ps base
unshaped env t [] x xs no_args is ps base h = record { shaped = tt; made = []; values = tt; count_is = refl; between = ps; on_top = refl; stands = h }
unshaped env t [] x xs (missing before comma) is ps base h = absurd h
unshaped env t [] x xs (plain before comma e) is ps base h = absurd h
unshaped env t [] x xs (tree.named before comma name mark e) is ps base h = absurd h
unshaped env t (s ∷ ss) x xs no_args is ps base h = absurd h
unshaped env t (s ∷ ss) x xs (missing before comma) is ps base h =
    unshaped_on env t s ss x xs before (missing before comma) missing_given is ps h.0 base refl h.1.0 (unshaped env t ss x xs before is h.0 base h.1.1)
unshaped env t (s ∷ ss) x xs (plain before comma e) is ps base h =
    unshaped_on env t s ss x xs before (plain before comma e) (plain_given env e) is ps h.0 base refl h.1.0 (unshaped env t ss x xs before is h.0 base h.1.1)
unshaped env t (s ∷ ss) x xs (tree.named before comma name mark e) is ps base h =
    unshaped_on env t s ss x xs before (tree.named before comma name mark e) (named_given env name e) is ps h.0 base refl h.1.0 (unshaped env t ss x xs before is h.0 base h.1.1)

-- all values that were pushed are marked
values_behind : (before made : List bound.Expr) → behind_values before (exprs_of made) ≡ exprs_of (before ++ made)
values_behind [] made = refl
values_behind (e ∷ before) made = ap (λ es. also e es) (values_behind before made)

above_both : (before made : List bound.Expr) (st : List Piece) → above (map an_expr made) (above (map an_expr before) st) ≡ above (map an_expr (before ++ made)) st
above_both [] made st = refl
above_both (e ∷ before) made st = above_both before made (an_expr e ∷ st)

pub marked_ends : (t : Tables) (rule count : ℕ) (place : Place) (of : DeclaredType) (all : List bound.Expr) (ps below : List Piece) → count ≡ length all → ps ≡ above (map an_expr all) below
    → ValueEnds t (broken_ending rule place of count).kind (marked (record { rule = rule; place = place }) (exprs_of all)) ps below
marked_ends t rule count place of all ps below counted on_top n =
    let A : Option (Exprs × List Piece) → List Piece = λ o. of_found (λ es. expr_of n (marked (record { rule = rule; place = place }) es)) o in
    ap (λ st. A (exprs_off count st no_exprs)) on_top ∙ ap (λ m. A (exprs_off m (above (map an_expr all) below) no_exprs)) counted ∙ ap A (exprs_are all below)

-- what the arguments of an expression make
refused_value : (env : Env) (t : Tables) (x : Untaken) (rule count : ℕ) (ss : List Shape) (b : Expr) (gs : List Given) (made : List bound.Expr) (ps between below : List Piece) → AreShaped ss gs → AllGiven (argument_of env type.variant) gs made
    → length made ≡ count → ps ≡ above (map an_expr made) between → UntakenStands env t x b between below → refused_rule t x.refuser (shapes_given ss) ≡ Some rule
    → ValueStands t (broken_ending rule x.place (refused_type x.refuser) (count + values_before x.refuser)) (indexed env (place_told b) (item_of env (place_told b) (callee env b (term_of env b))) gs) ps below
refused_value env t x rule count ss b gs made ps between below shaped values counted on_top u breaks =
    let all = u.before ++ made in
    let place = place_told b in
    let found : refused_rule t x.refuser gs ≡ Some rule = sym (rule_shaped t x.refuser ss gs shaped) ∙ breaks in
    let of = refused_type x.refuser in
    let P : Place → Type 0 = λ p. ValueStands t (broken_ending rule p of (count + values_before x.refuser)) (indexed env place (item_of env place (callee env b (term_of env b))) gs) ps below in
    subst P (sym u.place_is) (record {
      made = marked (record { rule = rule; place = place }) (exprs_of all);
      is = u.wrong gs rule found ∙ ap (λ o. if_there (option_map (λ es. broken_call rule place (declared_view of) (behind_values u.before es)) o)) (given_listed (argument_of env type.variant) gs made values)
          ∙ ap (λ es. broken_call rule place (declared_view of) es) (values_behind u.before made) ∙ ap (λ v. a_value (marked (record { rule = rule; place = place }) (exprs_of all)) v) (sym (told_view of));
      ends = marked_ends t rule (count + values_before x.refuser) place of all ps below (omega (arith, counted, u.before_long, length-append u.before made)) (on_top ∙ ap (λ st. above (map an_expr made) st) u.on_top ∙ above_both u.before made below);
    })

abbrev pub closed : Untaken → (rule count : ℕ) → Bor Declarations → Tree
closed x rule count known = record { place = x.place; name = None; dotted = None; term = term.Value (broken_ending rule x.place (refused_type x.refuser) (count + values_before x.refuser)); declared = known }

ends_above : (env : Env) (t : Tables) (x : Untaken) (rule count : ℕ) (known : Bor Declarations) → declared_in env.scope ≡ declarations_view known.now → (ss : List Shape) (left right : Token) (xs : List Item) (args : Args) (is : List nodes.Item) (ps : List Piece) (base : Base) → count ≡ length ss
    → refused_rule t x.refuser (shapes_given (reverse ss)) ≡ Some rule → Unshaped env t ss x xs args is ps base → Stands env t (item.Tree (closed x rule count known) ∷ xs) (behind_node (node.Index left right) (nodes.arguments args ∷ is)) ps base
ends_above env t x rule count known told ss left right xs args [] ps base counted breaks u = absurd u.stands
ends_above env t x rule count known told ss left right xs args (nodes.arguments more ∷ is) ps base counted breaks u = absurd u.stands
ends_above env t x rule count known told ss left right xs args (nodes.tree b ∷ is) ps base counted breaks u =
    let s = u.stands in
    let v = refused_value env t x rule count (reverse ss) b (givens env args) u.made ps u.between s.0 u.shaped u.values (u.count_is ∙ sym counted) u.on_top s.1.0 breaks in
    (s.0, (tree_ended env t (term.Value (broken_ending rule x.place (refused_type x.refuser) (count + values_before x.refuser))) x.place known told b args left right ps s.0 s.1.0.place_is v, s.1.1))

ends_stands : (env : Env) (t : Tables) (x : Untaken) (rule count : ℕ) (known : Bor Declarations) → declared_in env.scope ≡ declarations_view known.now → (ss : List Shape) (left right : Token) (xs : List Item) → count ≡ length ss → refused_rule t x.refuser (shapes_given (reverse ss)) ≡ Some rule → (is : List nodes.Item) (ps : List Piece) (base : Base)
    → Stands env t (with_shapes ss (item.Untaken x ∷ xs)) is ps base → Stands env t (item.Tree (closed x rule count known) ∷ xs) (behind_node (node.Index left right) is) ps base
ends_stands env t x rule count known told [] left right xs counted breaks [] ps base h = absurd h
ends_stands env t x rule count known told (s ∷ ss) left right xs counted breaks [] ps base h = absurd h
ends_stands env t x rule count known told [] left right xs counted breaks (nodes.tree b ∷ is) ps base h = absurd h
ends_stands env t x rule count known told (s ∷ ss) left right xs counted breaks (nodes.tree b ∷ is) ps base h = absurd h
ends_stands env t x rule count known told ss left right xs counted breaks (nodes.arguments args ∷ is) ps base h =
    ends_above env t x rule count known told ss left right xs args is ps base counted breaks (unshaped env t ss x xs args is ps base h)

pub goes_untaken : (env : Env) (x : Untaken) (shapes : List Shape) (y : Tree) (known : project.Declarations) → declared_in env.scope ≡ known → (left right : Token) (xs old below new : List Item) (d : Drafted) → old ≡ with_shapes (reverse shapes) below → below ≡ item.Untaken x ∷ xs → new ≡ item.Tree y ∷ xs
    → AllNamed d.tables old → ClosesUntaken known d x shapes y → Goes env d old d new (behind_node (node.Index left right))
goes_untaken env x shapes y known told left right xs old below new d o b n k c =
    let ss = reverse shapes in
    let count = length shapes in
    let f = behind_node (node.Index left right) in
    let top : old ≡ with_shapes ss (item.Untaken x ∷ xs) = o ∙ ap (λ l. with_shapes ss l) b in
    let N : List Item → Type 0 = λ l. AllNamed d.tables l in
    let A : List Item → Type 0 = λ l. Goes env d l d new f in
    let B : List Item → Type 0 = λ l. Goes env d (with_shapes ss (item.Untaken x ∷ xs)) d l f in
    let C : Tree → Type 0 = λ z. Goes env d (with_shapes ss (item.Untaken x ∷ xs)) d (item.Tree z ∷ xs) f in
    let breaks : refused_rule d.tables x.refuser (shapes_given (reverse ss)) ≡ Some c.rule = ap (λ l. refused_rule d.tables x.refuser (shapes_given l)) (reverse-reverse shapes) ∙ c.breaks in
    let all = named_under d.tables ss (item.Untaken x ∷ xs) (subst N top k) in
    subst A (sym top) (subst B (sym n) (subst C (sym c.is) (record {
      grown = grown_same d;
      named = (tt, all.1);
      stands = λ is base h. ends_stands env d.tables x c.rule count y.declared (told ∙ c.known_is) ss left right xs (sym (length-reverse shapes)) breaks is d.pieces base h;
    })))
