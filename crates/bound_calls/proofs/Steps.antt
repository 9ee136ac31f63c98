-- What the nodes of an expression do to the stack.
use Rattle.std.proofs.lemmas.List.{drop_more, drop_all}
use Rattle.std.proofs.Common.{◌≡◌, ℕ, Bool, true, false, ◌<◌, ◌≤◌, ◌+◌, get_or, drop, length, arith, length-append, List, [], ◌∷◌, Option, Some, None, refl, sym, ap, subst, ◌∙◌}
use Rattle.std.specs.Prelude.{option_map}
use Rattle.vba_base.specs.declared.place.Place.{Place}
use Rattle.vba_lexer.specs.declared.token.Token.{Token}
use Rattle.vba_values.specs.declared.types.Compare.{Compare}
use Rattle.vba_values.specs.Val.{Val}
use Rattle.vba_expression.specs.declared.operator.UnaryOperator.{UnaryOperator}
use Rattle.vba_expression.specs.declared.operator.BinaryOperator.{BinaryOperator}
use Rattle.vba_expression.specs.declared.operator.BinaryOperator.TheVariants as operators
use Rattle.vba_expression.specs.declared.node.ExpressionNode.TheVariants as node
use Rattle.vba_expression.specs.Tree.{Expr, binary, parenthesised, unary}
use Rattle.vba_expression.specs.Reader.{name_in}
use Rattle.vba_expression.specs.Nodes as nodes
use Rattle.vba_expression.specs.declared.node.ExpressionNode.{ExpressionNode}
use Rattle.vba_expression.specs.Nodes.{behind_node, behind_nodes, items_of, last_tree, tree_in}
use Rattle.bound_project.specs.declared.declared_type.DeclaredType.{DeclaredType}
use Rattle.bound_project.specs.declared.declared_type.DeclaredType.TheVariants.{Plain}
use Rattle.bound_project.specs.declared.declared_type.ElementType.TheVariants as element
use Rattle.bound_project.specs.declared.node.NodeKind.TheVariants as kind
use Rattle.vba_values.specs.Types.{Declared}
use Rattle.bound_project.specs.View.{declarations_view, declared_view}
use Rattle.bound_project.specs.Expressions as bound
use Rattle.bound_project.specs.Expressions.{constant, same}
use Rattle.bound_project.specs.Pieces.{Piece, Tables, an_expr, expr_of, of_both}
use Rattle.bound_project.specs.Drafts.{Drafted}
use Rattle.bound_project.proofs.Drafts.{constant_last}
use Rattle.bound_declarations.specs.constant_values.specs.declared_names.specs.binder.specs.Constants.{compare_in, operator_kind, value_type}
use Rattle.bound_forms.specs.Terms.{Env, a_value, expression_of}
use Rattle.bound_forms.specs.Terms as plain
use Rattle.bound_forms.specs.ClassDefaults.{declared_in}
use Rattle.bound_forms.specs.Operands.{value_of, operand_of, reference_of, given_as, if_there, place_told}
use Rattle.bound_forms.specs.ExpressionsBound.{term_of, as_value, binary_term, same_term, value_term, literal_term, bound_value, bound_operand}
use Rattle.vba_words.specs.declared.identifier.Identifier.{Identifier}
use Rattle.bound_calls.specs.declared.term.Ending.{Ending}
use Rattle.bound_calls.specs.declared.term.Term.{Term}
use Rattle.bound_calls.specs.declared.term.Term.TheVariants as term
use Rattle.bound_calls.specs.declared.term.Tree.{Tree}
use Rattle.bound_calls.specs.declared.term.Operand.{Operand}
use Rattle.bound_calls.specs.declared.term.Item.{Item}
use Rattle.bound_calls.specs.declared.term.Item.TheVariants as item
use Rattle.bound_calls.specs.Standing.{left_of, TermStands, TermNamed, QualifierStands, LeafStands, TreeStands, PushedIs, PushedStands, EndingIs, Stands, AllNamed, Grown, Base, on_pieces}
use Rattle.bound_calls.specs.Taking.{TakesValue, Pushes}
use Rattle.bound_calls.specs.References.{PushesReference, TakesGiven}
use Rattle.bound_calls.specs.Steps.{PushesLeft, PushesOperand, PushesValue, Leaves, Binds, Goes, MakesUnary, MakesBinary, MakesLeaf, AddsConstant, is_same}
use Rattle.bound_calls.proofs.Growing.{grown_same, grown_constant, grown_twice, all_named, stands_grows}

pub goes_same : (env : Env) (d : Drafted) (xs : List Item) → AllNamed d.tables xs → Goes env d xs d xs (λ is. is)
goes_same env d xs n = record { grown = grown_same d; named = n; stands = λ is base h. h }

-- ---- a left operand

settle_stands : (env : Env) (x : Tree) (xs : List Item) (d e : Drafted) (left : Operand) → AllNamed d.tables (item.Tree x ∷ xs) → PushesLeft x d e left → (is : List nodes.Item) (base : Base)
    → Stands env d.tables (item.Tree x ∷ xs) is d.pieces base → Stands env e.tables (item.Operand left ∷ xs) is e.pieces base
settle_stands env x xs d e left n p [] base h = absurd h
settle_stands env x xs d e left n p (nodes.arguments args ∷ is) base h = absurd h
settle_stands env x xs d e left n p (nodes.tree tree ∷ is) base h =
    (h.0, (record { pushed = p.stands env tree h.0 h.1.0 }, stands_grows env d.tables e.tables p.grown.tables xs n.1 is h.0 base h.1.1))

settle_tree : (env : Env) (x : Tree) (xs : List Item) (d e : Drafted) (left : Operand) → AllNamed d.tables (item.Tree x ∷ xs) → PushesLeft x d e left → Goes env d (item.Tree x ∷ xs) e (item.Operand left ∷ xs) (λ is. is)
settle_tree env x xs d e left n p = record {
  grown = p.grown;
  named = (tt, all_named d.tables e.tables p.grown.tables xs n.1);
  stands = λ is base h. settle_stands env x xs d e left n p is base h;
}

-- as the calls say it
pub settled : (env : Env) (x : Tree) (xs old new : List Item) (d e : Drafted) (left : Operand) → old ≡ item.Tree x ∷ xs → new ≡ item.Operand left ∷ xs → AllNamed d.tables old → PushesLeft x d e left → Goes env d old e new (λ is. is)
settled env x xs old new d e left o n k p =
    let N : List Item → Type 0 = λ l. AllNamed d.tables l in
    let A : List Item → Type 0 = λ l. Goes env d l e new (λ is. is) in
    let B : List Item → Type 0 = λ l. Goes env d (item.Tree x ∷ xs) e l (λ is. is) in
    subst A (sym o) (subst B (sym n) (settle_tree env x xs d e left (subst N o k) p))

pub put_back : (env : Env) (xs old new : List Item) (d : Drafted) → old ≡ new → AllNamed d.tables old → Goes env d old d new (λ is. is)
put_back env xs old new d o k = let A : List Item → Type 0 = λ l. Goes env d old d l (λ is. is) in subst A o (goes_same env d old k)

-- ---- leaves

leaf_same : (name : Option Identifier) (ps : List Piece) → LeafStands name ps ps
leaf_same (Some name) ps = refl
leaf_same None ps = tt

leaf_stands : (env : Env) (xs ys : List Item) (d e f : Drafted) (x : Tree) (tree : Expr) → declared_in env.scope ≡ declarations_view x.declared.now → Goes env d xs e ys (λ is. is) → MakesLeaf env e f x.term (term_of env tree) → x.place ≡ place_told tree
    → option_map (λ name. name.now) x.name ≡ name_in tree → QualifierStands env (option_map (λ name. name.now) x.name) x.dotted tree f.pieces f.pieces → (is : List nodes.Item) (base : Base) → Stands env d.tables xs is d.pieces base
    → Stands env f.tables (item.Tree x ∷ ys) (nodes.tree tree ∷ is) f.pieces base
leaf_stands env xs ys d e f x tree w g m p n q is base h = (
  f.pieces,
  (
    record { term_is = m.stands f.pieces; place_is = p; name_is = n; qualifier_is = q; leaf = leaf_same (option_map (λ name. name.now) x.name) f.pieces; declared_is = w },
    (let A : List Piece → Type 0 = λ ps. Stands env f.tables ys is ps base in
        subst A (sym m.pieces) (stands_grows env e.tables f.tables m.grown.tables ys g.named is e.pieces base (g.stands is base h))),
  ),
)

pub goes_leaf : (env : Env) (xs ys new : List Item) (d e f : Drafted) (x : Tree) (tree : Expr) → declared_in env.scope ≡ declarations_view x.declared.now → Goes env d xs e ys (λ is. is) → MakesLeaf env e f x.term (term_of env tree) → x.place ≡ place_told tree
    → option_map (λ name. name.now) x.name ≡ name_in tree → QualifierStands env (option_map (λ name. name.now) x.name) x.dotted tree f.pieces f.pieces → new ≡ item.Tree x ∷ ys → Goes env d xs f new (λ is. nodes.tree tree ∷ is)
goes_leaf env xs ys new d e f x tree w g m p n q eq =
    let A : List Item → Type 0 = λ l. Goes env d xs f l (λ is. nodes.tree tree ∷ is) in
    subst A (sym eq) (record {
      grown = grown_twice d e f g.grown m.grown;
      named = (m.named, all_named e.tables f.tables m.grown.tables ys g.named);
      stands = λ is base h. leaf_stands env xs ys d e f x tree w g m p n q is base h;
    })

-- ---- parentheses

valued : (env : Env) (t : Tables) (v : Ending) (y : plain.Term) (place : Place) (ps below : List Piece) → EndingIs t v place (given_as env y place) ps below → TermStands env t (term.Value v) (as_value env y place) ps below
valued env t v y place ps below h = record { made = h.made; is = ap (λ o. if_there (option_map value_term o)) h.is; ends = h.ends }

-- what is made of the tree on top
made_of_tree : (env : Env) (x y : Tree) (xs : List Item) (d e : Drafted) (f : Expr → Expr) → Grown d e → AllNamed d.tables xs
    → ((tree : Expr) (below : List Piece) → TreeStands env d.tables x tree d.pieces below → TreeStands env e.tables y (f tree) e.pieces below)
    → (g : List nodes.Item → List nodes.Item) → ((tree : Expr) (is : List nodes.Item) → g (nodes.tree tree ∷ is) ≡ nodes.tree (f tree) ∷ is)
    → (is : List nodes.Item) (base : Base) → Stands env d.tables (item.Tree x ∷ xs) is d.pieces base → Stands env e.tables (item.Tree y ∷ xs) (g is) e.pieces base
made_of_tree env x y xs d e f grown n make g eq [] base h = absurd h
made_of_tree env x y xs d e f grown n make g eq (nodes.arguments args ∷ is) base h = absurd h
made_of_tree env x y xs d e f grown n make g eq (nodes.tree tree ∷ is) base h =
    let A : List nodes.Item → Type 0 = λ l. Stands env e.tables (item.Tree y ∷ xs) l e.pieces base in
    subst A (sym (eq tree is)) (h.0, (make tree h.0 h.1.0, stands_grows env d.tables e.tables grown.tables xs n is h.0 base h.1.1))

pub goes_made : (env : Env) (x y : Tree) (xs old new : List Item) (d e : Drafted) (f : Expr → Expr) → old ≡ item.Tree x ∷ xs → new ≡ item.Tree y ∷ xs → Grown d e → AllNamed d.tables old → TermNamed e.tables y.term
    → ((tree : Expr) (below : List Piece) → TreeStands env d.tables x tree d.pieces below → TreeStands env e.tables y (f tree) e.pieces below)
    → (g : List nodes.Item → List nodes.Item) → ((tree : Expr) (is : List nodes.Item) → g (nodes.tree tree ∷ is) ≡ nodes.tree (f tree) ∷ is) → Goes env d old e new g
goes_made env x y xs old new d e f o n grown k named make g eq =
    let N : List Item → Type 0 = λ l. AllNamed d.tables l in
    let A : List Item → Type 0 = λ l. Goes env d l e new g in
    let B : List Item → Type 0 = λ l. Goes env d (item.Tree x ∷ xs) e l g in
    let all = subst N o k in
    subst A (sym o) (subst B (sym n) (record {
      grown = grown;
      named = (named, all_named d.tables e.tables grown.tables xs all.1);
      stands = λ is base h. made_of_tree env x y xs d e f grown all.1 make g eq is base h;
    }))

pub goes_parenthesised : (env : Env) (x : Tree) (left right : Token) (v : Ending) (xs old new : List Item) (d e : Drafted) → old ≡ item.Tree x ∷ xs
    → new ≡ item.Tree (record { place = x.place; name = None; dotted = None; term = term.Value v; declared = x.declared }) ∷ xs → AllNamed d.tables old → TakesGiven x.term x.place d e v → Goes env d old e new (behind_node (node.Parenthesised left right))
goes_parenthesised env x left right v xs old new d e o n k g =
    goes_made env x (record { place = x.place; name = None; dotted = None; term = term.Value v; declared = x.declared }) xs old new d e (λ tree. parenthesised left tree right) o n g.grown k g.named
    (λ tree below h. record { term_is = valued env e.tables v (term_of env tree) (place_told tree) e.pieces below (subst (λ (place : Place). EndingIs e.tables v place (given_as env (term_of env tree) place) e.pieces below) h.place_is (g.stands env (term_of env tree) below h.term_is)); place_is = h.place_is; name_is = refl; qualifier_is = refl; leaf = tt; declared_is = h.declared_is })
    (behind_node (node.Parenthesised left right)) (λ tree is. refl)

-- ---- operators

pub goes_unary : (env : Env) (x : Tree) (operator : UnaryOperator) (token : Token) (of : Option DeclaredType) (made : Term) (xs old new : List Item) (d e : Drafted) → old ≡ item.Tree x ∷ xs
    → new ≡ item.Tree (record { place = token.place; name = None; dotted = None; term = made; declared = x.declared }) ∷ xs → AllNamed d.tables old → PushesOperand x d e of → MakesUnary operator of made → Goes env d old e new (behind_node (node.Unary operator token))
goes_unary env x operator token of made xs old new d e o n k p m =
    goes_made env x (record { place = token.place; name = None; dotted = None; term = made; declared = x.declared }) xs old new d e (λ tree. unary operator token tree) o n p.grown k (m.named e.tables)
    (λ tree below h. record { term_is = m.stands env e.tables (operand_of env (term_of env tree) (place_told tree)) e.pieces below (p.stands env tree below h); place_is = refl; name_is = refl; qualifier_is = refl; leaf = tt; declared_is = h.declared_is })
    (behind_node (node.Unary operator token)) (λ tree is. refl)

-- but for Is an operator takes operands
two_operands : (env : Env) (l r : Expr) (o : BinaryOperator) (token : Token) → is_same o ≡ false
    → term_of env (binary l o token r) ≡ binary_term env (operator_kind o) (operand_of env (term_of env l) (place_told l)) (operand_of env (term_of env r) (place_told r))
two_operands env l r operators.Power token h = refl
two_operands env l r operators.Divide token h = refl
two_operands env l r operators.Multiply token h = refl
two_operands env l r operators.IntegerDivide token h = refl
two_operands env l r operators.Modulo token h = refl
two_operands env l r operators.Add token h = refl
two_operands env l r operators.Subtract token h = refl
two_operands env l r operators.Join token h = refl
two_operands env l r operators.Equal token h = refl
two_operands env l r operators.NotEqual token h = refl
two_operands env l r operators.Less token h = refl
two_operands env l r operators.Greater token h = refl
two_operands env l r operators.LessEqual token h = refl
two_operands env l r operators.GreaterEqual token h = refl
two_operands env l r operators.And token h = refl
two_operands env l r operators.Or token h = refl
two_operands env l r operators.Xor token h = refl
two_operands env l r operators.Eqv token h = refl
two_operands env l r operators.Imp token h = refl
two_operands env l r operators.Is token h = let e : true ≡ false = h in absurd cc

-- a left operand that is no reference
plain_left : (b : Bool) (env : Env) (t : plain.Term) (place : Place) → b ≡ false → left_of b env t place ≡ operand_of env t place
plain_left b env t place h = rw h refl

binary_stands : (env : Env) (left : Operand) (x : Tree) (operator : BinaryOperator) (token : Token) (of : Option DeclaredType) (made : Term) (xs : List Item) (d e : Drafted) (compare : Compare) → is_same operator ≡ false → left.is_reference ≡ false → compare ≡ compare_in env.scope
    → AllNamed d.tables xs → PushesOperand x d e of → MakesBinary compare operator left.of of made → (is : List nodes.Item) (base : Base)
    → Stands env d.tables (item.Tree x ∷ item.Operand left ∷ xs) is d.pieces base
    → Stands env e.tables (item.Tree (record { place = token.place; name = None; dotted = None; term = made; declared = x.declared }) ∷ xs) (behind_node (node.Binary operator token) is) e.pieces base
binary_stands env left x operator token of made xs d e compare o q c k p m [] base h = absurd h
binary_stands env left x operator token of made xs d e compare o q c k p m (nodes.arguments args ∷ is) base h = absurd h
binary_stands env left x operator token of made xs d e compare o q c k p m (nodes.tree r ∷ []) base h = absurd h.1.1
binary_stands env left x operator token of made xs d e compare o q c k p m (nodes.tree r ∷ nodes.arguments args ∷ is) base h = absurd h.1.1
binary_stands env left x operator token of made xs d e compare o q c k p m (nodes.tree r ∷ nodes.tree l ∷ is) base h =
    let low = h.1.1 in
    let A : plain.Term → Type 0 = λ z. TermStands env e.tables made z e.pieces low.0 in
    let B : Option bound.Expr → Type 0 = λ z. PushedStands left.of z h.0 low.0 in
    let pushed = subst B (plain_left left.is_reference env (term_of env l) (place_told l) q) low.1.0.pushed in (
      low.0,
      (
        record {
          term_is = subst A (sym (two_operands env l r operator token o)) (m.stands env e.tables (operand_of env (term_of env l) (place_told l)) (operand_of env (term_of env r) (place_told r)) e.pieces h.0 low.0 c pushed (p.stands env r h.0 h.1.0));
          place_is = refl;
          name_is = refl;
          qualifier_is = refl;
          leaf = tt;
          declared_is = h.1.0.declared_is;
        },
        stands_grows env d.tables e.tables p.grown.tables xs k is low.0 base low.1.1,
      ),
    )

pub goes_binary : (env : Env) (left : Operand) (x : Tree) (operator : BinaryOperator) (token : Token) (of : Option DeclaredType) (made : Term) (xs old between new : List Item) (d e : Drafted) (compare : Compare)
    → is_same operator ≡ false → left.is_reference ≡ false → compare ≡ compare_in env.scope → old ≡ item.Tree x ∷ between → between ≡ item.Operand left ∷ xs → new ≡ item.Tree (record { place = token.place; name = None; dotted = None; term = made; declared = x.declared }) ∷ xs → AllNamed d.tables old
    → PushesOperand x d e of → MakesBinary compare operator left.of of made → Goes env d old e new (behind_node (node.Binary operator token))
goes_binary env left x operator token of made xs old between new d e compare other q c o b n k p m =
    let g = behind_node (node.Binary operator token) in
    let all : old ≡ item.Tree x ∷ item.Operand left ∷ xs = o ∙ ap (λ l. item.Tree x ∷ l) b in
    let N : List Item → Type 0 = λ l. AllNamed d.tables l in
    let A : List Item → Type 0 = λ l. Goes env d l e new g in
    let B : List Item → Type 0 = λ l. Goes env d (item.Tree x ∷ item.Operand left ∷ xs) e l g in
    let named = subst N all k in
    subst A (sym all) (subst B (sym n) (record {
      grown = p.grown;
      named = (m.named e.tables, all_named d.tables e.tables p.grown.tables xs named.1.1);
      stands = λ is base h. binary_stands env left x operator token of made xs d e compare other q c named.1.1 p m is base h;
    }))

-- ---- Is

abbrev same_ending : Ending
same_ending = record { kind = kind.Same; of = Plain element.Boolean }

same_term_stands : (env : Env) (t : Tables) (l r : Option bound.Expr) (a b : bound.Expr) (ps between below : List Piece) → l ≡ Some a → r ≡ Some b → between ≡ an_expr a ∷ below → ps ≡ an_expr b ∷ between
    → TermStands env t (term.Value same_ending) (same_term l r) ps below
same_term_stands env t l r a b ps between below one other low high = record {
  made = same a b;
  is = ap (λ o. same_term o r) one ∙ ap (λ o. same_term (Some a) o) other;
  ends = λ n. ap (λ st. of_both (λ x y. expr_of n (same x y)) st) (high ∙ ap (λ st. an_expr b ∷ st) low);
}

referred_left : (b : Bool) (env : Env) (t : plain.Term) (place : Place) → b ≡ true → left_of b env t place ≡ reference_of env t place
referred_left b env t place h = rw h refl

left_pushed : (of : Option DeclaredType) (u : DeclaredType) (found : Option bound.Expr) (ps below : List Piece) → of ≡ Some u → PushedStands of found ps below → PushedIs u found ps below
left_pushed of u found ps below h k = let A : Option DeclaredType → Type 0 = λ o. PushedStands o found ps below in subst A h k

same_stands : (env : Env) (left : Operand) (u of : DeclaredType) (x : Tree) (token : Token) (xs : List Item) (d e : Drafted) → left.is_reference ≡ true → left.of ≡ Some u → AllNamed d.tables xs → PushesReference x d e of
    → (is : List nodes.Item) (base : Base) → Stands env d.tables (item.Tree x ∷ item.Operand left ∷ xs) is d.pieces base
    → Stands env e.tables (item.Tree (record { place = token.place; name = None; dotted = None; term = term.Value same_ending; declared = x.declared }) ∷ xs) (behind_node (node.Binary operators.Is token) is) e.pieces base
same_stands env left u of x token xs d e q v k p [] base h = absurd h
same_stands env left u of x token xs d e q v k p (nodes.arguments args ∷ is) base h = absurd h
same_stands env left u of x token xs d e q v k p (nodes.tree r ∷ []) base h = absurd h.1.1
same_stands env left u of x token xs d e q v k p (nodes.tree r ∷ nodes.arguments args ∷ is) base h = absurd h.1.1
same_stands env left u of x token xs d e q v k p (nodes.tree r ∷ nodes.tree l ∷ is) base h =
    let low = h.1.1 in
    let s = p.stands env r h.0 h.1.0 in
    let B : Option bound.Expr → Type 0 = λ z. PushedStands left.of z h.0 low.0 in
    let w = left_pushed left.of u (reference_of env (term_of env l) (place_told l)) h.0 low.0 v (subst B (referred_left left.is_reference env (term_of env l) (place_told l) q) low.1.0.pushed) in (
      low.0,
      (
        record {
          term_is = same_term_stands env e.tables (reference_of env (term_of env l) (place_told l)) (reference_of env (term_of env r) (place_told r)) w.made
              (expression_of s.made s.place (declared_view of)) e.pieces h.0 low.0 w.is s.is w.on_top s.on_top;
          place_is = refl;
          name_is = refl;
          qualifier_is = refl;
          leaf = tt;
          declared_is = h.1.0.declared_is;
        },
        stands_grows env d.tables e.tables p.grown.tables xs k is low.0 base low.1.1,
      ),
    )

pub goes_same_object : (env : Env) (left : Operand) (u of : DeclaredType) (x : Tree) (token : Token) (xs old between new : List Item) (d e : Drafted) → left.is_reference ≡ true → left.of ≡ Some u → old ≡ item.Tree x ∷ between
    → between ≡ item.Operand left ∷ xs → new ≡ item.Tree (record { place = token.place; name = None; dotted = None; term = term.Value same_ending; declared = x.declared }) ∷ xs → AllNamed d.tables old → PushesReference x d e of
    → Goes env d old e new (behind_node (node.Binary operators.Is token))
goes_same_object env left u of x token xs old between new d e q v o b n k p =
    let g = behind_node (node.Binary operators.Is token) in
    let all : old ≡ item.Tree x ∷ item.Operand left ∷ xs = o ∙ ap (λ l. item.Tree x ∷ l) b in
    let N : List Item → Type 0 = λ l. AllNamed d.tables l in
    let A : List Item → Type 0 = λ l. Goes env d l e new g in
    let B : List Item → Type 0 = λ l. Goes env d (item.Tree x ∷ item.Operand left ∷ xs) e l g in
    let named = subst N all k in
    subst A (sym all) (subst B (sym n) (record {
      grown = p.grown;
      named = (tt, all_named d.tables e.tables p.grown.tables xs named.1.1);
      stands = λ is base h. same_stands env left u of x token xs d e q v named.1.1 p is base h;
    }))

-- ---- constants

pub makes_constant : (env : Env) (v : Val) (of : DeclaredType) (d e : Drafted) (number : ℕ) → AddsConstant v d e number
    → MakesLeaf env d e (term.Value (record { kind = kind.Constant number; of = of })) (a_value (constant v) (declared_view of))
makes_constant env v of d e number h =
    let A : Drafted → Type 0 = λ x. MakesLeaf env d x (term.Value (record { kind = kind.Constant number; of = of })) (a_value (constant v) (declared_view of)) in
    subst A (sym h.draft_is) (record {
      grown = grown_constant d v;
      pieces = refl;
      named = omega (arith, h.number_is, length-append d.tables.constants (v ∷ []));
      stands = λ ps. record { made = constant v; is = refl; ends = λ n. ap (λ w. expr_of n (constant w) ∷ ps) (constant_last d.tables v number h.number_is) };
    })

pub literal_leaf : (env : Env) (d e : Drafted) (x : Term) (v w : Val) (of : DeclaredType) → declared_view of ≡ value_type v → v ≡ w → MakesLeaf env d e x (a_value (constant v) (declared_view of))
    → MakesLeaf env d e x (literal_term w)
literal_leaf env d e x v w of h eq m =
    let A : Declared → Type 0 = λ u. MakesLeaf env d e x (a_value (constant v) u) in
    let B : Val → Type 0 = λ u. MakesLeaf env d e x (literal_term u) in subst B eq (subst A h m)

-- ---- all nodes

-- from a stack to another one, and from there to a third
pub goes_twice : (env : Env) (d e f : Drafted) (xs ys zs : List Item) (g h : List nodes.Item → List nodes.Item) → Goes env d xs e ys g → Goes env e ys f zs h → Goes env d xs f zs (λ is. h (g is))
goes_twice env d e f xs ys zs g h a b = record {
  grown = grown_twice d e f a.grown b.grown;
  named = b.named;
  stands = λ is base k. b.stands (g is) base (a.stands is base k);
}

pub goes_as : (env : Env) (d e : Drafted) (xs ys : List Item) (g h : List nodes.Item → List nodes.Item) → ((is : List nodes.Item) → g is ≡ h is) → Goes env d xs e ys g → Goes env d xs e ys h
goes_as env d e xs ys g h eq a = record {
  grown = a.grown;
  named = a.named;
  stands = λ is base k. (let A : List nodes.Item → Type 0 = λ l. Stands env e.tables ys l e.pieces base in subst A (eq is) (a.stands is base k));
}

-- some nodes were read, and others are left
pub record Reading (env : Env) (ns : List ExpressionNode) (d : Drafted) (xs : List Item) (e : Drafted) (ys : List Item) (left : List ExpressionNode) : Type 0 where
  pub read_as : List nodes.Item → List nodes.Item
  pub goes : Goes env d xs e ys read_as
  pub rest_is : (is : List nodes.Item) → behind_nodes (read_as is) left ≡ behind_nodes is ns

pub reading_starts : (env : Env) (ns : List ExpressionNode) (d : Drafted) (xs : List Item) → AllNamed d.tables xs → Reading env ns d xs d xs ns
reading_starts env ns d xs n = record { read_as = λ is. is; goes = goes_same env d xs n; rest_is = λ is. refl }

pub reading_on : (env : Env) (ns : List ExpressionNode) (d e f : Drafted) (xs ys zs : List Item) (n : ExpressionNode) (left : List ExpressionNode) → Reading env ns d xs e ys (n ∷ left) → Goes env e ys f zs (behind_node n)
    → Reading env ns d xs f zs left
reading_on env ns d e f xs ys zs n left r g = record { read_as = λ is. behind_node n (r.read_as is); goes = goes_twice env d e f xs ys zs r.read_as (behind_node n) r.goes g; rest_is = r.rest_is }

pub reading_ends : (env : Env) (ns : List ExpressionNode) (d e : Drafted) (xs ys : List Item) → Reading env ns d xs e ys [] → Goes env d xs e ys (λ is. behind_nodes is ns)
reading_ends env ns d e xs ys r = goes_as env d e xs ys r.read_as (λ is. behind_nodes is ns) r.rest_is r.goes

pub reading_next : (env : Env) (ns : List ExpressionNode) (d e f : Drafted) (xs ys zs : List Item) (i : ℕ) (n : ExpressionNode) → i < length ns → n ≡ get_or ns i n → Reading env ns d xs e ys (drop i ns)
    → Goes env e ys f zs (behind_node n) → Reading env ns d xs f zs (drop (i + 1) ns)
reading_next env ns d e f xs ys zs i n lt is r g =
    let left : drop i ns ≡ n ∷ drop (i + 1) ns = drop_more ns i n lt ∙ ap (λ m. m ∷ drop (i + 1) ns) (sym is) in
    let A : List ExpressionNode → Type 0 = λ l. Reading env ns d xs e ys l in
    reading_on env ns d e f xs ys zs n (drop (i + 1) ns) (subst A left r) g

pub reading_done : (env : Env) (ns : List ExpressionNode) (d e : Drafted) (xs ys : List Item) (i : ℕ) → length ns ≤ i → Reading env ns d xs e ys (drop i ns) → Goes env d xs e ys (λ is. behind_nodes is ns)
reading_done env ns d e xs ys i le r =
    let A : List ExpressionNode → Type 0 = λ l. Reading env ns d xs e ys l in
    reading_ends env ns d e xs ys (subst A (drop_all i ns le) r)

-- ---- the whole expression

-- one item is left
pub leaves_tree : (env : Env) (ns : List ExpressionNode) (x : Tree) (ys xs : List Item) (d e : Drafted) → ys ≡ item.Tree x ∷ xs → xs ≡ [] → Goes env d [] e ys (λ is. behind_nodes is ns) → Leaves env (tree_in ns) d e x
leaves_tree env ns x ys xs d e a b g =
    let all : ys ≡ item.Tree x ∷ [] = a ∙ ap (λ l. item.Tree x ∷ l) b in
    let N : List Item → Type 0 = λ l. AllNamed e.tables l in
    let A : List Item → Type 0 = λ l. Stands env e.tables l (items_of ns) e.pieces (on_pieces d.pieces) in
    record { grown = g.grown; named = (subst N all g.named).0; stands = only_tree env e.tables x (items_of ns) e.pieces (on_pieces d.pieces) (subst A all (g.stands [] (on_pieces d.pieces) (refl, refl))) }
  where
    only_tree : (env : Env) (t : Tables) (x : Tree) (is : List nodes.Item) (ps : List Piece) (base : Base) → Stands env t (item.Tree x ∷ []) is ps base → TreeStands env t x (last_tree is) ps base.pieces
    only_tree env t x [] ps base h = absurd h
    only_tree env t x (nodes.arguments args ∷ is) ps base h = absurd h
    only_tree env t x (nodes.tree tree ∷ is) ps base h = let A : List Piece → Type 0 = λ l. TreeStands env t x tree ps l in subst A h.1.1.1 h.1.0

pub pushes_value : (x : Tree) (d d1 e : Drafted) (ending : Option Ending) (of : Option DeclaredType) → TakesValue x.term x.place d d1 ending → Pushes ending x.place d1 e of → PushesValue x d e of
pushes_value x d d1 e ending of t p = record {
  grown = grown_twice d d1 e t.grown p.grown;
  stands = λ env tree below k.
      let P : Place → Type 0 = λ place. PushedStands of (value_of env (term_of env tree) place) e.pieces below in
      subst P k.place_is (p.stands (value_of env (term_of env tree) x.place) below (t.stands env (term_of env tree) below k.term_is));
}

pub binds_operand : (env : Env) (tree : Expr) (x : Tree) (d e f : Drafted) (of : Option DeclaredType) → Leaves env tree d e x → PushesOperand x e f of → Binds (bound_operand env tree) d f of
binds_operand env tree x d e f of l p = record { grown = grown_twice d e f l.grown p.grown; pushed = p.stands env tree d.pieces l.stands }

pub binds_value : (env : Env) (tree : Expr) (x : Tree) (d e f : Drafted) (of : Option DeclaredType) → Leaves env tree d e x → PushesValue x e f of → Binds (bound_value env tree) d f of
binds_value env tree x d e f of l p = record { grown = grown_twice d e f l.grown p.grown; pushed = p.stands env tree d.pieces l.stands }
