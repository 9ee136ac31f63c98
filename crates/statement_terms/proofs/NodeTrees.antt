-- Expressions by a part of their nodes.
use Rattle.std.proofs.Common.{◌≡◌, ℕ, List, [], ◌∷◌, ◌++◌, take, drop, take-append-drop, Option, Some, None, refl, sym, ap, subst, ◌∙◌}
use Rattle.vba_words.specs.declared.identifier.Identifier.{Identifier}
use Rattle.vba_lexer.specs.declared.number.TypeSuffix.{TypeSuffix}
use Rattle.vba_lexer.specs.declared.token.Token.{Token}
use Rattle.vba_expression.specs.Tree.{Expr, literal, me, name, with_member, member, index, parenthesised, new, type_of, unary, binary}
use Rattle.vba_expression.specs.Reader.{behind_dot, new_behind_dot, type_of_behind_dot}
use Rattle.vba_expression.specs.declared.tree.TypeQualifier.{TypeQualifier}
use Rattle.vba_expression.specs.Nodes as nodes
use Rattle.vba_expression.specs.Nodes.{behind_node, behind_nodes, items_of, last_tree, tree_in}
use Rattle.vba_expression.specs.declared.node.ExpressionNode.{ExpressionNode}
use Rattle.vba_expression.specs.declared.node.ExpressionNode.TheVariants as node
use Rattle.bound_project.specs.Pieces.{Piece, Tables}
use Rattle.bound_project.specs.Drafts.{Drafted}
use Rattle.bound_members.specs.bound_calls.specs.bound_forms.specs.Terms.{Env}
use Rattle.bound_members.specs.bound_calls.specs.declared.term.Tree.{Tree}
use Rattle.bound_members.specs.bound_calls.specs.declared.term.Item.{Item}
use Rattle.bound_members.specs.bound_calls.specs.declared.term.Item.TheVariants as item
use Rattle.bound_members.specs.bound_calls.specs.Standing.{TermNamed, TreeStands, Stands, Grown, on_pieces}
use Rattle.bound_members.specs.bound_calls.specs.Steps.{Goes, Leaves}
use Rattle.statement_terms.specs.declared.trees.Split.{Split}
use Rattle.statement_terms.specs.Called.{Continues, IsBare, LeavesAlone, SplitAt}
use Rattle.bound_members.specs.bound_calls.proofs.Growing.{grown_twice, term_named, tree_grows}
use Rattle.bound_members.specs.bound_calls.proofs.Steps.{leaves_tree}

-- one item is left
only_one : (env : Env) (t : Tables) (x : Tree) (is : List nodes.Item) (ps below : List Piece) → Stands env t (item.Tree x ∷ []) is ps (on_pieces below) → is ≡ nodes.tree (last_tree is) ∷ []
only_one env t x [] ps below h = absurd h
only_one env t x (nodes.arguments args ∷ is) ps below h = absurd h
only_one env t x (nodes.tree tree ∷ is) ps below h = ap (λ l. nodes.tree tree ∷ l) h.1.1.0

pub leaves_alone : (env : Env) (ns : List ExpressionNode) (x : Tree) (ys xs : List Item) (d e : Drafted) → ys ≡ item.Tree x ∷ xs → xs ≡ [] → Goes env d [] e ys (λ is. behind_nodes is ns) → LeavesAlone env ns d e x
leaves_alone env ns x ys xs d e a b g =
    let all : ys ≡ item.Tree x ∷ [] = a ∙ ap (λ l. item.Tree x ∷ l) b in
    let A : List Item → Type 0 = λ l. Stands env e.tables l (items_of ns) e.pieces (on_pieces d.pieces) in
    record { leaves = leaves_tree env ns x ys xs d e a b g; alone = only_one env e.tables x (items_of ns) e.pieces d.pieces (subst A all (g.stands [] (on_pieces d.pieces) (refl, refl))) }

-- ---- nodes

pub behind_push : (is : List nodes.Item) (ns : List ExpressionNode) (n : ExpressionNode) → behind_nodes is (ns ++ n ∷ []) ≡ behind_node n (behind_nodes is ns)
behind_push is [] n = refl
behind_push is (m ∷ ns) n = behind_push (behind_node m is) ns n

pub behind_both : (is : List nodes.Item) (ms ns : List ExpressionNode) → behind_nodes is (ms ++ ns) ≡ behind_nodes (behind_nodes is ms) ns
behind_both is [] ns = refl
behind_both is (m ∷ ms) ns = behind_both (behind_node m is) ms ns

pub continues : (env : Env) (ns : List ExpressionNode) (x y : Tree) (ys xs start : List Item) (d e : Drafted) → start ≡ item.Tree x ∷ [] → ys ≡ item.Tree y ∷ xs → xs ≡ [] → Goes env d start e ys (λ is. behind_nodes is ns)
    → Continues env x ns d e y
continues env ns x y ys xs start d e s a b g =
    let all : ys ≡ item.Tree y ∷ [] = a ∙ ap (λ l. item.Tree y ∷ l) b in
    let A : List Item → Type 0 = λ l. Goes env d l e ys (λ is. behind_nodes is ns) in
    let B : List Item → Type 0 = λ l. Goes env d (item.Tree x ∷ []) e l (λ is. behind_nodes is ns) in
    record { goes = subst B all (subst A s g) }

pub only_tree : (env : Env) (t : Tables) (x : Tree) (is : List nodes.Item) (ps below : List Piece) → Stands env t (item.Tree x ∷ []) is ps (on_pieces below) → TreeStands env t x (last_tree is) ps below
only_tree env t x [] ps below h = absurd h
only_tree env t x (nodes.arguments args ∷ is) ps below h = absurd h
only_tree env t x (nodes.tree tree ∷ is) ps below h = let A : List Piece → Type 0 = λ l. TreeStands env t x tree ps l in subst A h.1.1.1 h.1.0

-- an expression, as it goes on
pub continued : (env : Env) (target closed all : List ExpressionNode) (x y : Tree) (d f g e : Drafted) → all ≡ target ++ closed → LeavesAlone env target d f x → Grown f g → g.pieces ≡ f.pieces → Continues env x closed g e y
    → Leaves env (tree_in all) d e y
continued env target closed all x y d f g e is l grown same c =
    let base = nodes.tree (tree_in target) ∷ [] in
    let A : List Piece → Type 0 = λ ps. TreeStands env g.tables x (tree_in target) ps d.pieces in
    let start : TreeStands env g.tables x (tree_in target) g.pieces d.pieces = subst A (sym same) (tree_grows env f.tables g.tables grown.tables x l.leaves.named (tree_in target) f.pieces d.pieces l.leaves.stands) in
    let end = only_tree env e.tables y (behind_nodes base closed) e.pieces d.pieces (c.goes.stands base (on_pieces d.pieces) (d.pieces, (start, (refl, refl)))) in
    let tree : last_tree (behind_nodes base closed) ≡ tree_in all = sym (ap tree_in is ∙ ap last_tree (behind_both [] target closed) ∙ ap (λ is. last_tree (behind_nodes is closed)) l.alone) in
    let B : Expr → Type 0 = λ t. TreeStands env e.tables y t e.pieces d.pieces in
    record { grown = grown_twice d f e l.leaves.grown (grown_twice f g e grown c.goes.grown); named = c.goes.named.0; stands = subst B tree end }

pub still_named : (x : Tree) (f g : Drafted) → Grown f g → TermNamed f.tables x.term → TermNamed g.tables x.term
still_named x f g grown h = term_named f.tables g.tables grown.tables x.term h

-- nodes before arguments in brackets, which end the others
pub split_found : (x : Split) (all : List ExpressionNode) (start : ℕ) (left right : Token) → x.target.now ≡ take start all → x.closed.now ≡ drop start all → x.closed.now ≡ x.arguments.now ++ node.Index left right ∷ [] → SplitAt x all
split_found x all start left right t c closed = record {
  left = left;
  right = right;
  is = sym (take-append-drop start all) ∙ ap (λ (l : List ExpressionNode). l ++ drop start all) (sym t) ∙ ap (λ (l : List ExpressionNode). x.target.now ++ l) (sym c);
  closed_is = closed;
}

bare_new : (word : Token) (q : Option TypeQualifier) (first : Identifier) (dot : Token) (last : Identifier) (s : Option TypeSuffix) → IsBare (new_behind_dot word q first dot last s)
bare_new word None first dot last None = tt
bare_new word None first dot last (Some s) = tt
bare_new word (Some q) first dot last s = tt

bare_type_of : (word : Token) (operand : Expr) (is_word : Token) (q : Option TypeQualifier) (first : Identifier) (dot : Token) (last : Identifier) (s : Option TypeSuffix)
    → IsBare (type_of_behind_dot word operand is_word q first dot last s)
bare_type_of word operand is_word None first dot last None = tt
bare_type_of word operand is_word None first dot last (Some s) = tt
bare_type_of word operand is_word (Some q) first dot last s = tt

bare_dot : (e : Expr) (dot : Token) (x : Identifier) → IsBare (behind_dot e dot x)
bare_dot (literal l) dot x = tt
bare_dot (me token) dot x = tt
bare_dot (name y) dot x = tt
bare_dot (with_member first y) dot x = tt
bare_dot (member base first y) dot x = tt
bare_dot (index base left args right) dot x = tt
bare_dot (parenthesised left inner right) dot x = tt
bare_dot (new word class) dot x = bare_new word class.qualifier class.name dot x x.suffix
bare_dot (type_of word operand is_word class) dot x = bare_type_of word operand is_word class.qualifier class.name dot x x.suffix
bare_dot (unary o token operand) dot x = tt
bare_dot (binary l o token r) dot x = tt

pub bare_name : (ns : List ExpressionNode) (x : Identifier) → IsBare (tree_in (ns ++ node.Name x ∷ []))
bare_name ns x = let A : List nodes.Item → Type 0 = λ is. IsBare (last_tree is) in subst A (sym (behind_push [] ns (node.Name x))) tt

pub bare_with : (ns : List ExpressionNode) (dot : Token) (x : Identifier) → IsBare (tree_in (ns ++ node.WithMember dot x ∷ []))
bare_with ns dot x = let A : List nodes.Item → Type 0 = λ is. IsBare (last_tree is) in subst A (sym (behind_push [] ns (node.WithMember dot x))) tt

pub bare_me : (ns : List ExpressionNode) (token : Token) → IsBare (tree_in (ns ++ node.Me token ∷ []))
bare_me ns token = let A : List nodes.Item → Type 0 = λ is. IsBare (last_tree is) in subst A (sym (behind_push [] ns (node.Me token))) tt

pub bare_member : (ns : List ExpressionNode) (dot : Token) (x : Identifier) → IsBare (tree_in (ns ++ node.Member dot x ∷ []))
bare_member ns dot x =
    let A : List nodes.Item → Type 0 = λ is. IsBare (last_tree is) in
    subst A (sym (behind_push [] ns (node.Member dot x))) (bare_dot (last_tree (behind_nodes [] ns)) dot x)
