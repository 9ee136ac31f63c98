-- Nodes that leave one more item, and those below as they are.
use Rattle.std.proofs.Common.{◌≡◌, ℕ, ◌+◌, ◌<◌, ◌≤◌, Bool, true, false, eqb, List, [], ◌∷◌, ◌++◌, length, drop, get_or, Option, Some, None, refl, sym, ap, subst, ◌∙◌}
use Rattle.std.specs.Prelude.{MatchBool, option_and_then}
use Rattle.std.proofs.lemmas.Bool.{eqb-true}
use Rattle.std.proofs.lemmas.List.{at_drop_all, drop_more}
use Rattle.vba_expression.specs.Nodes.{Item, behind_node, behind_nodes}
use Rattle.vba_expression.specs.declared.node.ExpressionNode.{ExpressionNode}
use Rattle.vba_expression.specs.declared.node.ExpressionNode.TheVariants as node
use Rattle.statement_terms.specs.Heights.{AddsOne, height_behind, height_of, items_taken}

-- so many items stand above others
pub record Above (height : ℕ) (all above items : List Item) : Type 0 where
  pub long : length above ≡ height
  pub is : all ≡ above ++ items

made : (k : ℕ) (all items : List Item) (above : List Item) → Some (length above) ≡ Some k → all ≡ above ++ items → Above k all above items
made k all items above h is = record { long = (cc); is = is }

-- behind one node
node_above : (n : ExpressionNode) (xs items : List Item) (k : ℕ) → height_behind (items_taken n) (length xs) ≡ Some k → Above k (behind_node n (xs ++ items)) (behind_node n xs) items
node_above (node.Literal l) xs items k h = made k (behind_node (node.Literal l) (xs ++ items)) items (behind_node (node.Literal l) xs) h refl
node_above (node.Me token) xs items k h = made k (behind_node (node.Me token) (xs ++ items)) items (behind_node (node.Me token) xs) h refl
node_above (node.Name x) xs items k h = made k (behind_node (node.Name x) (xs ++ items)) items (behind_node (node.Name x) xs) h refl
node_above (node.WithMember dot x) xs items k h = made k (behind_node (node.WithMember dot x) (xs ++ items)) items (behind_node (node.WithMember dot x) xs) h refl
node_above node.NoArguments xs items k h = made k (behind_node node.NoArguments (xs ++ items)) items (behind_node node.NoArguments xs) h refl
node_above (node.New word class) xs items k h = made k (behind_node (node.New word class) (xs ++ items)) items (behind_node (node.New word class) xs) h refl
node_above n [] items k h = let e : None ≡ Some k = h in absurd cc
node_above (node.Member dot x) (i ∷ xs) items k h = made k (behind_node (node.Member dot x) (i ∷ xs ++ items)) items (behind_node (node.Member dot x) (i ∷ xs)) h refl
node_above (node.MissingArgument comma) (i ∷ xs) items k h = made k (behind_node (node.MissingArgument comma) (i ∷ xs ++ items)) items (behind_node (node.MissingArgument comma) (i ∷ xs)) h refl
node_above (node.Parenthesised left right) (i ∷ xs) items k h =
    made k (behind_node (node.Parenthesised left right) (i ∷ xs ++ items)) items (behind_node (node.Parenthesised left right) (i ∷ xs)) h refl
node_above (node.TypeOf word is_word class) (i ∷ xs) items k h =
    made k (behind_node (node.TypeOf word is_word class) (i ∷ xs ++ items)) items (behind_node (node.TypeOf word is_word class) (i ∷ xs)) h refl
node_above (node.Unary operator token) (i ∷ xs) items k h = made k (behind_node (node.Unary operator token) (i ∷ xs ++ items)) items (behind_node (node.Unary operator token) (i ∷ xs)) h refl
node_above n (i ∷ []) items k h = let e : None ≡ Some k = h in absurd cc
node_above (node.PlainArgument comma) (i ∷ j ∷ xs) items k h =
    made k (behind_node (node.PlainArgument comma) (i ∷ j ∷ xs ++ items)) items (behind_node (node.PlainArgument comma) (i ∷ j ∷ xs)) h refl
node_above (node.NamedArgument comma x mark) (i ∷ j ∷ xs) items k h =
    made k (behind_node (node.NamedArgument comma x mark) (i ∷ j ∷ xs ++ items)) items (behind_node (node.NamedArgument comma x mark) (i ∷ j ∷ xs)) h refl
node_above (node.Index left right) (i ∷ j ∷ xs) items k h =
    made k (behind_node (node.Index left right) (i ∷ j ∷ xs ++ items)) items (behind_node (node.Index left right) (i ∷ j ∷ xs)) h refl
node_above (node.Binary operator token) (i ∷ j ∷ xs) items k h =
    made k (behind_node (node.Binary operator token) (i ∷ j ∷ xs ++ items)) items (behind_node (node.Binary operator token) (i ∷ j ∷ xs)) h refl

-- behind nodes
behind_first : (n : ExpressionNode) (ns : List ExpressionNode) (xs items : List Item) (height k : ℕ) (o : Option ℕ) → length xs ≡ height → height_behind (items_taken n) height ≡ o → height_of (n ∷ ns) height ≡ Some k
    → ((ys : List Item) (m : ℕ) → length ys ≡ m → height_of ns m ≡ Some k → Above k (behind_nodes (ys ++ items) ns) (behind_nodes ys ns) items) → Above k (behind_nodes (behind_node n (xs ++ items)) ns) (behind_nodes (behind_node n xs) ns) items
behind_first n ns xs items height k None long e h others = let none : None ≡ Some k = sym (ap (λ (o : Option ℕ). option_and_then (height_of ns) o) e) ∙ h in absurd cc
behind_first n ns xs items height k (Some m) long e h others =
    let first = node_above n xs items m (ap (λ (l : ℕ). height_behind (items_taken n) l) long ∙ e) in
    let more : height_of ns m ≡ Some k = sym (ap (λ (o : Option ℕ). option_and_then (height_of ns) o) e) ∙ h in
    let P : List Item → Type 0 = λ (l : List Item). Above k (behind_nodes l ns) (behind_nodes (behind_node n xs) ns) items in
    subst P (sym first.is) (others (behind_node n xs) m first.long more)

nodes_above : (ns : List ExpressionNode) (xs items : List Item) (height k : ℕ) → length xs ≡ height → height_of ns height ≡ Some k → Above k (behind_nodes (xs ++ items) ns) (behind_nodes xs ns) items
nodes_above [] xs items height k long h = record { long = (cc); is = refl }
nodes_above (n ∷ ns) xs items height k long h =
    behind_first n ns xs items height k (height_behind (items_taken n) height) long refl h (λ ys m l e. nodes_above ns ys items m k l e)

one_item : (xs : List Item) → length xs ≡ 1 → (i : Item) × (xs ≡ i ∷ [])
one_item [] long = absurd cc
one_item (i ∷ []) long = (i, refl)
one_item (i ∷ j ∷ xs) long = absurd cc

adds_one : (ns : List ExpressionNode) → height_of ns 0 ≡ Some 1 → AddsOne ns
adds_one ns h =
    let one = one_item (behind_nodes [] ns) (nodes_above ns [] [] 0 1 refl h).long in
    record { added = one.0; is = λ items. (nodes_above ns [] items 0 1 refl h).is ∙ ap (λ (l : List Item). l ++ items) one.1 }

pub one_or_none : (ns : List ExpressionNode) (height : ℕ) → height_of ns 0 ≡ Some height → MatchBool (eqb height 1) (AddsOne ns) (Unit {0})
one_or_none ns height h = by_test (eqb height 1) (λ e. adds_one ns (h ∙ ap (λ (k : ℕ). Some k) (eqb-true height 1 e)))
  where
    by_test : (b : Bool) → (b ≡ true → AddsOne ns) → MatchBool b (AddsOne ns) (Unit {0})
    by_test true k = k refl
    by_test false k = tt

-- nodes are read one after another
pub height_goes_on : (ns : List ExpressionNode) (i height more : ℕ) (n : ExpressionNode) → i < length ns → n ≡ get_or ns i n → height_behind (items_taken n) height ≡ Some more → height_of (drop i ns) height ≡ height_of ns 0
    → height_of (drop (i + 1) ns) more ≡ height_of ns 0
height_goes_on ns i height more n there is behind h =
    let P : ExpressionNode → Type 0 = λ (m : ExpressionNode). drop i ns ≡ m ∷ drop (i + 1) ns in
    let here : drop i ns ≡ n ∷ drop (i + 1) ns = subst P (sym is) (drop_more ns i n there) in
    sym (ap (λ (l : List ExpressionNode). height_of l height) here ∙ ap (λ (o : Option ℕ). option_and_then (height_of (drop (i + 1) ns)) o) behind) ∙ h

pub height_ends : (ns : List ExpressionNode) (i height : ℕ) → length ns ≤ i → height_of (drop i ns) height ≡ height_of ns 0 → height_of ns 0 ≡ Some height
height_ends ns i height all h = sym h ∙ at_drop_all (λ (l : List ExpressionNode). height_of l height) ns i all
