-- One node more, and one frame more.
use Rattle.std.proofs.Common.{◌≡◌, ℕ, true, false, List, [], ◌∷◌, ◌++◌, refl, sym, ap, ◌∙◌}
use Rattle.std.specs.Prelude.{reverse}
use Rattle.std.proofs.lemmas.List.{reverse-append}
use Rattle.vba_expression.specs.declared.frame.Frame.{Frame}
use Rattle.vba_expression.specs.declared.frame.Frame.TheVariants as frames
use Rattle.vba_expression.specs.declared.node.ExpressionNode.{ExpressionNode}
use Rattle.vba_expression.specs.Nodes.{Item, last_tree, rest, behind_node, behind_nodes, items_of}
use Rattle.vba_expression.specs.Reader.{right_operand, unary_operand, reduce, stays_open}
use Rattle.vba_expression.specs.Seen.{waiting_on, waiting, behind_operation}
use Rattle.vba_expression.proofs.Reducing.{reduce_ends}

nodes_push : (items : List Item) (ns : List ExpressionNode) (n : ExpressionNode) → behind_nodes items (ns ++ n ∷ []) ≡ behind_node n (behind_nodes items ns)
nodes_push items [] n = refl
nodes_push items (m ∷ ns) n = nodes_push (behind_node m items) ns n

pub items_push : (ns : List ExpressionNode) (n : ExpressionNode) → items_of (ns ++ n ∷ []) ≡ behind_node n (items_of ns)
items_push ns n = nodes_push [] ns n

pub waiting_push : (held : List Frame) (f : Frame) (items : List Item) → waiting (held ++ f ∷ []) items ≡ waiting_on (f ∷ reverse held) items
waiting_push held f items = ap (λ fs. waiting_on fs items) (reverse-append held (f ∷ []))

-- the operation on top ends
ends_on : (k : ℕ) (f : Frame) (fs : List Frame) (items : List Item) → stays_open k (waiting_on (f ∷ fs) (rest items)) ≡ false
    → reduce k (last_tree items) (waiting_on (f ∷ fs) (rest items))
    ≡ reduce k (last_tree (behind_operation f items)) (waiting_on fs (rest (behind_operation f items)))
ends_on k (frames.RightOperand o t) fs items h = reduce_ends k (last_tree items) (right_operand (last_tree (rest items)) o t) (waiting_on fs (rest (rest items))) h
ends_on k (frames.UnaryOperand u t) fs items h = reduce_ends k (last_tree items) (unary_operand u t) (waiting_on fs (rest items)) h
ends_on k other fs items h = let e : true ≡ false = h in absurd cc

pub ends_top : (k : ℕ) (held : List Frame) (f : Frame) (items items1 : List Item) → false ≡ stays_open k (waiting (held ++ f ∷ []) (rest items))
    → items1 ≡ behind_operation f items
    → reduce k (last_tree items1) (waiting held (rest items1)) ≡ reduce k (last_tree items) (waiting (held ++ f ∷ []) (rest items))
ends_top k held f items items1 h e =
    ap (λ its. reduce k (last_tree its) (waiting held (rest its))) e
    ∙ sym (ap (reduce k (last_tree items)) (waiting_push held f (rest items))
    ∙ ends_on k f (reverse held) items (sym (h ∙ ap (stays_open k) (waiting_push held f (rest items)))))
