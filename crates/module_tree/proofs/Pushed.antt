-- Nodes and arms with one more.
use Rattle.std.proofs.Common.{◌≡◌, List, [], ◌∷◌, ◌++◌, refl, ap}
use Rattle.vba_module.specs.Parts.{Part}
use Rattle.vba_module.specs.Tree as plain
use Rattle.module_tree.specs.declared.tree.Node.{Node}
use Rattle.module_tree.specs.declared.tree.Arm.{Arm}
use Rattle.module_tree.specs.Growing.{and_node}
use Rattle.module_tree.specs.View.{node_view, arm_view, nodes_view, arms_view, and_lone}

pub nodes_push : {P : Type 0} (view : P → Part) (nodes : List (Node P)) (n : Node P)
    → nodes_view view (nodes ++ n ∷ []) ≡ and_node (nodes_view view nodes) (node_view view n)
nodes_push view [] n = refl
nodes_push view (first ∷ others) n = ap (plain.node (node_view view first)) (nodes_push view others n)

pub arms_push : {P : Type 0} (view : P → Part) (arms : List (Arm P)) (a : Arm P)
    → arms_view view (arms ++ a ∷ []) ≡ and_lone (arms_view view arms) (arm_view view a)
arms_push view [] a = refl
arms_push view (first ∷ others) a =
    ap (plain.arm (arm_view view first).is_last (arm_view view first).line (arm_view view first).body) (arms_push view others a)
