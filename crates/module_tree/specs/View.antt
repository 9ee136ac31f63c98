-- Serves the code: the plain tree that the tree of a module stands for.
use Rattle.std.specs.Prelude.{Bool, List, [], ◌∷◌, map}
use Rattle.vba_module.specs.Parts as parts
use Rattle.vba_module.specs.Tree as plain
use Rattle.module_parts.specs.Brackets.{kind_view}
use Rattle.module_tree.specs.Growing.{and_arm}
use Rattle.module_tree.specs.declared.tree.ModuleTree.{ModuleTree}
use Rattle.module_tree.specs.declared.tree.Node.{Node, fold-Node, Node-F}
use Rattle.module_tree.specs.declared.tree.Block.{Block-F}
use Rattle.module_tree.specs.declared.tree.Arm.{Arm, fold-Arm, Arm-F}

-- an arm by itself
pub record LoneArm : Type 0 where
  pub is_last : Bool
  pub line : parts.Part
  pub body : plain.Nodes

-- in text order
abbrev pub nodes_of : List plain.Node → plain.Nodes
nodes_of [] = plain.no_nodes
nodes_of (node ∷ nodes) = plain.node node (nodes_of nodes)

abbrev pub arms_of : List LoneArm → plain.Arms
arms_of [] = plain.no_arms
arms_of (arm ∷ arms) = plain.arm arm.is_last arm.line arm.body (arms_of arms)

-- one level, with each tree inside already seen as its plain tree, and each part by this view
abbrev pub arm_step : {P : Type 0} → (P → parts.Part) → Arm-F P plain.Node LoneArm plain.Node → LoneArm
arm_step view arm = record { is_last = arm.is_last; line = view arm.line; body = nodes_of arm.body.items }

abbrev pub block_step : {P : Type 0} → (P → parts.Part) → Block-F P plain.Node LoneArm plain.Node → plain.Node
block_step view block =
    plain.block (kind_view block.kind) (view block.opening) (nodes_of block.body.items) (arms_of block.arms.items) (view block.ending)

abbrev pub node_step : {P : Type 0} → (P → parts.Part) → Node-F P plain.Node LoneArm plain.Node → plain.Node
node_step view (Node-F.Alone part) = plain.alone (view part)
node_step view (Node-F.Block inner) = inner

-- the plain tree that a node stands for
abbrev pub node_view : {P : Type 0} → (P → parts.Part) → Node P → plain.Node
node_view view = fold-Node _ plain.Node LoneArm plain.Node (node_step view) (arm_step view) (block_step view)

abbrev pub arm_view : {P : Type 0} → (P → parts.Part) → Arm P → LoneArm
arm_view view = fold-Arm _ plain.Node LoneArm plain.Node (node_step view) (arm_step view) (block_step view)

abbrev pub nodes_view : {P : Type 0} → (P → parts.Part) → List (Node P) → plain.Nodes
nodes_view view nodes = nodes_of (map (node_view view) nodes)

abbrev pub arms_view : {P : Type 0} → (P → parts.Part) → List (Arm P) → plain.Arms
arms_view view arms = arms_of (map (arm_view view) arms)

-- the plain tree that the tree of a module stands for
abbrev pub tree_view : {P : Type 0} → (P → parts.Part) → ModuleTree P → plain.Nodes
tree_view view tree = nodes_view view tree.nodes.items

-- arms and one more
abbrev pub and_lone : plain.Arms → LoneArm → plain.Arms
and_lone arms lone = and_arm arms lone.is_last lone.line lone.body
