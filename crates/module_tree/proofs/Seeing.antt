-- The plain trees of what is built.
use Rattle.std.proofs.Common.{◌≡◌, List, [], ◌∷◌, ◌++◌, length, map, reverse, ◌<◌, Option, Some, refl, ap, ◌∙◌, rules, arith}
use Rattle.std.proofs.lemmas.List.{map-append, reverse-append}
use Rattle.std.specs.Prelude.{Bool, IsSome, option_to_list}
use Rattle.vba_module.specs.Parts.{Part}
use Rattle.vba_module.specs.Tree as plain
use Rattle.module_parts.specs.Brackets.{kind_view}
use Rattle.module_tree.specs.declared.tree.Node as nodes
use Rattle.module_tree.specs.declared.tree.Node.{Node}
use Rattle.module_tree.specs.declared.tree.Arm.{Arm, Arm-F, roll-Arm}
use Rattle.module_tree.specs.declared.tree.Block.{Block, Block-F, roll-Block}
use Rattle.module_tree.specs.declared.progress.Frame.{Frame}
use Rattle.module_tree.specs.Growing as growing
use Rattle.module_tree.specs.Seen.{section_view, frame_view, stack}
use Rattle.module_tree.specs.View.{node_view, arm_view, nodes_view, arms_view}

pub node_alone : {P : Type 0} (view : P → Part) (part : P) → node_view view (nodes.Alone part) ≡ plain.alone (view part)
node_alone view part = search (rules, nodes.the_lemmas)

pub node_block : {P : Type 0} (view : P → Part) (block : Block-F P (Node P) (Arm P) (Block P))
    → node_view view (nodes.Block (roll-Block P block))
    ≡ plain.block (kind_view block.kind) (view block.opening) (nodes_view view block.body.items) (arms_view view block.arms.items) (view block.ending)
node_block view block = search (rules, nodes.the_lemmas)

pub arm_line : {P : Type 0} (view : P → Part) (arm : Arm-F P (Node P) (Arm P) (Block P))
    → arm_view view (roll-Arm P arm) ≡ record { is_last = arm.is_last; line = view arm.line; body = nodes_view view arm.body.items }
arm_line view arm = search (rules, nodes.the_lemmas)

-- an arm or an end has a frame
pub divides_one : {P : Type 0} (view : P → Part) (frames : List (Frame P)) (read : plain.Nodes) (is_last : Bool) (line : Part)
    → IsSome (growing.divided (stack view frames) read is_last line) → 0 < length frames
divides_one view [] read is_last line h = absurd cc
divides_one view (frame ∷ frames) read is_last line h = omega arith

pub closes_one : {P : Type 0} (view : P → Part) (frames : List (Frame P)) (read : plain.Nodes) (ending : Part)
    → IsSome (growing.closed (stack view frames) read ending) → 0 < length frames
closes_one view [] read ending h = absurd cc
closes_one view (frame ∷ frames) read ending h = omega arith

-- the frame that is taken was on top
popped : {P : Type 0} (view : P → Part) (old left : List (Frame P)) (top : Option (Frame P)) (frame : Frame P)
    → old ≡ left ++ option_to_list top → top ≡ Some frame → stack view old ≡ frame_view view frame ∷ stack view left
popped view old left top frame items some =
    rw items (rw some (ap reverse (map-append (frame_view view) left (frame ∷ []))
    ∙ reverse-append (map (frame_view view) left) (frame_view view frame ∷ [])))

-- what ends there is behind what stood before the frame
pub closes_top : {P : Type 0} (view : P → Part) (old left : List (Frame P)) (top : Option (Frame P)) (frame : Frame P)
    (read body all : plain.Nodes) (arms : plain.Arms) (ending : Part)
    → old ≡ left ++ option_to_list top → top ≡ Some frame
    → body ≡ growing.body_in (section_view view frame.section) read
    → arms ≡ growing.arms_in (section_view view frame.section) read
    → all ≡ growing.and_node (nodes_view view frame.before.items) (plain.block (kind_view frame.kind) (view frame.opening) body arms ending)
    → growing.closed (stack view old) read ending ≡ Some (record { frames = stack view left; read = all })
closes_top view old left top frame read body all arms ending items some b a n =
    ap (λ frames. growing.closed frames read ending) (popped view old left top frame items some) ∙ rw n (rw b (rw a refl))
