-- Serves the code: bracketing part by part: a stack of frames holds the blocks that are open, so nothing is read
-- twice.
use Rattle.std.specs.Prelude.{Bool, List, [], ◌∷◌, Option, Some, None}
use Rattle.vba_module.specs.Parts.{Part}
use Rattle.vba_module.specs.Blocks.{Kind, Role, opens, divides, closes, stands, role_of}
use Rattle.vba_module.specs.Tree.{Node, alone, block, Nodes, no_nodes, node, Arms, no_arms, arm}

-- nodes and one more
abbrev pub and_node : Nodes → Node → Nodes
and_node no_nodes more = node more no_nodes
and_node (node first others) more = node first (and_node others more)

-- arms and one more
abbrev pub and_arm : Arms → Bool → Part → Nodes → Arms
and_arm no_arms is_last line body = arm is_last line body no_arms
and_arm (arm was_last before behind others) is_last line body = arm was_last before behind (and_arm others is_last line body)

-- where a block is read: behind its opening, or behind the line of an arm, with what stands before the arm
pub data Section : Type 0 where
  in_body : Section
  in_arm : Nodes → Arms → Bool → Part → Section

-- a block that is open, and what stands before it in what it stands in
pub record Frame : Type 0 where
  pub before : Nodes
  pub kind : Kind
  pub opening : Part
  pub section : Section

-- the blocks that are open, the innermost first, and what stands behind the last line of the innermost
pub record State : Type 0 where
  pub frames : List Frame
  pub read : Nodes

-- what stands behind the opening, up to the first arm, where these nodes stand last
abbrev pub body_in : Section → Nodes → Nodes
body_in in_body read = read
body_in (in_arm body arms is_last line) read = body

abbrev pub arms_in : Section → Nodes → Arms
arms_in in_body read = no_arms
arms_in (in_arm body arms is_last line) read = and_arm arms is_last line read

-- an arm begins behind these nodes
abbrev pub next_section : Section → Nodes → Bool → Part → Section
next_section section read is_last line = in_arm (body_in section read) (arms_in section read) is_last line

-- a block that ends behind these nodes
abbrev pub whole : Frame → Nodes → Part → Node
whole frame read ending = block frame.kind frame.opening (body_in frame.section read) (arms_in frame.section read) ending

abbrev pub alone_behind : List Frame → Nodes → Part → State
alone_behind frames read part = record { frames = frames; read = and_node read (alone part) }

abbrev pub opened : List Frame → Nodes → Kind → Part → State
opened frames read kind part = record {
  frames = record { before = read; kind = kind; opening = part; section = in_body } ∷ frames;
  read = no_nodes;
}

-- an arm or an end is of the innermost
abbrev pub divided : List Frame → Nodes → Bool → Part → Option State
divided [] read is_last part = None
divided (frame ∷ frames) read is_last part = Some (record {
  frames = record {
    before = frame.before;
    kind = frame.kind;
    opening = frame.opening;
    section = next_section frame.section read is_last part;
  } ∷ frames;
  read = no_nodes;
})

abbrev pub closed : List Frame → Nodes → Part → Option State
closed [] read part = None
closed (frame ∷ frames) read part = Some (record {
  frames = frames;
  read = and_node frame.before (whole frame read part);
})

-- one part more, by what it is
abbrev pub grown : List Frame → Nodes → Part → Role → Option State
grown frames read part (opens kind) = Some (opened frames read kind part)
grown frames read part (divides kind is_last) = divided frames read is_last part
grown frames read part (closes kind) = closed frames read part
grown frames read part (stands exits) = Some (alone_behind frames read part)

-- the whole tree, where nothing is open
abbrev pub finished : List Frame → Nodes → Option Nodes
finished [] read = Some read
finished (frame ∷ frames) read = None

-- where the parts went on, they go on from there
abbrev pub next : Option State → (State → Option Nodes) → Option Nodes
next None on = None
next (Some state) on = on state

abbrev pub grow_all : List Frame → Nodes → List Part → Option Nodes
grow_all frames read [] = finished frames read
grow_all frames read (part ∷ parts) = next (grown frames read part (role_of part)) (λ state. grow_all state.frames state.read parts)
