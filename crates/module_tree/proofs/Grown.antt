-- Where a tree brackets parts, it is what is read of them part by part.
use Rattle.std.proofs.Common.{◌≡◌, Bool, false, List, [], ◌∷◌, ◌++◌, Option, Some, None, refl, sym, ap, ◌∙◌, subst, append_assoc, append-nil}
use Rattle.std.specs.Prelude.{IsSome}
use Rattle.vba_module.specs.Parts.{Part}
use Rattle.vba_module.specs.Blocks.{Kind, Role, opens, divides, closes, stands, role_of, block_faults}
use Rattle.vba_module.specs.Tree.{Node, alone, block, Nodes, no_nodes, node, Arms, no_arms, arm, parts_of_node, parts_of_nodes, parts_of_arms, Stands, IsBracketed, AreBracketed, AreArms}
use Rattle.vba_module.proofs.Bracketed.{behind_opening}
use Rattle.vba_module.proofs.Bracketing.{bracketing}
use Rattle.module_tree.specs.Growing.{and_node, and_arm, in_body, in_arm, Frame, State, next_section, whole, alone_behind, opened, grown, finished, next, grow_all}

-- one behind the other
abbrev joined : Nodes → Nodes → Nodes
joined no_nodes more = more
joined (node n nodes) more = node n (joined nodes more)

abbrev joined_arms : Arms → Arms → Arms
joined_arms no_arms more = more
joined_arms (arm is_last line body arms) more = arm is_last line body (joined_arms arms more)

joined-none : (nodes : Nodes) → joined nodes no_nodes ≡ nodes
joined-none no_nodes = refl
joined-none (node n nodes) = ap (node n) (joined-none nodes)

joined_arms-none : (arms : Arms) → joined_arms arms no_arms ≡ arms
joined_arms-none no_arms = refl
joined_arms-none (arm is_last line body arms) = ap (arm is_last line body) (joined_arms-none arms)

joined-next : (nodes : Nodes) (n : Node) (more : Nodes) → joined (and_node nodes n) more ≡ joined nodes (node n more)
joined-next no_nodes n more = refl
joined-next (node first nodes) n more = ap (node first) (joined-next nodes n more)

joined_arms-next : (arms : Arms) (is_last : Bool) (line : Part) (body : Nodes) (more : Arms)
    → joined_arms (and_arm arms is_last line body) more ≡ joined_arms arms (arm is_last line body more)
joined_arms-next no_arms is_last line body more = refl
joined_arms-next (arm l p b arms) is_last line body more = ap (arm l p b) (joined_arms-next arms is_last line body more)

-- one part more, where it is of this role
grows : (frames : List Frame) (read : Nodes) (part : Part) (parts : List Part) (role : Role) (state : State) → role_of part ≡ role
    → grown frames read part role ≡ Some state → grow_all frames read (part ∷ parts) ≡ grow_all state.frames state.read parts
grows frames read part parts role state e g =
    let on : Option State → Option Nodes = λ o. next o (λ s. grow_all s.frames s.read parts) in
    ap (λ r. on (grown frames read part r)) e ∙ ap on g

-- a block as it ends behind these arms
abbrev block_behind : Frame → Nodes → Arms → Part → Node
block_behind frame read no_arms ending = whole frame read ending
block_behind frame read (arm is_last line body arms) ending =
    block_behind (record { before = frame.before; kind = frame.kind; opening = frame.opening; section = next_section frame.section read is_last line }) body arms ending

in_arms : (before : Nodes) (kind : Kind) (opening : Part) (first : Nodes) (done : Arms) (is_last : Bool) (line : Part) (read : Nodes) (arms : Arms) (ending : Part)
    → block_behind (record { before = before; kind = kind; opening = opening; section = in_arm first done is_last line }) read arms ending
    ≡ block kind opening first (joined_arms (and_arm done is_last line read) arms) ending
in_arms before kind opening first done is_last line read no_arms ending =
    ap (λ arms. block kind opening first arms ending) (sym (joined_arms-none (and_arm done is_last line read)))
in_arms before kind opening first done is_last line read (arm l p body arms) ending =
    in_arms before kind opening first (and_arm done is_last line read) l p body arms ending
    ∙ ap (λ all. block kind opening first all ending) (joined_arms-next (and_arm done is_last line read) l p body arms)

-- read from behind its opening it is the block
whole_block : (before : Nodes) (kind : Kind) (opening : Part) (body : Nodes) (arms : Arms) (ending : Part)
    → block_behind (record { before = before; kind = kind; opening = opening; section = in_body }) body arms ending ≡ block kind opening body arms ending
whole_block before kind opening body no_arms ending = refl
whole_block before kind opening body (arm is_last line b arms) ending = in_arms before kind opening body no_arms is_last line b arms ending

stands_alone : (around : List Kind) (frames : List Frame) (read : Nodes) (part : Part) (role : Role) → Stands around role
    → grown frames read part role ≡ Some (alone_behind frames read part)
stands_alone around frames read part (stands exits) h = refl
stands_alone around frames read part other h = absurd h

mutual
  reads : (nodes : Nodes) (around : List Kind) (frames : List Frame) (read : Nodes) (rest : List Part) → AreBracketed around nodes
      → grow_all frames read (parts_of_nodes nodes ++ rest) ≡ grow_all frames (joined read nodes) rest
  reads no_nodes around frames read rest h = ap (λ ns. grow_all frames ns rest) (sym (joined-none read))
  reads (node n nodes) around frames read rest h =
      ap (grow_all frames read) (append_assoc (parts_of_node n) (parts_of_nodes nodes) rest)
      ∙ (reads_node n around frames read (parts_of_nodes nodes ++ rest) h.0
      ∙ (reads nodes around frames (and_node read n) rest h.1
      ∙ ap (λ ns. grow_all frames ns rest) (joined-next read n nodes)))

  reads_node : (n : Node) (around : List Kind) (frames : List Frame) (read : Nodes) (rest : List Part) → IsBracketed around n
      → grow_all frames read (parts_of_node n ++ rest) ≡ grow_all frames (and_node read n) rest
  reads_node (alone part) around frames read rest h =
      grows frames read part rest (role_of part) (alone_behind frames read part) refl (stands_alone around frames read part (role_of part) h)
  reads_node (block kind opening body arms ending) around frames read rest h =
      let frame : Frame = record { before = read; kind = kind; opening = opening; section = in_body } in
      grows frames read opening ((parts_of_nodes body ++ (parts_of_arms arms ++ ending ∷ [])) ++ rest) (opens kind) (opened frames read kind opening) h.0 refl
      ∙ (ap (grow_all (frame ∷ frames) no_nodes) (behind_opening (parts_of_nodes body) (parts_of_arms arms) ending rest)
      ∙ (reads body (kind ∷ around) (frame ∷ frames) no_nodes (parts_of_arms arms ++ ending ∷ rest) h.1
      ∙ (reads_arms arms (kind ∷ around) false frame frames body ending rest h.2 h.3
      ∙ ap (λ n. grow_all frames (and_node read n) rest) (whole_block read kind opening body arms ending))))

  -- the arms and the end of the innermost
  reads_arms : (arms : Arms) (around : List Kind) (was_last : Bool) (frame : Frame) (frames : List Frame) (read : Nodes) (ending : Part) (rest : List Part)
      → AreArms around frame.kind was_last arms → role_of ending ≡ closes frame.kind
      → grow_all (frame ∷ frames) read (parts_of_arms arms ++ ending ∷ rest) ≡ grow_all frames (and_node frame.before (block_behind frame read arms ending)) rest
  reads_arms no_arms around was_last frame frames read ending rest h e =
      grows (frame ∷ frames) read ending rest (closes frame.kind) (record { frames = frames; read = and_node frame.before (whole frame read ending) }) e refl
  reads_arms (arm is_last line body arms) around was_last frame frames read ending rest h e =
      let behind : Frame = record { before = frame.before; kind = frame.kind; opening = frame.opening; section = next_section frame.section read is_last line } in
      grows (frame ∷ frames) read line ((parts_of_nodes body ++ parts_of_arms arms) ++ ending ∷ rest) (divides frame.kind is_last)
      (record { frames = behind ∷ frames; read = no_nodes }) h.1 refl
      ∙ (ap (grow_all (behind ∷ frames) no_nodes) (append_assoc (parts_of_nodes body) (parts_of_arms arms) (ending ∷ rest))
      ∙ (reads body around (behind ∷ frames) no_nodes (parts_of_arms arms ++ ending ∷ rest) h.2
      ∙ reads_arms arms around is_last behind frames body ending rest h.3 e))

-- a tree that brackets parts is read of them
pub again : (nodes : Nodes) → AreBracketed [] nodes → grow_all [] no_nodes (parts_of_nodes nodes) ≡ Some nodes
again nodes h = ap (grow_all [] no_nodes) (sym (append-nil (parts_of_nodes nodes))) ∙ reads nodes [] [] no_nodes [] h

-- where parts break S11 nowhere, a tree is read of them, and it brackets them
pub record IsRead (parts : List Part) (tree : Option Nodes) : Type 0 where
  pub nodes : Nodes
  pub is : tree ≡ Some nodes
  pub bracketed : AreBracketed [] nodes
  pub same : parts_of_nodes nodes ≡ parts

pub is_read : (parts : List Part) → block_faults [] parts ≡ [] → IsRead parts (grow_all [] no_nodes parts)
is_read parts h =
    let b = bracketing parts h in
    record { nodes = b.0; is = ap (grow_all [] no_nodes) (sym b.2) ∙ again b.0 b.1; bracketed = b.1; same = b.2 }

-- while a tree is read, the next part goes on
next_some : (state : Option State) (on : State → Option Nodes) (nodes : Nodes) → next state on ≡ Some nodes → IsSome state
next_some None on nodes h = absurd cc
next_some (Some state) on nodes h = refl

pub fits_next : (frames : List Frame) (read : Nodes) (part : Part) (parts all : List Part) → IsRead all (grow_all frames read (part ∷ parts))
    → IsSome (grown frames read part (role_of part))
fits_next frames read part parts all r = next_some (grown frames read part (role_of part)) (λ s. grow_all s.frames s.read parts) r.nodes r.is

pub reads_next : (frames : List Frame) (read : Nodes) (part : Part) (parts all : List Part) (state : State)
    → grown frames read part (role_of part) ≡ Some state → IsRead all (grow_all frames read (part ∷ parts))
    → IsRead all (grow_all state.frames state.read parts)
reads_next frames read part parts all state g r =
    subst (IsRead all) (grows frames read part parts (role_of part) state refl g) r

finished_is : (frames : List Frame) (read nodes : Nodes) → finished frames read ≡ Some nodes → nodes ≡ read
finished_is [] read nodes h = cc
finished_is (frame ∷ frames) read nodes h = absurd cc

pub read_bracketed : (frames : List Frame) (read : Nodes) (all : List Part) → IsRead all (grow_all frames read []) → AreBracketed [] read
read_bracketed frames read all r = subst (AreBracketed []) (finished_is frames read r.nodes r.is) r.bracketed

pub read_same : (frames : List Frame) (read : Nodes) (all : List Part) → IsRead all (grow_all frames read []) → parts_of_nodes read ≡ all
read_same frames read all r = ap parts_of_nodes (sym (finished_is frames read r.nodes r.is)) ∙ r.same
