-- The tree of a module: its parts, bracketed by the lines that open and close blocks, procedures, Enums and Types.
use Rattle.std.specs.Prelude.{◌≡◌, Bool, true, false, List, [], ◌∷◌, ◌++◌, if◌then◌else◌}
use Rattle.std.specs.List.{list_any}
use Rattle.vba_base.specs.declared.place.Place.{Place}
use Rattle.vba_module.specs.Parts.{Part}
use Rattle.vba_module.specs.Blocks.{Kind, same_kind, is_outer, Role, opens, divides, closes, stands, role_of}

mutual
  pub data Node : Type 0 where
    alone : Part → Node
    -- what it brackets, its opening, what stands behind it, its arms, its end
    block : Kind → Part → Nodes → Arms → Part → Node

  -- in text order
  pub data Nodes : Type 0 where
    no_nodes : Nodes
    node : Node → Nodes → Nodes

  -- whether no arm may follow, the line of the arm, and what stands behind it
  pub data Arms : Type 0 where
    no_arms : Arms
    arm : Bool → Part → Nodes → Arms → Arms

abbrev mutual
  pub parts_of_node : Node → List Part
  parts_of_node (alone part) = part ∷ []
  parts_of_node (block kind opening body arms ending) = opening ∷ (parts_of_nodes body ++ (parts_of_arms arms ++ ending ∷ []))

  pub parts_of_nodes : Nodes → List Part
  parts_of_nodes no_nodes = []
  parts_of_nodes (node n nodes) = parts_of_node n ++ parts_of_nodes nodes

  pub parts_of_arms : Arms → List Part
  parts_of_arms no_arms = []
  parts_of_arms (arm is_last part body arms) = part ∷ (parts_of_nodes body ++ parts_of_arms arms)

-- up to the nearest procedure, Enum or Type
abbrev pub in_procedure : List Kind → List Kind
in_procedure [] = []
in_procedure (kind ∷ around) = if is_outer kind then [] else kind ∷ in_procedure around

-- an Exit stands in what it leaves
abbrev pub leaves : List Kind → Kind × Place → Bool
leaves around found = if is_outer found.0 then list_any (same_kind found.0) around else list_any (same_kind found.0) (in_procedure around)

abbrev pub AllLeave : List Kind → List (Kind × Place) → Type 0
AllLeave around [] = Unit {0}
AllLeave around (found ∷ more) = (leaves around found ≡ true) × AllLeave around more

-- a part that brackets nothing
abbrev pub Stands : List Kind → Role → Type 0
Stands around (stands exits) = AllLeave around exits
Stands around other = ⊥

abbrev mutual
  -- the tree brackets its parts, inside these kinds, the innermost first
  pub IsBracketed : List Kind → Node → Type 0
  IsBracketed around (alone part) = Stands around (role_of part)
  IsBracketed around (block kind opening body arms ending) =
      (role_of opening ≡ opens kind) × AreBracketed (kind ∷ around) body × AreArms (kind ∷ around) kind false arms
      × (role_of ending ≡ closes kind)

  pub AreBracketed : List Kind → Nodes → Type 0
  AreBracketed around no_nodes = Unit {0}
  AreBracketed around (node n nodes) = IsBracketed around n × AreBracketed around nodes

  -- arms of this kind; none stands behind the last one
  pub AreArms : List Kind → Kind → Bool → Arms → Type 0
  AreArms around kind behind_last no_arms = Unit {0}
  AreArms around kind behind_last (arm is_last part body arms) =
      (behind_last ≡ false) × (role_of part ≡ divides kind is_last) × AreBracketed around body × AreArms around kind is_last arms
