-- Bracketed parts break S11 nowhere: the walk through the parts of a tree leaves open what was open.
use Rattle.std.proofs.Common.{◌≡◌, Bool, true, false, List, [], ◌∷◌, ◌++◌, Option, Some, None, is_some, refl, sym, ap, ◌∙◌, append_assoc, append-nil}
use Rattle.vba_base.specs.declared.place.Place.{Place}
use Rattle.vba_module.specs.Parts.{Part, place_of}
use Rattle.vba_module.specs.Blocks.{Kind, Role, opens, divides, closes, stands, role_of, Open, Nearest, nearest, Step, closed, divided, unless_found, exit_faults, step, block_faults}
use Rattle.vba_module.specs.Tree.{Node, alone, block, Nodes, no_nodes, node, Arms, no_arms, arm, parts_of_node, parts_of_nodes, parts_of_arms, AllLeave, Stands, IsBracketed, AreBracketed, AreArms}
use Rattle.vba_module.proofs.Nearest.{kinds_of, nearest_self, found_leaves}

-- no fault, and this is open
abbrev quiet : List Open → Step
quiet opened = record { faults = []; opened = opened }

-- an arm was read
abbrev pub with_arm : Open → Bool → Open
with_arm opened is_last = record { kind = opened.kind; place = opened.place; is_last = is_last }

none_missing : (place : Place) (near : Option Nearest) → is_some near ≡ true → unless_found place near ≡ []
none_missing place None h = absurd cc
none_missing place (Some near) h = refl

leaving : (opened : List Open) (exits : List (Kind × Place)) → AllLeave (kinds_of opened) exits → exit_faults opened exits ≡ []
leaving opened [] h = refl
leaving opened (found ∷ exits) h = rw (none_missing found.1 (nearest found.0 opened) (found_leaves found opened ∙ h.0)) (leaving opened exits h.1)

standing : (place : Place) (role : Role) (opened : List Open) → Stands (kinds_of opened) role → step place opened role ≡ quiet opened
standing place (stands exits) opened h = ap (λ (faults : List Place). record { faults = faults; opened = opened }) (leaving opened exits h)
standing place other opened h = absurd h

closing : (place : Place) (opened : Open) (others : List Open) → step place (opened ∷ others) (closes opened.kind) ≡ quiet others
closing place opened others = ap (closed place (opened ∷ others)) (nearest_self opened others)

dividing : (place : Place) (is_last : Bool) (opened : Open) (others : List Open) → opened.is_last ≡ false
    → step place (opened ∷ others) (divides opened.kind is_last) ≡ quiet (with_arm opened is_last ∷ others)
dividing place is_last opened others h = ap (divided place is_last (opened ∷ others)) (nearest_self opened others) ∙ rw h refl

-- one part
goes : (opened behind : List Open) (part : Part) (parts : List Part) (role : Role) → role_of part ≡ role → step (place_of part) opened role ≡ quiet behind
    → block_faults opened (part ∷ parts) ≡ block_faults behind parts
goes opened behind part parts role e s =
    ap (λ (r : Role). (step (place_of part) opened r).faults ++ block_faults (step (place_of part) opened r).opened parts) e
    ∙ ap (λ (t : Step). t.faults ++ block_faults t.opened parts) s

-- what a block's opening stands before
pub behind_opening : (body arms : List Part) (ending : Part) (rest : List Part) → (body ++ (arms ++ ending ∷ [])) ++ rest ≡ body ++ (arms ++ ending ∷ rest)
behind_opening body arms ending rest = append_assoc body (arms ++ ending ∷ []) rest ∙ ap (λ ps. body ++ ps) (append_assoc arms (ending ∷ []) rest)

mutual
  pub walks : (nodes : Nodes) (opened : List Open) (rest : List Part) → AreBracketed (kinds_of opened) nodes
      → block_faults opened (parts_of_nodes nodes ++ rest) ≡ block_faults opened rest
  walks no_nodes opened rest h = refl
  walks (node n nodes) opened rest h =
      ap (block_faults opened) (append_assoc (parts_of_node n) (parts_of_nodes nodes) rest)
      ∙ (walks_node n opened (parts_of_nodes nodes ++ rest) h.0 ∙ walks nodes opened rest h.1)

  pub walks_node : (n : Node) (opened : List Open) (rest : List Part) → IsBracketed (kinds_of opened) n
      → block_faults opened (parts_of_node n ++ rest) ≡ block_faults opened rest
  walks_node (alone part) opened rest h = goes opened opened part rest (role_of part) refl (standing (place_of part) (role_of part) opened h)
  walks_node (block kind opening body arms ending) others rest h =
      let opened : Open = record { kind = kind; place = place_of opening; is_last = false } in
      goes others (opened ∷ others) opening ((parts_of_nodes body ++ (parts_of_arms arms ++ ending ∷ [])) ++ rest) (opens kind) h.0 refl
      ∙ (ap (block_faults (opened ∷ others)) (behind_opening (parts_of_nodes body) (parts_of_arms arms) ending rest)
      ∙ (walks body (opened ∷ others) (parts_of_arms arms ++ ending ∷ rest) h.1
      ∙ walks_arms arms opened others ending rest h.2 h.3))

  -- through the arms and the end of the innermost
  pub walks_arms : (arms : Arms) (opened : Open) (others : List Open) (ending : Part) (rest : List Part)
      → AreArms (opened.kind ∷ kinds_of others) opened.kind opened.is_last arms → role_of ending ≡ closes opened.kind
      → block_faults (opened ∷ others) (parts_of_arms arms ++ ending ∷ rest) ≡ block_faults others rest
  walks_arms no_arms opened others ending rest h e =
      goes (opened ∷ others) others ending rest (closes opened.kind) e (closing (place_of ending) opened others)
  walks_arms (arm is_last part body arms) opened others ending rest h e =
      goes (opened ∷ others) (with_arm opened is_last ∷ others) part ((parts_of_nodes body ++ parts_of_arms arms) ++ ending ∷ rest)
      (divides opened.kind is_last) h.1 (dividing (place_of part) is_last opened others h.0)
      ∙ (ap (block_faults (with_arm opened is_last ∷ others)) (append_assoc (parts_of_nodes body) (parts_of_arms arms) (ending ∷ rest))
      ∙ (walks body (with_arm opened is_last ∷ others) (parts_of_arms arms ++ ending ∷ rest) h.2
      ∙ walks_arms arms (with_arm opened is_last) others ending rest h.3 e))

pub unbroken : (nodes : Nodes) → AreBracketed [] nodes → block_faults [] (parts_of_nodes nodes) ≡ []
unbroken nodes h = ap (block_faults []) (sym (append-nil (parts_of_nodes nodes))) ∙ walks nodes [] [] h
