-- Parts that break S11 nowhere have a bracketing: what is read from the end of the parts is put behind what stands before it.
use Rattle.std.proofs.Common.{◌≡◌, Bool, true, false, List, [], ◌∷◌, ◌++◌, Option, Some, None, is_some, refl, sym, ap, ◌∙◌, subst, append_assoc}
use Rattle.std.specs.Prelude.{if◌then◌else◌}
use Rattle.vba_base.specs.declared.place.Place.{Place}
use Rattle.vba_module.specs.Parts.{Part, place_of}
use Rattle.vba_module.specs.Blocks.{Kind, Role, opens, divides, closes, stands, role_of, Open, Nearest, nearest, places_of, Step, closed, divided, unless_found, exit_faults, step, block_faults}
use Rattle.vba_module.specs.Tree.{Node, alone, block, Nodes, no_nodes, node, Arms, no_arms, arm, parts_of_node, parts_of_nodes, parts_of_arms, AllLeave, Stands, IsBracketed, AreBracketed, AreArms}
use Rattle.vba_module.proofs.Nearest.{kinds_of, IsInnermost, is_innermost, found_leaves}
use Rattle.vba_module.proofs.Bracketed.{with_arm, behind_opening}

-- nodes with these parts
record Bracketing (around : List Kind) (parts : List Part) : Type 0 where
  nodes : Nodes
  bracketed : AreBracketed around nodes
  same : parts_of_nodes nodes ≡ parts

-- what is left of a block that is open: what stands behind its last line, its other arms, its end, and the parts behind it
record Remainder (around : List Kind) (opened : Open) (parts rest : List Part) : Type 0 where
  body : Nodes
  arms : Arms
  ending : Part
  bracketed : AreBracketed around body
  divided : AreArms around opened.kind opened.is_last arms
  ended : role_of ending ≡ closes opened.kind
  same : parts_of_nodes body ++ (parts_of_arms arms ++ ending ∷ rest) ≡ parts

-- parts that end all that is open
abbrev Ends : List Open → List Part → Type 0
Ends [] parts = Bracketing [] parts
Ends (opened ∷ others) parts = (rest : List Part) × Remainder (opened.kind ∷ kinds_of others) opened parts rest × Ends others rest

-- a node more in front
preceded : (opened : List Open) (n : Node) (parts : List Part) → IsBracketed (kinds_of opened) n → Ends opened parts → Ends opened (parts_of_node n ++ parts)
preceded [] n parts h ends = record {
  nodes = node n ends.nodes;
  bracketed = (h, ends.bracketed);
  same = ap (λ ps. parts_of_node n ++ ps) ends.same;
}
preceded (opened ∷ others) n parts h ends =
    let (rest, r, behind) = ends in (
      rest,
      record {
        body = node n r.body;
        arms = r.arms;
        ending = r.ending;
        bracketed = (h, r.bracketed);
        divided = r.divided;
        ended = r.ended;
        same = append_assoc (parts_of_node n) (parts_of_nodes r.body) (parts_of_arms r.arms ++ r.ending ∷ rest) ∙ ap (λ ps. parts_of_node n ++ ps) r.same;
      },
      behind,
    )

-- a block is opened and ended
ends_opened : (kind : Kind) (place : Place) (opened : List Open) (part : Part) (parts : List Part) → role_of part ≡ opens kind
    → Ends (record { kind = kind; place = place; is_last = false } ∷ opened) parts → Ends opened (part ∷ parts)
ends_opened kind place opened part parts e ends =
    let (rest, r, behind) = ends in
    let n : Node = block kind part r.body r.arms r.ending in
    let same : parts_of_node n ++ rest ≡ part ∷ parts =
    ap (λ ps. part ∷ ps) (behind_opening (parts_of_nodes r.body) (parts_of_arms r.arms) r.ending rest ∙ r.same) in
    subst (Ends opened) same (preceded opened n rest (e, r.bracketed, r.divided, r.ended) behind)

ends_divided : (is_last : Bool) (opened : Open) (others : List Open) (part : Part) (parts : List Part) → opened.is_last ≡ false → role_of part ≡ divides opened.kind is_last
    → Ends (with_arm opened is_last ∷ others) parts → Ends (opened ∷ others) (part ∷ parts)
ends_divided is_last opened others part parts h e ends =
    let (rest, r, behind) = ends in (
      rest,
      record {
        body = no_nodes;
        arms = arm is_last part r.body r.arms;
        ending = r.ending;
        bracketed = tt;
        divided = (h, e, r.bracketed, r.divided);
        ended = r.ended;
        same = ap (λ ps. part ∷ ps) (append_assoc (parts_of_nodes r.body) (parts_of_arms r.arms) (r.ending ∷ rest) ∙ r.same);
      },
      behind,
    )

ends_closed : (opened : Open) (others : List Open) (part : Part) (parts : List Part) → role_of part ≡ closes opened.kind → Ends others parts → Ends (opened ∷ others) (part ∷ parts)
ends_closed opened others part parts e ends = (
  parts,
  record {
    body = no_nodes;
    arms = no_arms;
    ending = part;
    bracketed = tt;
    divided = tt;
    ended = e;
    same = refl;
  },
  ends,
)

none_left : (xs ys : List Place) → xs ++ ys ≡ [] → (xs ≡ []) × (ys ≡ [])
none_left [] ys h = (refl, h)
none_left (x ∷ xs) ys h = absurd cc

no_places : (opened : List Open) → places_of opened ≡ [] → opened ≡ []
no_places [] h = refl
no_places (opened ∷ others) h = absurd cc

found_since : (place : Place) (near : Option Nearest) → unless_found place near ≡ [] → is_some near ≡ true
found_since place None h = absurd cc
found_since place (Some near) h = refl

all_leave : (opened : List Open) (exits : List (Kind × Place)) → exit_faults opened exits ≡ [] → AllLeave (kinds_of opened) exits
all_leave opened [] h = tt
all_leave opened (found ∷ exits) h =
    let none = none_left (unless_found found.1 (nearest found.0 opened)) (exit_faults opened exits) h in
    (sym (found_leaves found opened) ∙ found_since found.1 (nearest found.0 opened) none.0, all_leave opened exits none.1)

-- how the parts behind go on
abbrev GoesOn : List Part → Type 0
GoesOn parts = (opened : List Open) → block_faults opened parts ≡ [] → Ends opened parts

ends_at_close : (place : Place) (kind : Kind) (opened : List Open) (part : Part) (parts : List Part) (near : Option Nearest) → nearest kind opened ≡ near → role_of part ≡ closes kind
    → (closed place opened near).faults ++ block_faults (closed place opened near).opened parts ≡ [] → GoesOn parts → Ends opened (part ∷ parts)
ends_at_close place kind opened part parts None n e h on = absurd cc
ends_at_close place kind opened part parts (Some near) n e h on =
    let none = none_left (places_of near.inside) (block_faults near.outside parts) h in
    let i : IsInnermost kind opened near = is_innermost kind opened near n (no_places near.inside none.0) in
    subst (λ os. Ends os (part ∷ parts)) (sym i.0) (ends_closed near.found near.outside part parts (e ∙ ap closes i.1) (on near.outside none.1))

-- behind the nearest, whether it has read its last arm
abbrev arm_read : Place → Bool → List Open → Nearest → Bool → Step
arm_read place is_last opened near was_last =
    if was_last then record { faults = place ∷ []; opened = opened } else record { faults = places_of near.inside; opened = with_arm near.found is_last ∷ near.outside }

ends_at_arm : (place : Place) (kind : Kind) (is_last : Bool) (opened : List Open) (part : Part) (parts : List Part) (near : Nearest) (was_last : Bool)
    → near.found.is_last ≡ was_last → nearest kind opened ≡ Some near → role_of part ≡ divides kind is_last
    → (arm_read place is_last opened near was_last).faults ++ block_faults (arm_read place is_last opened near was_last).opened parts ≡ []
    → GoesOn parts → Ends opened (part ∷ parts)
ends_at_arm place kind is_last opened part parts near true w n e h on = absurd cc
ends_at_arm place kind is_last opened part parts near false w n e h on =
    let none = none_left (places_of near.inside) (block_faults (with_arm near.found is_last ∷ near.outside) parts) h in
    let i : IsInnermost kind opened near = is_innermost kind opened near n (no_places near.inside none.0) in
    subst (λ os. Ends os (part ∷ parts)) (sym i.0)
    (ends_divided is_last near.found near.outside part parts w (e ∙ ap (λ k. divides k is_last) i.1) (on (with_arm near.found is_last ∷ near.outside) none.1))

ends_at_divide : (place : Place) (kind : Kind) (is_last : Bool) (opened : List Open) (part : Part) (parts : List Part) (near : Option Nearest)
    → nearest kind opened ≡ near → role_of part ≡ divides kind is_last
    → (divided place is_last opened near).faults ++ block_faults (divided place is_last opened near).opened parts ≡ []
    → GoesOn parts → Ends opened (part ∷ parts)
ends_at_divide place kind is_last opened part parts None n e h on = absurd cc
ends_at_divide place kind is_last opened part parts (Some near) n e h on =
    ends_at_arm place kind is_last opened part parts near near.found.is_last refl n e h on

ends_at : (place : Place) (opened : List Open) (part : Part) (parts : List Part) (role : Role) → role_of part ≡ role
    → (step place opened role).faults ++ block_faults (step place opened role).opened parts ≡ [] → GoesOn parts → Ends opened (part ∷ parts)
ends_at place opened part parts (opens kind) e h on = ends_opened kind place opened part parts e (on (record { kind = kind; place = place; is_last = false } ∷ opened) h)
ends_at place opened part parts (divides kind is_last) e h on = ends_at_divide place kind is_last opened part parts (nearest kind opened) refl e h on
ends_at place opened part parts (closes kind) e h on = ends_at_close place kind opened part parts (nearest kind opened) refl e h on
ends_at place opened part parts (stands exits) e h on =
    let none = none_left (exit_faults opened exits) (block_faults opened parts) h in
    let s : Stands (kinds_of opened) (role_of part) = subst (Stands (kinds_of opened)) (sym e) (all_leave opened exits none.0) in
    preceded opened (alone part) parts s (on opened none.1)

nothing_open : (opened : List Open) → places_of opened ≡ [] → Ends opened []
nothing_open [] h = record { nodes = no_nodes; bracketed = tt; same = refl }
nothing_open (opened ∷ others) h = absurd cc

ends : (parts : List Part) → GoesOn parts
ends [] opened h = nothing_open opened h
ends (part ∷ parts) opened h = ends_at (place_of part) opened part parts (role_of part) refl h (ends parts)

pub bracketing : (parts : List Part) → block_faults [] parts ≡ [] → (nodes : Nodes) × AreBracketed [] nodes × (parts_of_nodes nodes ≡ parts)
bracketing parts h = let b : Bracketing [] parts = ends parts [] h in (b.nodes, b.bracketed, b.same)
