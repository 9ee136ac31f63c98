-- What is read of parts one after another, as the code holds it.
use Rattle.std.proofs.Common.{◌≡◌, List, [], ◌∷◌, length, map, Some, sym, subst, arith}
use Rattle.std.specs.Prelude.{IsSome}
use Rattle.vba_module.specs.Parts as parts
use Rattle.vba_module.specs.Blocks.{role_of, block_faults}
use Rattle.vba_module.specs.Tree.{AreBracketed, parts_of_nodes}
use Rattle.module_tree.specs.declared.tree.Node.{Node}
use Rattle.module_tree.specs.declared.progress.Frame.{Frame}
use Rattle.module_tree.specs.declared.progress.Progress.{Progress}
use Rattle.module_tree.specs.Growing.{grown, grow_all}
use Rattle.module_tree.specs.Seen.{stack, progress_view}
use Rattle.module_tree.specs.View.{nodes_view}
use Rattle.module_tree.proofs.Grown.{IsRead, is_read, fits_next, reads_next, read_bracketed, read_same}

-- what was read of parts, where these are left
abbrev pub IsReadTo : {P : Type 0} → (P → parts.Part) → List parts.Part → Progress P → List P → Type 0
IsReadTo view all progress left = IsRead all (grow_all (stack view progress.frames.items) (nodes_view view progress.read.items) (map view left))

pub read_from : {P : Type 0} (view : P → parts.Part) (frames : List (Frame P)) (read : List (Node P)) (left all : List P)
    → frames ≡ [] → read ≡ [] → left ≡ all → block_faults [] (map view all) ≡ []
    → IsRead (map view all) (grow_all (stack view frames) (nodes_view view read) (map view left))
read_from {P = P} view frames read left all f r l h =
    let from_frames = λ (fs : List (Frame P)). IsRead (map view all) (grow_all (stack view fs) (nodes_view view read) (map view left)) in
    let from_read = λ (ns : List (Node P)). IsRead (map view all) (grow_all (stack view []) (nodes_view view ns) (map view left)) in
    let from_left = λ (ps : List P). IsRead (map view all) (grow_all (stack view []) (nodes_view view []) (map view ps)) in
    subst from_frames (sym f) (subst from_read (sym r) (subst from_left (sym l) (is_read (map view all) h)))

to_part : {P : Type 0} (view : P → parts.Part) (all : List parts.Part) (progress : Progress P) (left rest : List P) (part : P)
    → left ≡ part ∷ rest → IsReadTo view all progress left
    → IsReadTo view all progress (part ∷ rest)
to_part view all progress left rest part e r = subst (IsReadTo view all progress) e r

pub part_fits : {P : Type 0} (view : P → parts.Part) (all : List parts.Part) (progress : Progress P) (left rest : List P) (part : P)
    → left ≡ part ∷ rest → IsReadTo view all progress left
    → IsSome (grown (stack view progress.frames.items) (nodes_view view progress.read.items) (view part) (role_of (view part)))
part_fits view all progress left rest part e r =
    fits_next (stack view progress.frames.items) (nodes_view view progress.read.items) (view part) (map view rest) all
    (to_part view all progress left rest part e r)

pub part_read : {P : Type 0} (view : P → parts.Part) (all : List parts.Part) (progress new : Progress P) (left rest : List P) (part : P)
    → left ≡ part ∷ rest
    → grown (stack view progress.frames.items) (nodes_view view progress.read.items) (view part) (role_of (view part)) ≡ Some (progress_view view new)
    → IsReadTo view all progress left → IsReadTo view all new rest
part_read view all progress new left rest part e g r =
    reads_next (stack view progress.frames.items) (nodes_view view progress.read.items) (view part) (map view rest) all (progress_view view new) g
    (to_part view all progress left rest part e r)

to_end : {P : Type 0} (view : P → parts.Part) (all : List parts.Part) (progress : Progress P) (left : List P)
    → length left ≡ 0 → IsReadTo view all progress left → IsReadTo view all progress []
to_end view all progress [] e r = r
to_end view all progress (part ∷ left) e r = absurd (omega (arith, e))

pub end_bracketed : {P : Type 0} (view : P → parts.Part) (all : List parts.Part) (progress : Progress P) (left : List P)
    → length left ≡ 0 → IsReadTo view all progress left
    → AreBracketed [] (nodes_view view progress.read.items)
end_bracketed view all progress left e r =
    read_bracketed (stack view progress.frames.items) (nodes_view view progress.read.items) all (to_end view all progress left e r)

pub end_same : {P : Type 0} (view : P → parts.Part) (all : List parts.Part) (progress : Progress P) (left : List P)
    → length left ≡ 0 → IsReadTo view all progress left
    → parts_of_nodes (nodes_view view progress.read.items) ≡ all
end_same view all progress left e r =
    read_same (stack view progress.frames.items) (nodes_view view progress.read.items) all (to_end view all progress left e r)
