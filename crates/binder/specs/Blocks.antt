-- Blocks of a procedure by the numbers of their lines, and what runs behind a part ([MS-VBAL] 5.4).
use Rattle.std.specs.Prelude.{ℕ, ◌==◌, Bool, true, false, ◌&&◌, not, List, [], ◌∷◌, Option, Some, None, is_some, if◌then◌else◌}
use Rattle.vba_tree.specs.declared.simple.LabelName.{LabelName}
use Rattle.vba_module.specs.Parts.{Part, label}
use Rattle.vba_module.specs.Blocks.{select, Role, opens, divides, closes, role_of}
use Rattle.bound_project.specs.Statements.{Block}
use Rattle.binder.specs.Options.{or_else}
use Rattle.binder.specs.Numbering.{part_count, here, behind_block, Opened, Standing, sought_behind}
use Rattle.binder.specs.Violations.{same_label_name}

-- a label is the number of what runs behind it
abbrev pub label_number : List Standing → LabelName → Option ℕ
label_number [] l = None
label_number (s ∷ ss) l = or_else (at s.part) (label_number ss l)
  where
    at : Part → Option ℕ
    at (label x) = if same_label_name l x then Some (sought_behind here s) else None
    at part = None

-- behind a header runs its block, but behind Select Case what stands behind that
abbrev pub next_number : Standing → ℕ
next_number s = at (role_of s.part)
  where
    at : Role → ℕ
    at (opens select) = sought_behind (behind_block 0) s
    at role = sought_behind here s

abbrev pub header_of : List Opened → ℕ
header_of [] = 0
header_of (o ∷ os) = o.header

-- the numbers of the lines of a role in the block with this header
abbrev pub lines_in : (Role → Bool) → ℕ → List Standing → List ℕ
lines_in test header [] = []
lines_in test header (s ∷ ss) =
    if test (role_of s.part) && (not (part_count s.part == 0) && (is_some (at s.around) && header_of s.around == header)) then s.number ∷ lines_in test header ss
    else lines_in test header ss
  where
    at : List Opened → Option Opened
    at [] = None
    at (o ∷ os) = Some o

abbrev pub is_arm : Role → Bool
is_arm (divides kind is_last) = true
is_arm role = false

abbrev pub is_closing : Role → Bool
is_closing (closes kind) = true
is_closing role = false

abbrev pub is_opening : Role → Bool
is_opening (opens kind) = true
is_opening role = false

abbrev pub first_in : List ℕ → Option ℕ
first_in [] = None
first_in (n ∷ ns) = Some n

abbrev pub blocks_in : List Standing → List Standing → List Block
blocks_in all [] = []
blocks_in all (s ∷ ss) =
    if is_opening (role_of s.part)
    then record { opening = s.number; arms = lines_in is_arm s.number all; closing = first_in (lines_in is_closing s.number all); behind = sought_behind (behind_block 0) s } ∷ blocks_in all ss
    else blocks_in all ss
