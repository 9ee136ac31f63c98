-- Lines of blocks, and labels, one part after another.
use Rattle.std.proofs.Common.{◌≡◌, ℕ, ◌==◌, Bool, true, false, ◌&&◌, not, List, [], ◌∷◌, ◌++◌, Option, Some, None, refl, sym, ap, ◌∙◌}
use Rattle.std.specs.Prelude.{if◌then◌else◌, is_some}
use Rattle.vba_tree.specs.declared.simple.LabelName.{LabelName}
use Rattle.vba_module.specs.Parts.{Part, label, statement, whole_line}
use Rattle.vba_module.specs.Blocks.{Role, opens, divides, closes, stands, role_of}
use Rattle.module_parts.specs.Brackets.{IsRole}
use Rattle.module_parts.specs.declared.bracket.Bracket.{Bracket}
use Rattle.module_parts.specs.declared.bracket.Bracket.TheVariants as bracket
use Rattle.binder.specs.Numbering.{Opened, Standing, here, part_count, sought_behind}
use Rattle.binder.specs.Blocks.{label_number, lines_in, blocks_in, is_opening}
use Rattle.statement_numbers.specs.declared.blocks.BlockLines.{BlockLines}
use Rattle.statement_numbers.specs.declared.blocks.BlockLines.TheVariants as lines
use Rattle.statement_numbers.specs.Labels.{is_label}
use Rattle.statement_numbers.specs.Lines.{is_line, has_header, is_line_of, block_of, blocks_at}
use Rattle.statement_numbers.specs.View.{role_view}

-- ---- labels

passed_by : (part : Part) (number : ℕ) (around : List Opened) (rest : List Part) (ss : List Standing) (l : LabelName) → is_label l part ≡ false
    → label_number (record { part = part; number = number; around = around; rest = rest } ∷ ss) l ≡ label_number ss l
passed_by (label x) number around rest ss l other = rw other refl
passed_by (statement x) number around rest ss l other = refl
passed_by (whole_line x) number around rest ss l other = refl

pub label_passed : (s : Standing) (ss : List Standing) (l : LabelName) → is_label l s.part ≡ false → label_number (s ∷ ss) l ≡ label_number ss l
label_passed s ss l other = passed_by s.part s.number s.around s.rest ss l other

found_by : (part : Part) (number : ℕ) (around : List Opened) (rest : List Part) (ss : List Standing) (l : LabelName) → is_label l part ≡ true
    → label_number (record { part = part; number = number; around = around; rest = rest } ∷ ss) l
    ≡ Some (sought_behind here (record { part = part; number = number; around = around; rest = rest }))
found_by (label x) number around rest ss l same = rw same refl
found_by (statement x) number around rest ss l same = absurd cc
found_by (whole_line x) number around rest ss l same = absurd cc

pub label_found : (s : Standing) (ss : List Standing) (l : LabelName) → is_label l s.part ≡ true → label_number (s ∷ ss) l ≡ Some (sought_behind here s)
label_found s ss l same = found_by s.part s.number s.around s.rest ss l same

-- ---- lines of blocks

-- Exits in a part make it no line
pub same_line : (wanted : BlockLines) (b : Bracket) (role : Role) → IsRole b role → is_line wanted role ≡ is_line wanted (role_view b)
same_line wanted (bracket.Opens kind) role is = ap (is_line wanted) is
same_line wanted (bracket.Divides kind is_last) role is = ap (is_line wanted) is
same_line wanted (bracket.Closes kind) role is = ap (is_line wanted) is
same_line lines.Arms bracket.Stands (stands exits) is = refl
same_line lines.Ends bracket.Stands (stands exits) is = refl
same_line wanted bracket.Stands (opens kind) is = absurd is
same_line wanted bracket.Stands (divides kind is_last) is = absurd is
same_line wanted bracket.Stands (closes kind) is = absurd is

listed_by : (wanted : BlockLines) (header : ℕ) (part : Part) (number : ℕ) (around : List Opened) (rest : List Part) (ss : List Standing)
    → lines_in (is_line wanted) header (record { part = part; number = number; around = around; rest = rest } ∷ ss)
    ≡ (if is_line_of wanted header (record { part = part; number = number; around = around; rest = rest })
    then number ∷ lines_in (is_line wanted) header ss else lines_in (is_line wanted) header ss)
listed_by wanted header part number [] rest ss = refl
listed_by wanted header part number (o ∷ around) rest ss = refl

pub listed : (wanted : BlockLines) (header : ℕ) (s : Standing) (ss : List Standing)
    → lines_in (is_line wanted) header (s ∷ ss)
    ≡ (if is_line_of wanted header s then s.number ∷ lines_in (is_line wanted) header ss else lines_in (is_line wanted) header ss)
listed wanted header s ss = listed_by wanted header s.part s.number s.around s.rest ss

-- ---- blocks

pub blocks_next : (all : List Standing) (s : Standing) (ss : List Standing) → blocks_in all (s ∷ ss) ≡ blocks_at all s ++ blocks_in all ss
blocks_next all s ss = by_test (is_opening (role_of s.part))
  where
    by_test : (test : Bool)
        → (if test then block_of all s ∷ blocks_in all ss else blocks_in all ss) ≡ (if test then block_of all s ∷ [] else []) ++ blocks_in all ss
    by_test true = refl
    by_test false = refl
