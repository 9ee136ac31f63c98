-- Serves the code: the lines of a block behind its header.
use Rattle.std.specs.Prelude.{ℕ, ◌==◌, Bool, true, false, ◌&&◌, not, List, [], ◌∷◌, if◌then◌else◌}
use Rattle.vba_module.specs.Blocks.{Role, role_of}
use Rattle.bound_project.specs.Statements.{Block}
use Rattle.binder.specs.Numbering.{Opened, Standing, behind_block, part_count, sought_behind}
use Rattle.binder.specs.Blocks.{is_arm, is_closing, is_opening, first_in, lines_in}
use Rattle.statement_numbers.specs.declared.blocks.BlockLines.{BlockLines}
use Rattle.statement_numbers.specs.declared.blocks.BlockLines.TheVariants as lines

abbrev pub is_line : BlockLines → Role → Bool
is_line lines.Arms = is_arm
is_line lines.Ends = is_closing

-- the innermost block has this header
abbrev pub has_header : ℕ → List Opened → Bool
has_header header [] = false
has_header header (o ∷ around) = o.header == header

-- a statement that is such a line of the block with this header
abbrev pub is_line_of : BlockLines → ℕ → Standing → Bool
is_line_of wanted header s = is_line wanted (role_of s.part) && (not (part_count s.part == 0) && has_header header s.around)

-- the block that a part opens
abbrev pub block_of : List Standing → Standing → Block
block_of all s = record {
  opening = s.number;
  arms = lines_in is_arm s.number all;
  closing = first_in (lines_in is_closing s.number all);
  behind = sought_behind (behind_block 0) s;
}

-- the block that a part opens, where it opens one
abbrev pub blocks_at : List Standing → Standing → List Block
blocks_at all s = if is_opening (role_of s.part) then block_of all s ∷ [] else []
