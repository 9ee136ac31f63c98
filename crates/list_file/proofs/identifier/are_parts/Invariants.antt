use Rattle.std.proofs.Common.{◌≡◌, length}
use Rattle.std.specs.List.{list_all}
use Rattle.vba_lexer.specs.Characters.{characters_of}
use Rattle.list_file.specs.Lines.{is_part}
use Rattle.list_file.proofs.identifier.are_parts.Given as goal

-- the rest decides
abbrev pub invariant-loop-left : goal.invariant-loop-left
invariant-loop-left l = list_all is_part (characters_of l.left) ≡ list_all is_part (characters_of l.text)

abbrev pub decreases-loop-left : goal.decreases-loop-left
decreases-loop-left l = length l.left
