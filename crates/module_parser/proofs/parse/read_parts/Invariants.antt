use Rattle.std.proofs.Common.{◌≡◌, ◌++◌, length, None}
use Rattle.std.specs.Prelude.{flat_map}
use Rattle.vba_lexer.specs.Inside.{AllLieIn}
use Rattle.vba_lexer.specs.Lexed.{lines_view}
use Rattle.refusal_order.specs.Least.{least_of}
use Rattle.vba_module.specs.Parts.{parts_of_lines}
use Rattle.vba_module.specs.Verdict.{trees_of, unread_line}
use Rattle.module_parts.specs.View.{parts_view}
use Rattle.module_parser.specs.Parsed.{read_lexed}
use Rattle.module_parser.proofs.parse.read_parts.Given as goal

abbrev pub invariant-loop-left : goal.invariant-loop-left
invariant-loop-left l =
    (parts_view l.parts.items ++ parts_of_lines (trees_of (read_lexed l.source (lines_view l.left)))
    ≡ parts_of_lines (trees_of (read_lexed l.source (lines_view l.lines))))
    × (least_of l.least (flat_map unread_line (read_lexed l.source (lines_view l.left)))
    ≡ least_of None (flat_map unread_line (read_lexed l.source (lines_view l.lines))))
    × AllLieIn l.source l.left

abbrev pub decreases-loop-left : goal.decreases-loop-left
decreases-loop-left l = length l.left
