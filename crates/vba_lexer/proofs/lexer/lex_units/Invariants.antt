use Rattle.std.proofs.Common.{length, ◌-◌}
use Rattle.vba_lexer.proofs.Lexing.{LinesGoOn}
use Rattle.vba_lexer.proofs.lexer.lex_units.Given as goal

abbrev pub invariant-loop-mark : goal.invariant-loop-mark
invariant-loop-mark l = LinesGoOn l.module_number l.units l.header l.lines.items l.text.items l.first l.cursor

abbrev pub decreases-loop-mark : goal.decreases-loop-mark
decreases-loop-mark l = length l.units - l.cursor.units
