use Rattle.std.proofs.Common.{◌-◌, length}
use Rattle.vba_grammar.specs.Lists.{statements_of}
use Rattle.vba_parser.specs.Seen.{state_view}
use Rattle.vba_parser.proofs.Turning.{Turns}
use Rattle.vba_parser.proofs.lists.read_statements.Given as goal

abbrev pub invariant-turns : goal.invariant-turns
invariant-turns l = Turns (statements_of l.fn.tokens) (length l.fn.tokens - l.counter) (state_view l.state) l.left
