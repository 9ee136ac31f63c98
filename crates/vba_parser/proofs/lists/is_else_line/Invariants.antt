use Rattle.std.proofs.Common.{◌≡◌, length}
use Rattle.vba_grammar.specs.Lists.{is_else_line}
use Rattle.vba_parser.proofs.Cuts.{turned}
use Rattle.vba_parser.proofs.lists.is_else_line.Given as goal

abbrev pub invariant-elses : goal.invariant-elses
invariant-elses l = turned l.is_turned l.left ≡ is_else_line l.fn.tokens

abbrev pub decreases-elses : goal.decreases-elses
decreases-elses l = length l.left
