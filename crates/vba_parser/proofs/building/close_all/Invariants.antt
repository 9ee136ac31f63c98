use Rattle.std.proofs.Common.{vec_len}
use Rattle.vba_grammar.specs.Lists.{closed}
use Rattle.vba_parser.specs.Seen.{statements_view, stack}
use Rattle.vba_parser.proofs.Closing.{Closing}
use Rattle.vba_parser.proofs.building.close_all.Given as goal

abbrev pub invariant-closing : goal.invariant-closing
invariant-closing l =
    Closing (closed (statements_view l.fn.state.statements) (stack l.fn.state.frames.items)) (statements_view l.state.statements) l.state.frames.items

abbrev pub decreases-closing : goal.decreases-closing
decreases-closing l = vec_len l.state.frames
