use Rattle.std.proofs.Common.{vec_len}
use Rattle.vba_grammar.specs.Lists.{with_else}
use Rattle.vba_parser.specs.Seen.{statements_view, stack}
use Rattle.vba_parser.proofs.Closing.{Opening}
use Rattle.vba_parser.proofs.building.open_else.Given as goal

abbrev pub invariant-closing : goal.invariant-closing
invariant-closing l =
    Opening (with_else (statements_view l.fn.state.statements) (stack l.fn.state.frames.items) l.else_word) l.else_word
    (statements_view l.state.statements) l.state.frames.items

abbrev pub decreases-closing : goal.decreases-closing
decreases-closing l = vec_len l.state.frames
