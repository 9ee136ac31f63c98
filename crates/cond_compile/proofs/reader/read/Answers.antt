-- Values are made along with reading as they are of the tree that is read.
use Rattle.std.proofs.Common.{◌∙◌}
use Rattle.cond_compile.specs.Pieces.{pieces_behind}
use Rattle.cond_compile.specs.Seen.{constants_view}
use Rattle.cond_compile.proofs.Values.{read_values}
use Rattle.cond_compile.proofs.reader.read.Goals as goal

pub returns : goal.returns
returns c =
    c.in_ok-reading.ensures
    ∙ read_values (constants_view c.args.constants.now) (pieces_behind c.args.source.now c.args.previous.now c.args.tokens.now)
