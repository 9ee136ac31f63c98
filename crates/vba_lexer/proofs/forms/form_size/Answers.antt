use Rattle.vba_lexer.proofs.Pieces.{longest_pieces}
use Rattle.vba_lexer.proofs.forms.form_size.Goals as goal

pub returns : goal.returns
returns c =
    longest_pieces c.args.pieces.now c.args.line.now c.pieces_size.result c.unwrap_or.result c.pieces_size.ensures.size c.unwrap_or.ensures
