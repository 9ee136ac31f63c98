use Rattle.std.proofs.lemmas.List.{take_rest}
use Rattle.vba_lexer.proofs.Splits.{first_line_is}
use Rattle.vba_lexer.proofs.lines.first_line.Goals as goal

pub returns : goal.returns
returns c =
    first_line_is c.args.source.now c.text_size-size.result c.ending_of.result c.text_size-size.ensures.size (rw take_rest at c.ending_of.ensures)
    c.text_size-size.ensures.within
