use Rattle.vba_lexer.proofs.Fronts.{IsFound, longer-found, single-found}
use Rattle.vba_lexer.specs.Kinds.{kind_of}
use Rattle.vba_lexer.proofs.scan.scan.Goals as goal

pub returns : goal.returns
returns c =
    let found : IsFound (kind_of c.args.is_first) c.args.line.now c.longer.result = longer-found _ _ _ _ _ _ _ c.word_size.ensures (longer-found _ _ _ _ _ _ _ c.whole_size.ensures (longer-found _ _ _ _ _ _ _ c.fixed_size.ensures (longer-found _ _ _ _ _ _ _ c.text_size.ensures (longer-found _ _ _ _ _ _ _ c.date_size.ensures (longer-found _ _ _ _ _ _ _ c.mark_size.ensures (single-found c.args.line.now c.requires.begins) c.longer-mark.ensures) c.longer-date.ensures) c.longer-text.ensures) c.longer-fixed.ensures) c.longer-whole.ensures) c.longer.ensures in
    found.front
