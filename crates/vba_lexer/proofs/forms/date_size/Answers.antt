use Rattle.std.proofs.Common.{Bool, subst, sym}
use Rattle.vba_lexer.specs.Forms.{IsLongest}
use Rattle.vba_lexer.specs.Kinds.{is_date}
use Rattle.vba_lexer.proofs.Pieces.{longest_none}
use Rattle.vba_lexer.proofs.forms.date_size.Goals as goal

pub returns-then-is_first : goal.returns-then-is_first
returns-then-is_first c =
    subst (λ (first : Bool). IsLongest (is_date first) c.args.line.now 0) (sym c.if-is_first.true) (longest_none c.args.line.now)

pub returns : goal.returns
returns c = subst (λ (first : Bool). IsLongest (is_date first) c.args.line.now c.form_size.result) (sym c.if-is_first.false) c.form_size.ensures
