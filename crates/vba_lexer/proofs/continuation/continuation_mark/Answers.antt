use Rattle.std.proofs.Common.{◌∙◌, ap, sym, arith}
use Rattle.std.proofs.lemmas.List.{take_rest}
use Rattle.vba_lexer.specs.Classes.{is_white}
use Rattle.vba_lexer.proofs.ContinuationLemmas.{passed_none, passed_unit, passed_to_mark, passed_all}
use Rattle.vba_lexer.proofs.continuation.continuation_mark.Goals as goal

pub loop-place-init : goal.loop-place-init
loop-place-init c = passed_none c.args.text.now

pub loop-place-preserved : goal.loop-place-preserved
loop-place-preserved c =
    passed_unit c.args.text.now c.loop-place.white_before c.is_white-white_before.result c.loop-place.place c.loop-place.invariant (omega arith)
    (sym (rw take_rest at c.is_mark.ensures) ∙ c.if-is_mark.false) (c.is_white-white_before.ensures ∙ ap is_white c.from.ensures)

pub returns-then-is_mark-clause-value : goal.returns-then-is_mark-clause-value
returns-then-is_mark-clause-value c =
    passed_to_mark c.args.text.now c.loop-place.white_before c.loop-place.place c.loop-place.invariant (omega arith)
    (sym (rw take_rest at c.is_mark.ensures) ∙ c.if-is_mark.true)

pub returns-clause-value : goal.returns-clause-value
returns-clause-value c = passed_all c.args.text.now c.loop-place.white_before c.loop-place.place c.loop-place.invariant (omega arith)
