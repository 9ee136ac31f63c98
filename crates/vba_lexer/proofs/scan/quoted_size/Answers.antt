use Rattle.std.proofs.Common.{arith, sym, ◌∙◌, ◌≡◌, ◌==◌, ◌+◌, false, drop}
use Rattle.vba_lexer.specs.Scans.{begins_with}
use Rattle.vba_lexer.proofs.Quotes.{text_of, text_behind_end, text_behind_feed, text_closes, single_at_end, single_before}
use Rattle.vba_lexer.proofs.scan.quoted_size.Goals as goal
use Rattle.vba_lexer.proofs.scan.quoted_size.Goals.{then-place-line-via-then-place-line, then-place-line-via-else-place-line+then-line-place-ne-QUOTE-2}

pub returns-then-place-line : goal.returns-then-place-line
returns-then-place-line c =
    let single : begins_with (λ character. character == 34) (drop (c.loop-place.place + 1) c.args.line.now) ≡ false =
    elim c.then-place-line.branch [
      | then-place-line-via-then-place-line w ↦ single_at_end c.loop-place.place c.args.line.now (omega arith)
      | then-place-line-via-else-place-line+then-line-place-ne-QUOTE-2 w ↦ single_before c.loop-place.place c.args.line.now (omega arith) (omega arith)
    ] in
    text_of c.args.line.now _ c.requires
    (sym c.loop-place.invariant.goes_on ∙ text_closes c.loop-place.longest c.loop-place.place c.args.line.now (omega arith) (omega arith) single)

pub returns-else-line-place-ne-FEED : goal.returns-else-line-place-ne-FEED
returns-else-line-place-ne-FEED c =
    text_of c.args.line.now c.loop-place.longest c.requires
    (sym c.loop-place.invariant.goes_on ∙ text_behind_feed c.loop-place.longest c.loop-place.place c.args.line.now (omega arith) (omega arith))

pub returns-after-loop-place : goal.returns-after-loop-place
returns-after-loop-place c =
    text_of c.args.line.now c.loop-place.longest c.requires
    (sym c.loop-place.invariant.goes_on ∙ text_behind_end c.loop-place.longest c.loop-place.place c.args.line.now (omega arith))
