use Rattle.std.proofs.Common.{◌≡◌, ◌∙◌, ◌+◌, ap, sym, subst, arith, drop, true, false, ℕ}
use Rattle.std.specs.Prelude.{codes}
use Rattle.std.proofs.lemmas.List.{take_rest}
use Rattle.vba_lexer.specs.FirstLine.{IsFirstLine}
use Rattle.vba_lexer.specs.Header.{lines_to_end, is_line_of, spells}
use Rattle.vba_lexer.specs.Lines.{is_last}
use Rattle.vba_lexer.proofs.ContinuationLemmas.{not_last, end_size-some}
use Rattle.vba_lexer.proofs.Headers.{CountGoesOn, line_at, count_none, end_found, no_end, end_behind}
use Rattle.vba_lexer.proofs.header.lines_to_end.Goals as goal

pub loop-ending-init : goal.loop-ending-init
loop-ending-init c = count_none lines_to_end c.args.source.now

pub returns-then-spells : goal.returns-then-spells
returns-then-spells c =
    let is_first : IsFirstLine (drop c.loop-ending.start c.args.source.now) c.first_line-size.result.0 c.first_line-size.result.1 =
    rw take_rest at c.first_line-size.ensures in
    let is_end : is_line_of (codes "end") (line_at c.args.source.now c.loop-ending.start c.first_line-size.result.0 c.first_line-size.result.1) ≡ true =
    ap (spells (codes "end")) (sym (rw take_rest at c.trimmed.ensures)) ∙ sym c.spells.ensures ∙ c.if-spells.true in
    record {
      value = end_found c.args.source.now c.loop-ending.start c.loop-ending.count c.first_line-size.result.0 c.first_line-size.result.1
          c.loop-ending.invariant is_first is_end;
      within = omega arith;
    }

pub returns-in-FileEnd : goal.returns-in-FileEnd
returns-in-FileEnd c =
    let is_first : IsFirstLine (drop c.loop-ending.start c.args.source.now) c.first_line-size.result.0 c.first_line-size.result.1 =
    rw take_rest at c.first_line-size.ensures in
    let is_end : is_line_of (codes "end") (line_at c.args.source.now c.loop-ending.start c.first_line-size.result.0 c.first_line-size.result.1) ≡ false =
    ap (spells (codes "end")) (sym (rw take_rest at c.trimmed.ensures)) ∙ sym c.spells.ensures ∙ c.if-spells.false in
    record {
      value = no_end c.args.source.now c.loop-ending.start c.loop-ending.count c.first_line-size.result.0 c.first_line-size.result.1
          c.loop-ending.invariant is_first is_end (ap is_last c.in-FileEnd.is);
      within = tt;
    }

pub loop-ending-preserved : goal.loop-ending-preserved
loop-ending-preserved c =
    let is_first : IsFirstLine (drop c.loop-ending.start c.args.source.now) c.first_line-size.result.0 c.first_line-size.result.1 =
    rw take_rest at c.first_line-size.ensures in
    let is_end : is_line_of (codes "end") (line_at c.args.source.now c.loop-ending.start c.first_line-size.result.0 c.first_line-size.result.1) ≡ false =
    ap (spells (codes "end")) (sym (rw take_rest at c.trimmed.ensures)) ∙ sym c.spells.ensures ∙ c.if-spells.false in
    subst (λ (size : ℕ). CountGoesOn lines_to_end c.args.source.now (c.loop-ending.start + (c.first_line-size.result.0 + size)) (c.loop-ending.count + 1))
    (sym c.size.ensures)
    (end_behind c.args.source.now c.loop-ending.start c.loop-ending.count c.first_line-size.result.0 c.first_line-size.result.1
    c.loop-ending.invariant is_first is_end (not_last c.first_line-size.result.1 c.in_default.not-FileEnd))

pub loop-ending-smaller : goal.loop-ending-smaller
loop-ending-smaller c =
    let next : CountGoesOn lines_to_end c.args.source.now (c.loop-ending.start + (c.first_line-size.result.0 + c.size.result)) (c.loop-ending.count + 1) =
    loop-ending-preserved c in
    let some = end_size-some c.first_line-size.result.1 (not_last c.first_line-size.result.1 c.in_default.not-FileEnd) in
    omega (arith, next.within, some, c.size.ensures)
