use Rattle.std.proofs.Common.{◌≡◌, ◌∙◌, ◌+◌, ap, sym, subst, arith, drop, true, false, ℕ, Some, None}
use Rattle.std.proofs.lemmas.List.{take_rest}
use Rattle.vba_lexer.specs.Header.{header_end, header_behind, is_empty}
use Rattle.vba_lexer.specs.Lines.{is_last, lines_of}
use Rattle.vba_lexer.proofs.ContinuationLemmas.{not_last, end_size-some}
use Rattle.vba_lexer.proofs.Headers.{CountGoesOn, line_at, count_none, found_behind, no_header, header_found, header_goes_on}
use Rattle.vba_lexer.proofs.header.header_end.Goals as goal

pub loop-count-init : goal.loop-count-init
loop-count-init c = count_none header_end c.args.source.now

pub returns-in-FileEnd : goal.returns-in-FileEnd
returns-in-FileEnd c =
    no_header c.args.source.now c.loop-count.start c.loop-count.count c.first_line-size.result.0 c.first_line-size.result.1
    c.loop-count.invariant (rw take_rest at c.first_line-size.ensures) (ap is_last c.in-FileEnd.is)

pub returns-in_err-more : goal.returns-in_err-more
returns-in_err-more c =
    let some : is_empty (line_at c.args.source.now c.loop-count.start c.first_line-size.result.0 c.first_line-size.result.1) ≡ false =
    sym (rw take_rest at c.is_all_white.ensures) ∙ c.if-not-is_all_white.true in
    let behind : None ≡ header_behind (line_at c.args.source.now c.loop-count.start c.first_line-size.result.0 c.first_line-size.result.1)
    (lines_of (drop (c.loop-count.start + (c.first_line-size.result.0 + c.size.result)) c.args.source.now)) =
    found_behind c.args.source.now c.loop-count.start _ c.first_line-size.result.0 c.first_line-size.result.1 None (sym c.in_err-more.was ∙ c.header_behind.ensures.value) in
    c.from_residual.ensures
    ∙ header_found c.args.source.now c.loop-count.start c.loop-count.count c.first_line-size.result.0 c.first_line-size.result.1 None
    c.loop-count.invariant (rw take_rest at c.first_line-size.ensures) (not_last c.first_line-size.result.1 c.in_default.not-FileEnd) some
    (rw c.size.ensures at behind)

pub returns-then-not-is_all_white : goal.returns-then-not-is_all_white
returns-then-not-is_all_white c =
    let some : is_empty (line_at c.args.source.now c.loop-count.start c.first_line-size.result.0 c.first_line-size.result.1) ≡ false =
    sym (rw take_rest at c.is_all_white.ensures) ∙ c.if-not-is_all_white.true in
    let behind : Some c.in_ok-more.more ≡ header_behind (line_at c.args.source.now c.loop-count.start c.first_line-size.result.0 c.first_line-size.result.1)
    (lines_of (drop (c.loop-count.start + (c.first_line-size.result.0 + c.size.result)) c.args.source.now)) =
    found_behind c.args.source.now c.loop-count.start _ c.first_line-size.result.0 c.first_line-size.result.1 (Some c.in_ok-more.more)
    (sym c.in_ok-more.was ∙ c.header_behind.ensures.value) in
    let order : c.loop-count.count + 1 + c.in_ok-more.more ≡ c.in_ok-more.more + (c.loop-count.count + 1) = omega arith in
    ap Some order
    ∙ header_found c.args.source.now c.loop-count.start c.loop-count.count c.first_line-size.result.0 c.first_line-size.result.1 (Some c.in_ok-more.more)
    c.loop-count.invariant (rw take_rest at c.first_line-size.ensures) (not_last c.first_line-size.result.1 c.in_default.not-FileEnd) some
    (rw c.size.ensures at behind)

pub loop-count-preserved : goal.loop-count-preserved
loop-count-preserved c =
    let empty : is_empty (line_at c.args.source.now c.loop-count.start c.first_line-size.result.0 c.first_line-size.result.1) ≡ true =
    sym (rw take_rest at c.is_all_white.ensures) ∙ c.if-not-is_all_white.false in
    subst (λ (size : ℕ). CountGoesOn header_end c.args.source.now (c.loop-count.start + (c.first_line-size.result.0 + size)) (c.loop-count.count + 1))
    (sym c.size.ensures)
    (header_goes_on c.args.source.now c.loop-count.start c.loop-count.count c.first_line-size.result.0 c.first_line-size.result.1
    c.loop-count.invariant (rw take_rest at c.first_line-size.ensures) (not_last c.first_line-size.result.1 c.in_default.not-FileEnd) empty)

pub loop-count-smaller : goal.loop-count-smaller
loop-count-smaller c =
    let next : CountGoesOn header_end c.args.source.now (c.loop-count.start + (c.first_line-size.result.0 + c.size.result)) (c.loop-count.count + 1) =
    loop-count-preserved c in
    let some = end_size-some c.first_line-size.result.1 (not_last c.first_line-size.result.1 c.in_default.not-FileEnd) in
    omega (arith, next.within, some, c.size.ensures)
