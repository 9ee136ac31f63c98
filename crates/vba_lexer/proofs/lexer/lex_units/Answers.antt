use Rattle.std.proofs.Common.{◌≡◌, ◌∙◌, ◌+◌, ◌++◌, ap, arith, sym, drop, None, ℕ, List}
use Rattle.std.proofs.lemmas.Grind.{common_steps}
use Rattle.std.proofs.lemmas.List.{take_rest}
use Rattle.vba_lexer.specs.Continuations.{continued_at}
use Rattle.vba_lexer.specs.FirstLine.{IsFirstLine, end_size}
use Rattle.vba_lexer.specs.Lexed.{line_view, lexed_line}
use Rattle.vba_lexer.specs.Lines.{is_last}
use Rattle.vba_lexer.proofs.ContinuationLemmas.{not_last}
use Rattle.vba_lexer.proofs.Inside.{lies_in-lexed, token_count-lexed}
use Rattle.vba_lexer.proofs.Lexing.{cursor_behind, read_at, none_so_far, line_ended, line_last}
use Rattle.vba_lexer.proofs.lexer.lex_units.Goals as goal

pub loop-mark-init : goal.loop-mark-init
loop-mark-init c =
    rw (c.new-lines.ensures.items, c.new-text.ensures.items)
    (none_so_far c.args.module_number c.args.units.now c.header_size-header.result c.header_size-header.ensures)

pub loop-mark-preserved : goal.loop-mark-preserved
loop-mark-preserved c =
    let is_first : IsFirstLine (drop c.loop-mark.cursor.units c.args.units.now) c.first_line-size.result.0 c.first_line-size.result.1 =
    rw take_rest at c.first_line-size.ensures in
    let is_read : c.text_behind_header-line_text.result.now
    ≡ read_at c.args.units.now c.header_size-header.result c.loop-mark.cursor c.first_line-size.result.0 =
    rw take_rest at c.text_behind_header-line_text.ensures in
    let no_mark : c.continued_at.result ≡ None = grind (arith, common_steps, c.in_default.is) in
    let continued : continued_at (read_at c.args.units.now c.header_size-header.result c.loop-mark.cursor c.first_line-size.result.0) c.first_line-size.result.1 ≡ None =
    ap (λ (t : List ℕ). continued_at t c.first_line-size.result.1) (sym is_read) ∙ sym c.continued_at.ensures.value ∙ no_mark in
    let is_whole : c.extend_from_slice.new.self.items
    ≡ c.loop-mark.text.items ++ read_at c.args.units.now c.header_size-header.result c.loop-mark.cursor c.first_line-size.result.0 =
    c.in_ok-extend_from_slice.ensures.items ∙ ap (λ (t : List ℕ). c.loop-mark.text.items ++ t) is_read in
    let is_line : line_view c.in_ok-logical_line.field-0
    ≡ lexed_line c.args.module_number c.args.units.now (record { first = c.loop-mark.first; text = c.extend_from_slice.new.self.items }) =
    c.in_ok-logical_line.ensures
    ∙ ap (λ (t : List ℕ). lexed_line c.args.module_number c.args.units.now (record { first = c.loop-mark.first; text = t })) c.as_slice.ensures.value in
    let next : c.behind_line-cursor.result
    ≡ cursor_behind c.loop-mark.cursor (c.first_line-size.result.0 + end_size c.first_line-size.result.1) =
    c.behind_line-cursor.ensures
    ∙ ap (λ (n : ℕ). cursor_behind c.loop-mark.cursor (c.first_line-size.result.0 + n)) c.size.ensures in
    line_ended c.args.module_number c.args.units.now c.header_size-header.result c.loop-mark.lines.items c.push.new.self.items c.in_ok-logical_line.field-0
    c.loop-mark.text.items c.extend_from_slice.new.self.items c.clear.new.self.items c.loop-mark.first c.loop-mark.cursor c.behind_line-cursor.result
    c.first_line-size.result.0 c.first_line-size.result.1 c.loop-mark.invariant is_first (not_last c.first_line-size.result.1 c.in_default-ending.not-FileEnd)
    continued next is_whole is_line c.in_ok-push.ensures.items c.clear.ensures.items

pub returns-in-FileEnd-clause-lines : goal.returns-in-FileEnd-clause-lines
returns-in-FileEnd-clause-lines c =
    let is_first : IsFirstLine (drop c.loop-mark.cursor.units c.args.units.now) c.first_line-size.result.0 c.first_line-size.result.1 =
    rw take_rest at c.first_line-size.ensures in
    let is_read : c.text_behind_header-line_text.result.now
    ≡ read_at c.args.units.now c.header_size-header.result c.loop-mark.cursor c.first_line-size.result.0 =
    rw take_rest at c.text_behind_header-line_text.ensures in
    let no_mark : c.continued_at.result ≡ None = grind (arith, common_steps, c.in_default.is) in
    let continued : continued_at (read_at c.args.units.now c.header_size-header.result c.loop-mark.cursor c.first_line-size.result.0) c.first_line-size.result.1 ≡ None =
    ap (λ (t : List ℕ). continued_at t c.first_line-size.result.1) (sym is_read) ∙ sym c.continued_at.ensures.value ∙ no_mark in
    let is_whole : c.extend_from_slice.new.self.items
    ≡ c.loop-mark.text.items ++ read_at c.args.units.now c.header_size-header.result c.loop-mark.cursor c.first_line-size.result.0 =
    c.in_ok-extend_from_slice.ensures.items ∙ ap (λ (t : List ℕ). c.loop-mark.text.items ++ t) is_read in
    let is_line : line_view c.in_ok-logical_line.field-0
    ≡ lexed_line c.args.module_number c.args.units.now (record { first = c.loop-mark.first; text = c.extend_from_slice.new.self.items }) =
    c.in_ok-logical_line.ensures
    ∙ ap (λ (t : List ℕ). lexed_line c.args.module_number c.args.units.now (record { first = c.loop-mark.first; text = t })) c.as_slice.ensures.value in
    line_last c.args.module_number c.args.units.now c.header_size-header.result c.loop-mark.lines.items c.push.new.self.items c.in_ok-logical_line.field-0
    c.loop-mark.text.items c.extend_from_slice.new.self.items c.loop-mark.first c.loop-mark.cursor c.first_line-size.result.0
    c.first_line-size.result.1 c.loop-mark.invariant is_first (ap is_last c.in-FileEnd.is) continued is_whole is_line c.in_ok-push.ensures.items

pub returns-in-FileEnd-clause-inside : goal.returns-in-FileEnd-clause-inside
returns-in-FileEnd-clause-inside c =
    lies_in-lexed c.args.module_number c.args.units.now c.push.new.self.items (λ place. omega (arith, c.type_inv.units place)) (returns-in-FileEnd-clause-lines c)

pub returns-in-FileEnd-clause-count : goal.returns-in-FileEnd-clause-count
returns-in-FileEnd-clause-count c = token_count-lexed c.args.module_number c.args.units.now c.push.new.self.items (returns-in-FileEnd-clause-lines c)
