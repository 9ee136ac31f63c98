use Rattle.std.proofs.Common.{None, ap, ◌∙◌}
use Rattle.vba_lexer.specs.Lexed.{lines_view}
use Rattle.refusal_order.specs.Least.{least_of}
use Rattle.vba_module.specs.Verdict.{part_violations}
use Rattle.module_parts.specs.View.{parts_view}
use Rattle.module_parser.specs.Parsed.{read_lexed}
use Rattle.module_parser.proofs.Parses.{no_block_faults, verdict_found}
use Rattle.module_parser.proofs.parse.read_module.Goals as goal

-- what is found is the verdict
pub returns-in-Some-clause-refused : goal.returns-in-Some-clause-refused
returns-in-Some-clause-refused c =
    verdict_found c.args.is_class (read_lexed c.args.source.now (lines_view c.args.lines.now)) (parts_view c.in_ok-parts.parts.items) c.in_ok-parts.unread c.in_ok-broken.broken c.lesser_of.result
    c.in_ok-parts.ensures.parts c.in_ok-parts.ensures.least
    (c.in_ok-broken.ensures ∙ ap (λ parts. least_of None (part_violations c.args.is_class (parts_view parts))) c.as_slice.ensures.value)
    c.lesser_of.ensures
    ∙ c.in-Some.is

pub returns-in-None-clause-unbroken : goal.returns-in-None-clause-unbroken
returns-in-None-clause-unbroken c =
    verdict_found c.args.is_class (read_lexed c.args.source.now (lines_view c.args.lines.now)) (parts_view c.in_ok-parts.parts.items) c.in_ok-parts.unread c.in_ok-broken.broken c.lesser_of.result
    c.in_ok-parts.ensures.parts c.in_ok-parts.ensures.least
    (c.in_ok-broken.ensures ∙ ap (λ parts. least_of None (part_violations c.args.is_class (parts_view parts))) c.as_slice.ensures.value)
    c.lesser_of.ensures
    ∙ c.in-None.is

-- nothing is found, so no block is unmatched
pub returns-in-None-clause-matched : goal.returns-in-None-clause-matched
returns-in-None-clause-matched c =
    no_block_faults c.args.is_class (parts_view c.in_ok-parts.parts.items) c.in_ok-parts.unread c.in_ok-broken.broken c.lesser_of.result
    (c.in_ok-broken.ensures ∙ ap (λ parts. least_of None (part_violations c.args.is_class (parts_view parts))) c.as_slice.ensures.value)
    c.lesser_of.ensures c.in-None.is
