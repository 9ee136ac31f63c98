use Rattle.std.proofs.Common.{sym}
use Rattle.vba_tree.specs.Tree.{event_line}
use Rattle.vba_grammar.specs.Front.{is_left, name_at, part_if}
use Rattle.vba_grammar.specs.Clauses.{parameters_at}
use Rattle.vba_parser.proofs.Chains.{last_missing, last_found}
use Rattle.vba_parser.proofs.headings.read_allowed_event.Goals as goal

pub returns-in_default-2 : goal.returns-in_default-2
returns-in_default-2 c =
    last_missing (name_at c.args.tokens.now) (part_if is_left parameters_at) (event_line c.args.access c.args.event_word) _ _
    (sym (rw c.in-Some.is at c.in_ok-name.ensures)) (sym (rw c.in_default-2.is at c.in_ok-parameters.ensures))

pub returns : goal.returns
returns c =
    last_found (name_at c.args.tokens.now) (part_if is_left parameters_at) (event_line c.args.access c.args.event_word) _ _ _
    (sym (rw c.in-Some.is at c.in_ok-name.ensures)) (sym (rw c.in-Some-2.is at c.in_ok-parameters.ensures))
