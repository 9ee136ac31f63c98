use Rattle.std.proofs.Common.{sym}
use Rattle.vba_tree.specs.Tree.{procedure_header}
use Rattle.vba_grammar.specs.Front.{is_as, is_left, name_at, part_if}
use Rattle.vba_grammar.specs.Clauses.{parameters_at, result_type_at}
use Rattle.vba_parser.proofs.Chains.{third_missing, third_found}
use Rattle.vba_parser.proofs.headings.read_allowed_procedure.Goals as goal

pub returns-in_default-3 : goal.returns-in_default-3
returns-in_default-3 c =
    third_missing (name_at c.args.tokens.now) (part_if is_left parameters_at) (part_if is_as result_type_at)
    (procedure_header c.args.access c.args.static_word c.args.words) _ _ _ _
    (sym (rw c.in-Some.is at c.in_ok-name.ensures)) (sym (rw c.in-Some-2.is at c.in_ok-parameters.ensures))
    (sym (rw c.in_default-3.is at c.in_ok-result_type.ensures))

pub returns : goal.returns
returns c =
    third_found (name_at c.args.tokens.now) (part_if is_left parameters_at) (part_if is_as result_type_at)
    (procedure_header c.args.access c.args.static_word c.args.words) _ _ _ _ _
    (sym (rw c.in-Some.is at c.in_ok-name.ensures)) (sym (rw c.in-Some-2.is at c.in_ok-parameters.ensures))
    (sym (rw c.in-Some-3.is at c.in_ok-result_type.ensures))
