use Rattle.std.proofs.Common.{sym}
use Rattle.vba_tree.specs.Tree.{type_member}
use Rattle.vba_grammar.specs.Front.{is_left, part_if}
use Rattle.vba_grammar.specs.Clauses.{dims_at, type_clause_at}
use Rattle.vba_parser.proofs.Chains.{last_missing, last_found}
use Rattle.vba_parser.proofs.member.read_named_member.Goals as goal

pub returns-in_default-2 : goal.returns-in_default-2
returns-in_default-2 c =
    last_missing (part_if is_left dims_at c.args.tokens.now) type_clause_at (type_member c.args.name) _ _
    (sym (rw c.in-Some.is at c.in_ok-dims.ensures)) (sym (rw c.in_default-2.is at c.in_ok-type_clause.ensures))

pub returns : goal.returns
returns c =
    last_found (part_if is_left dims_at c.args.tokens.now) type_clause_at (type_member c.args.name) _ _ _
    (sym (rw c.in-Some.is at c.in_ok-dims.ensures)) (sym (rw c.in-Some-2.is at c.in_ok-type_clause.ensures))
