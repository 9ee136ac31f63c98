-- What opens a block, by its line.
use Rattle.std.proofs.Common.{◌≡◌, ℕ, refl, ◌∙◌, sym, ap}
use Rattle.std.specs.Prelude.{Option, Some, None}
use Rattle.vba_expression.specs.Tree.{Expr}
use Rattle.vba_tree.specs.Tree as tree
use Rattle.vba_tree.specs.Tree.{BlockLine}
use Rattle.vba_module.specs.Parts.{Part, statement}
use Rattle.bound_calls.specs.bound_forms.specs.StatementsBound.{line_of, with_object}
use Rattle.statement_nodes.specs.Loops.{line_each, each_at, line_object}

abbrev each_in : Option BlockLine → ℕ → Option ℕ
each_in None header = None
each_in (Some line) header = line_each line header

abbrev object_in : Option BlockLine → Option Expr
object_in None = None
object_in (Some line) = line_object line

each_by_line : (p : Part) (header : ℕ) → each_at p header ≡ each_in (line_of p) header
each_by_line (statement (tree.simple (tree.block_line (tree.for_each for_word each_word x in_word group)))) header = refl
each_by_line p header = refl

object_by_line : (p : Part) → with_object p ≡ object_in (line_of p)
object_by_line (statement (tree.simple (tree.block_line (tree.with_line with_word e)))) = refl
object_by_line p = refl

pub each_there : (p : Part) (line : BlockLine) (header : ℕ) (found : Option ℕ) → Some line ≡ line_of p → found ≡ line_each line header → found ≡ each_at p header
each_there p line header found is found_is = found_is ∙ (ap (λ (o : Option BlockLine). each_in o header) is ∙ sym (each_by_line p header))

pub no_each : (p : Part) (header : ℕ) → None ≡ line_of p → None ≡ each_at p header
no_each p header is = ap (λ (o : Option BlockLine). each_in o header) is ∙ sym (each_by_line p header)

pub object_there : (p : Part) (line : BlockLine) (found : Option Expr) → Some line ≡ line_of p → found ≡ line_object line → found ≡ with_object p
object_there p line found is found_is = found_is ∙ (ap object_in is ∙ sym (object_by_line p))

pub no_object : (p : Part) → None ≡ line_of p → None ≡ with_object p
no_object p is = ap object_in is ∙ sym (object_by_line p)
