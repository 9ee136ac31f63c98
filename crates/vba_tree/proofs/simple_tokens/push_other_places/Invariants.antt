use Rattle.std.proofs.Common.{◌≡◌, ◌++◌, length, map}
use Rattle.vba_words.specs.declared.mark.Mark.TheVariants.{Comma}
use Rattle.vba_tree.specs.Spelling.{tokens_of, spell_others}
use Rattle.vba_expression.specs.Spelling.{spell as spell_expression}
use Rattle.vba_expression.specs.View.{view as expression_view}
use Rattle.vba_tree.proofs.simple_tokens.push_other_places.Given as goal

abbrev pub invariant-loop-others : goal.invariant-loop-others
invariant-loop-others l =
    l.tokens.items ++ tokens_of (spell_others spell_expression Comma (map (λ next. (next.mark, expression_view next.item)) l.others))
    ≡ l.fn.tokens.items ++ tokens_of (spell_others spell_expression Comma (map (λ next. (next.mark, expression_view next.item)) l.fn.others))

abbrev pub decreases-loop-others : goal.decreases-loop-others
decreases-loop-others l = length l.others
