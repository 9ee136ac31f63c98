use Rattle.std.proofs.Common.{◌≡◌, ◌++◌, length, map}
use Rattle.vba_words.specs.declared.mark.Mark.TheVariants.{Comma}
use Rattle.vba_tree.specs.Spelling.{tokens_of, spell_others, spell_variable}
use Rattle.vba_tree.specs.View.{variable_view}
use Rattle.vba_tree.proofs.declaration_tokens.push_other_variables.Given as goal

abbrev pub invariant-loop-others : goal.invariant-loop-others
invariant-loop-others l =
    l.tokens.items ++ tokens_of (spell_others spell_variable Comma (map (λ next. (next.mark, variable_view next.item)) l.others))
    ≡ l.fn.tokens.items ++ tokens_of (spell_others spell_variable Comma (map (λ next. (next.mark, variable_view next.item)) l.fn.others))

abbrev pub decreases-loop-others : goal.decreases-loop-others
decreases-loop-others l = length l.others
