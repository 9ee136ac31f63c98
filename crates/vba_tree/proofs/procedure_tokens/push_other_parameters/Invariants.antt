use Rattle.std.proofs.Common.{◌≡◌, ◌++◌, length, map}
use Rattle.vba_words.specs.declared.mark.Mark.TheVariants.{Comma}
use Rattle.vba_tree.specs.Spelling.{tokens_of, spell_others, spell_parameter}
use Rattle.vba_tree.specs.View.{parameter_view}
use Rattle.vba_tree.proofs.procedure_tokens.push_other_parameters.Given as goal

abbrev pub invariant-loop-others : goal.invariant-loop-others
invariant-loop-others l =
    l.tokens.items ++ tokens_of (spell_others spell_parameter Comma (map (λ next. (next.mark, parameter_view next.item)) l.others))
    ≡ l.fn.tokens.items ++ tokens_of (spell_others spell_parameter Comma (map (λ next. (next.mark, parameter_view next.item)) l.fn.others))

abbrev pub decreases-loop-others : goal.decreases-loop-others
decreases-loop-others l = length l.others
