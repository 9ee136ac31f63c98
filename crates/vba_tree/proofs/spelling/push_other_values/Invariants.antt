use Rattle.std.proofs.Common.{◌≡◌, ◌++◌, length, map}
use Rattle.vba_words.specs.declared.mark.Mark.TheVariants.{Comma}
use Rattle.vba_tree.specs.Spelling.{tokens_of, spell_others, spell_attribute_value}
use Rattle.vba_tree.proofs.spelling.push_other_values.Given as goal

abbrev pub invariant-loop-others : goal.invariant-loop-others
invariant-loop-others l =
    l.tokens.items ++ tokens_of (spell_others spell_attribute_value Comma (map (λ next. (next.mark, next.item)) l.others))
    ≡ l.fn.tokens.items ++ tokens_of (spell_others spell_attribute_value Comma (map (λ next. (next.mark, next.item)) l.fn.others))

abbrev pub decreases-loop-others : goal.decreases-loop-others
decreases-loop-others l = length l.others
