use Rattle.std.proofs.Common.{◌≡◌, ◌++◌, length, map}
use Rattle.vba_words.specs.declared.mark.Mark.TheVariants.{Comma}
use Rattle.vba_tree.specs.Spelling.{tokens_of, spell_others, spell_dim}
use Rattle.vba_tree.specs.View.{dim_view}
use Rattle.vba_tree.proofs.declaration_tokens.push_other_dims.Given as goal

abbrev pub invariant-loop-others : goal.invariant-loop-others
invariant-loop-others l =
    l.tokens.items ++ tokens_of (spell_others spell_dim Comma (map (λ next. (next.mark, dim_view next.item)) l.others))
    ≡ l.fn.tokens.items ++ tokens_of (spell_others spell_dim Comma (map (λ next. (next.mark, dim_view next.item)) l.fn.others))

abbrev pub decreases-loop-others : goal.decreases-loop-others
decreases-loop-others l = length l.others
