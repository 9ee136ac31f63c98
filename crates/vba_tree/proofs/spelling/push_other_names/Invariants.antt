use Rattle.std.proofs.Common.{◌≡◌, [], ◌∷◌, ◌++◌, length, map}
use Rattle.vba_words.specs.declared.mark.Mark.TheVariants.{Dot}
use Rattle.vba_words.specs.Spelling.{naming}
use Rattle.vba_tree.specs.Spelling.{tokens_of, spell_others}
use Rattle.vba_tree.proofs.spelling.push_other_names.Given as goal

abbrev pub invariant-loop-others : goal.invariant-loop-others
invariant-loop-others l =
    l.tokens.items ++ tokens_of (spell_others (λ name. naming name ∷ []) Dot (map (λ next. (next.mark, next.item)) l.others))
    ≡ l.fn.tokens.items ++ tokens_of (spell_others (λ name. naming name ∷ []) Dot (map (λ next. (next.mark, next.item)) l.fn.others))

abbrev pub decreases-loop-others : goal.decreases-loop-others
decreases-loop-others l = length l.others
