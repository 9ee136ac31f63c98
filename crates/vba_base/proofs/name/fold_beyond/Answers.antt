-- The fold goes on after a pair of surrogates, and otherwise after one unit.
use Rattle.std.proofs.Common.{ap, ◌++◌, ◌∙◌}
use Rattle.vba_base.specs.Fold.{folded_char}
use Rattle.vba_base.proofs.Folds.{after_pair, after_lone, some_where, none_where}
use Rattle.vba_base.proofs.name.fold_beyond.Goals as goal

pub returns-in-Some-clause-folds : goal.returns-in-Some-clause-folds
returns-in-Some-clause-folds c =
    let is = some_where _ _ _ c.in-Some.ensures.character in
    after_pair c.args.text.now c.args.units.now c.fold_character.new.units c.in-Some.ensures.long is.0
    (c.in_ok-fold_character.ensures ∙ ap (λ character. c.args.units.now ++ folded_char character) is.1)

pub returns-clause-folds : goal.returns-clause-folds
returns-clause-folds c =
    after_lone c.args.text.now c.args.units.now c.fold_unit.new.units c.requires (none_where _ _ c.in_default.ensures.character) c.in_ok-fold_unit.ensures
