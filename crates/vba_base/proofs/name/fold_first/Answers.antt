-- The fold goes on after a unit of ASCII.
use Rattle.std.proofs.Common.{[], ◌∷◌, ◌++◌, ap, ◌∙◌}
use Rattle.vba_base.proofs.Folds.{after_ascii}
use Rattle.vba_base.proofs.name.fold_first.Goals as goal

pub returns-then-text-lt128-clause-folds : goal.returns-then-text-lt128-clause-folds
returns-then-text-lt128-clause-folds c =
    after_ascii c.args.text.now c.args.units.now c.push.new.self c.requires c.if-text-lt128.true
    (c.in_ok-push.ensures.ok ∙ ap (λ unit. c.args.units.now ++ unit ∷ []) c.lowered.ensures)
