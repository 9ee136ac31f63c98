use Rattle.std.proofs.Common.{option_map, sym, ◌∙◌, ap}
use Rattle.declared_names.specs.View.{scope_view, type_meant_view}
use Rattle.declared_names.proofs.Walks.{type_in_modules_finds, type_in_modules_skips}
use Rattle.declared_names.proofs.types.type_in_modules.Goals as goal

pub returns-in-Some : goal.returns-in-Some
returns-in-Some c =
    type_in_modules_finds (scope_view c.args.scope) _ _ c.space-item.result _ _ _ c.loop-space-test.true c.space-item.is
    (ap (λ found. option_map type_meant_view found) (sym c.in-Some.is) ∙ c.in_ok-meant.ensures) c.loop-space.invariant

pub loop-space-preserved : goal.loop-space-preserved
loop-space-preserved c =
    type_in_modules_skips (scope_view c.args.scope) _ _ c.space-item.result _ _ c.loop-space-test.true c.space-item.is
    (ap (λ found. option_map type_meant_view found) (sym c.in-None.is) ∙ c.in_ok-meant.ensures) c.loop-space.invariant
