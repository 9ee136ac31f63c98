use Rattle.declared_names.specs.View.{use_view}
use Rattle.declared_names.proofs.Walks.{in_modules_finds, in_modules_skips}
use Rattle.declared_names.proofs.lookup.in_modules.Goals as goal

pub returns-in-Some : goal.returns-in-Some
returns-in-Some c =
    in_modules_finds (use_view c.args.how) _ _ c.space-item.result _ _ _ c.loop-space-test.true c.space-item.is c.in-Some.ensures c.loop-space.invariant

pub loop-space-preserved : goal.loop-space-preserved
loop-space-preserved c =
    in_modules_skips (use_view c.args.how) _ _ c.space-item.result _ _ c.loop-space-test.true c.space-item.is c.in-None.ensures c.loop-space.invariant
