use Rattle.std.proofs.Common.{ap}
use Rattle.bound_project.specs.View.{declarations_view}
use Rattle.run_memory.specs.View.{memory_view}
use Rattle.run_objects.proofs.Objects.{made_is}
use Rattle.run_objects.proofs.instances.made.Goals as goal

pub returns : goal.returns
returns c =
    let m = memory_view c.args.memory.now in
    made_is (declarations_view c.args.declared.now) c.args.class _ _ m _ (memory_view c.hold_object.new.memory)
    c.in_ok-object.ensures c.in_ok-number.ensures.number (ap (λ bs. record m { objects = bs }) c.in_ok-number.ensures.added) c.in_ok-hold_object.ensures
