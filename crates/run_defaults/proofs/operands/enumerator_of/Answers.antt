use Rattle.vba_values.specs.View.{view}
use Rattle.bound_project.specs.View.{declarations_view}
use Rattle.run_memory.specs.View.{memory_view}
use Rattle.run_defaults.proofs.Going.{use_acts, use_refused}
use Rattle.run_defaults.proofs.Passing.{enumerated_object}
use Rattle.run_defaults.proofs.operands.enumerator_of.Goals as goal

pub returns-in_err-next : goal.returns-in_err-next
returns-in_err-next c =
    rw (enumerated_object (declarations_view c.args.declared.now) (view c.args.value) c.in-Some.me (memory_view c.args.memory.now) c.in-Some.ensures.there c.in-Some.ensures.whether)
    (use_refused _ _ _ _ _ _ _ _ c.from_residual.ensures.1 c.in_err-next.ensures)

pub returns : goal.returns
returns c =
    rw (enumerated_object (declarations_view c.args.declared.now) (view c.args.value) c.in-Some.me (memory_view c.args.memory.now) c.in-Some.ensures.there c.in-Some.ensures.whether)
    (use_acts _ _ _ _ _ _ _ _ _ c.in_ok-next.ensures c.walked.ensures)
