use Rattle.std.proofs.Common.{◌≡◌, map, ap, ◌∙◌}
use Rattle.vba_values.specs.Val.{object}
use Rattle.vba_values.specs.View.{view}
use Rattle.bound_project.specs.View.{declarations_view, parameter_view}
use Rattle.vba_meaning.specs.Effects.{slot_values}
use Rattle.bound_project.specs.Parameters.{parameters_of, without_last}
use Rattle.run_memory.specs.View.{memory_view, slot_view}
use Rattle.run_defaults.proofs.Going.{act_refused, act_then, use_same}
use Rattle.run_defaults.proofs.Passing.{put_with}
use Rattle.run_defaults.proofs.letting.let_put.Goals as goal

pub returns-in_err-arguments : goal.returns-in_err-arguments
returns-in_err-arguments c =
    use_same _ _ _ _ _ _ _
    (put_with (declarations_view c.args.declared.now) (view c.args.value) (slot_values (map slot_view c.args.arguments.items)) (object c.args.me) c.args.procedure (memory_view c.args.memory.now)
    (map parameter_view c.without_last-parameters.result.now) (c.without_last-parameters.ensures ∙ ap (λ qs. without_last qs) c.parameters_of.ensures))
    (act_refused _ _ _ _ _ _ _ c.from_residual.ensures.1 c.in_err-arguments.ensures)

pub returns : goal.returns
returns c =
    use_same _ _ _ _ _ _ _
    (put_with (declarations_view c.args.declared.now) (view c.args.value) (slot_values (map slot_view c.args.arguments.items)) (object c.args.me) c.args.procedure (memory_view c.args.memory.now)
    (map parameter_view c.without_last-parameters.result.now) (c.without_last-parameters.ensures ∙ ap (λ qs. without_last qs) c.parameters_of.ensures))
    (act_then _ _ _ _ _ _ _ _ _ c.in_ok-arguments.ensures (rw c.of_let-spot.ensures at c.put.ensures))
