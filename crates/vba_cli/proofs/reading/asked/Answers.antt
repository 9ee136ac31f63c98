use Rattle.std.proofs.Common.{map, subst, sym, ap, ◌∙◌}
use Rattle.std.specs.Prelude.{None, option_map}
use Rattle.bound_forms.specs.Bind.{not_built, project_of}
use Rattle.constant_values.specs.declared_names.specs.binder.specs.Options.{or_else}
use Rattle.constant_values.specs.declared_names.specs.Outside.{the_outside}
use Rattle.constant_values.specs.declared_names.specs.View.{space_view}
use Rattle.list_file.specs.View.{start_view}
use Rattle.vba_cli.specs.Program.{begins_at, first_of_two, judged_by}
use Rattle.vba_cli.specs.Programs.{IsProgram}
use Rattle.vba_cli.proofs.Bound.{modules_asked}
use Rattle.vba_cli.proofs.reading.asked.Goals as goal

pub returns : goal.returns
returns c = λ ms e.
    let start = option_map (λ s. start_view s.now) c.args.modules.start in
    subst (λ r. IsProgram (λ told. judged_by None ms (or_else told (not_built the_outside ms)) (project_of the_outside ms (begins_at start ms))) r) (sym c.unless_refused.ensures)
    (modules_asked start ms (map space_view c.args.modules.spaces.now) c.in_ok-fault.fault c.first_of_two-first.result c.in_ok-bound.bound e c.in_ok-fault.ensures
    (c.first_of_two-first.ensures ∙ ap (first_of_two c.in_ok-fault.fault) c.rule_in.ensures) (c.in_ok-bound.ensures.bound ms e))
