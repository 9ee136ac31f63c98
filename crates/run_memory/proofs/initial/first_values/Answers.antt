use Rattle.std.proofs.Common.{length, map, ap, ◌∙◌}
use Rattle.arrays_udt.specs.Fresh.{field_by, udt_within}
use Rattle.bound_project.specs.Project.{field_of, types_of}
use Rattle.bound_project.specs.View.{declaration_view, declarations_view}
use Rattle.run_memory.proofs.FirstValues.{composed}
use Rattle.run_memory.proofs.initial.first_values.Goals as goal

pub returns : goal.returns
returns c =
    let types = types_of (declarations_view c.args.declared.now) in
    let variables = map declaration_view c.args.variables.now in
    c.in_ok-values.ensures
    ∙ ap (λ n. map (field_by (udt_within n types)) (map field_of variables)) c.type_count.ensures
    ∙ composed (field_by (udt_within (length types) types)) field_of variables
