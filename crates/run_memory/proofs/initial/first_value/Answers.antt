use Rattle.std.proofs.Common.{ap, ◌∙◌}
use Rattle.arrays_udt.specs.Fresh.{field_by, udt_within}
use Rattle.bound_project.specs.Project.{field_of, types_of}
use Rattle.bound_project.specs.View.{declaration_view, declarations_view}
use Rattle.run_memory.proofs.initial.first_value.Goals as goal

pub returns : goal.returns
returns c =
    c.in_ok-value.ensures
    ∙ ap (λ n. field_by (udt_within n (types_of (declarations_view c.args.declared.now))) (field_of (declaration_view c.args.variable.now))) c.type_count.ensures
