use Rattle.std.proofs.Common.{◌-◌, map, sym, ap, ◌∙◌}
use Rattle.vba_values.specs.Val.{udt, vals_of}
use Rattle.arrays_udt.specs.Fresh.{field_by, udt_within}
use Rattle.arrays_udt.proofs.Inner.{view_udt_of}
use Rattle.arrays_udt.proofs.Nested.{udt_inside}
use Rattle.bound_project.specs.Project.{types_of}
use Rattle.bound_project.specs.View.{declarations_view}
use Rattle.run_memory.proofs.initial.+initial.Goals as goal

pub udt_value-returns : goal.udt_value-returns
udt_value-returns t c =
    let types = types_of (declarations_view c.args.declared.now) in
    view_udt_of _
    ∙ ap (λ vs. udt c.args.number (vals_of vs)) (c.in_ok-fields.ensures ∙ ap (map (field_by (udt_within (c.args.depth - 1) types))) c.fields_of.ensures)
    ∙ sym (udt_inside c.args.depth types c.args.number c.requires)
