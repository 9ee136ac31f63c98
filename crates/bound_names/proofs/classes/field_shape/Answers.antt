use Rattle.std.proofs.Common.{sym, ◌∙◌}
use Rattle.std.proofs.lemmas.Option.{slice_get-map}
use Rattle.bound_project.specs.View.{class_view, declaration_view}
use Rattle.bound_members.specs.bound_calls.specs.bound_declarations.specs.constant_values.specs.declared_names.specs.View.{entry_view, space_view}
use Rattle.vba_tree.specs.View.{variable_view}
use Rattle.bound_names.proofs.Objects.{field_is}
use Rattle.bound_names.proofs.classes.field_shape.Goals as goal

pub returns-clause-shape : goal.returns-clause-shape
returns-clause-shape c =
    let there = c.requires.there in
    field_is c.args.env.constants.scope c.args.env.declared.now (space_view c.args.space.now) c.args.number (entry_view c.args.entry) (variable_view c.args.variable.now) c.in_ok-class_number.class_number c.in_ok-field.field
    (class_view c.in-Some.class.now) (declaration_view c.in-Some-declaration_at.declaration.now) c.in_ok-shape.shape c.requires.env.placed.numbered c.requires.env.declared there.0 there.1 c.requires.class c.requires.what
    c.in_ok-class_number.ensures c.in_ok-field.ensures c.in-Some.ensures.found
    (c.in-Some-declaration_at.ensures ∙ sym (slice_get-map declaration_view c.in-Some.class.now.fields.items c.in_ok-field.field)) c.in_ok-shape.ensures
