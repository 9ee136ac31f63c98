use Rattle.std.proofs.Common.{List, subst, ap, ◌∙◌}
use Rattle.std.specs.Prelude.{IfOk, slice_index_or}
use Rattle.bound_project.specs.Project.{Declaration, UserType}
use Rattle.bound_names.specs.bound_members.specs.bound_calls.specs.bound_forms.specs.Members.{no_type}
use Rattle.binder.specs.Scopes.{first_at}
use Rattle.bound_accesses.specs.Fields.{FieldIs, is_field_named}
use Rattle.bound_accesses.proofs.Fielding.{types_are}
use Rattle.bound_accesses.proofs.fields.field_named.Goals as goal

pub returns : goal.returns
returns c =
    let P : List Declaration → Type 0 = λ (l : List Declaration). IfOk c.field_at.result (λ found. FieldIs (first_at (is_field_named c.args.name.now) 0 l) found) in
    subst P
    (c.fields_at.ensures ∙ ap (λ (ts : List UserType). (slice_index_or ts c.args.number no_type).fields) (types_are c.args.env.constants.scope c.args.env.declared.now c.requires.declared)) c.field_at.ensures
