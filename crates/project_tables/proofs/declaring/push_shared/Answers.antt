use Rattle.std.proofs.Common.{List, [], ◌++◌, map, ap, ◌∙◌, if◌then◌else◌, append_assoc}
use Rattle.bound_project.specs.Project.{Declaration}
use Rattle.bound_project.specs.View.{declaration_view}
use Rattle.bound_declarations.specs.constant_values.specs.declared_names.specs.binder.specs.Storage.{module_declarations}
use Rattle.project_tables.specs.Rows.{row_view}
use Rattle.project_tables.specs.Steps.{module_scope, statics_in}
use Rattle.project_tables.proofs.Shared.{shared_is}
use Rattle.project_tables.proofs.declaring.push_shared.Goals as goal

pub push_variables-requires-clause-placed : goal.push_variables-requires-clause-placed
push_variables-requires-clause-placed c = c.requires.placed

pub push_variables-requires-clause-values : goal.push_variables-requires-clause-values
push_variables-requires-clause-values c = c.requires.values

pub returns : goal.returns
returns c =
    let s = module_scope c.args.spaces.now c.args.space.now in
    let old : List Declaration = map declaration_view c.args.shared.now.items in
    let own : List Declaration = (if s.here.source.is_class then [] else module_declarations s s.here.entries) in
    let statics : List Declaration = statics_in s (map row_view c.args.rows.now) in
    c.in_ok-push_statics.ensures
    ∙ (ap (λ (xs : List Declaration). xs ++ statics) c.in_ok-push_variables.ensures
    ∙ (append_assoc old own statics
    ∙ ap (λ (xs : List Declaration). old ++ (own ++ xs)) (shared_is s c.args.rows.now c.requires.rows_are)))
