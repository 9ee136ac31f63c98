use Rattle.std.proofs.Common.{◌∙◌, map}
use Rattle.bound_declarations.specs.constant_values.specs.declared_names.specs.View.{space_view}
use Rattle.project_tables.specs.Signed.{signed_view}
use Rattle.project_tables.proofs.Found.{parameters_are}
use Rattle.project_tables.proofs.signing.Signatures.parameters.Goals as goal

pub returns : goal.returns
returns c = λ e w there at what.
    c.parameters_at.ensures
    ∙ parameters_are c.args.self.now c.args.scope (space_view c.args.space.now) c.args.number (map signed_view c.of_module.result.now)
    c.requires c.of_module.ensures e w there at what
