use Rattle.std.proofs.Common.{ap, ◌∙◌}
use Rattle.constant_values.specs.declared_names.specs.binder.specs.LeftOut.{procedure_left_out}
use Rattle.constant_values.specs.declared_names.specs.binder.specs.Scopes.{Scope}
use Rattle.constant_values.specs.declared_names.specs.View.{written_view}
use Rattle.use_rules.specs.Found.{noted}
use Rattle.name_rules.proofs.left_out.note_procedure.Goals as goal

pub returns : goal.returns
returns c =
    c.in_ok-note_inside.ensures
    ∙ ap (λ (s : Scope). noted 23 c.args.least.now (procedure_left_out s (written_view c.args.written))) c.scope_inside-inner.ensures
