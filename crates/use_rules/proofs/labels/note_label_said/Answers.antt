use Rattle.std.proofs.Common.{map, sym, ap, ◌∙◌}
use Rattle.std.specs.Prelude.{flat_map}
use Rattle.declared_names.specs.binder.specs.Violations.{label_said}
use Rattle.said_parts.specs.View.{said_view}
use Rattle.use_rules.specs.Found.{noted}
use Rattle.use_rules.proofs.SaidFound.{arguments_labels}
use Rattle.use_rules.proofs.labels.note_label_said.Goals as goal
use Rattle.vba_expression.specs.View.{arguments_view}

pub returns-in-Arguments : goal.returns-in-Arguments
returns-in-Arguments c =
    ap (noted 18 c.args.least.now)
    (sym (ap (λ said. flat_map (label_said (map (λ l. l.now) c.args.labels.now)) (said_view said)) c.in-Arguments.is
    ∙ arguments_labels (map (λ l. l.now) c.args.labels.now) (arguments_view c.in-Arguments.field-0.now)))
