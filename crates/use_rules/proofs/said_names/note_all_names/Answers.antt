use Rattle.std.proofs.Common.{ap, ◌∙◌}
use Rattle.declared_names.specs.View.{scope_view}
use Rattle.said_parts.specs.View.{said_view}
use Rattle.use_rules.specs.Asked.{rule_of, said_faults}
use Rattle.use_rules.specs.Found.{noted}
use Rattle.use_rules.proofs.AskedRules.{rules_asked}
use Rattle.use_rules.proofs.SaidMore.{said_noted}
use Rattle.use_rules.proofs.said_names.note_all_names.Goals as goal

pub loop-one-preserved : goal.loop-one-preserved
loop-one-preserved c =
    let rule = rule_of c.args.question in
    said_noted rule (said_faults (scope_view c.args.scope) c.args.question) c.loop-one.least c.note_names_said.new.least _ c.one-item.result c.args.said.now c.loop-one.one-index
    c.loop-one-test.true c.one-item.is
    (c.in_ok-note_names_said.ensures ∙ ap (noted rule c.loop-one.least) (rules_asked (scope_view c.args.scope) c.args.question (said_view c.one-item.result)))
    c.loop-one.invariant
