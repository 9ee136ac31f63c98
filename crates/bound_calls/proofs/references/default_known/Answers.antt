use Rattle.std.proofs.Common.{sym}
use Rattle.bound_project.specs.View.{declarations_view}
use Rattle.bound_calls.proofs.Referring.{class_default, other_default}
use Rattle.bound_calls.proofs.references.default_known.Goals as goal

pub returns-in-Some : goal.returns-in-Some
returns-in-Some c =
    class_default (declarations_view c.args.declared.now) c.args.ending c.in-Some.class c.default_read.result (sym c.in-Some.ensures) c.default_read.ensures

pub returns-in_ok-rule-in-None : goal.returns-in_ok-rule-in-None
returns-in_ok-rule-in-None c =
    other_default (declarations_view c.args.declared.now) c.args.ending c.in_ok-rule-in-None.rule c.known_by.result (sym c.in-None.ensures) c.in_ok-rule-in-None.ensures c.known_by.ensures
