use Rattle.bound_project.specs.DraftView.{draft_view}
use Rattle.bound_members.specs.bound_calls.specs.Shapes.{shapes_given}
use Rattle.bound_members.specs.bound_calls.specs.Standing.{member_is}
use Rattle.statement_terms.proofs.WrittenMembers.{rule_refused, rule_taken, some_shapes}
use Rattle.statement_terms.proofs.member_targets.given_rule.Goals as goal

pub returns-then-takes : goal.returns-then-takes
returns-then-takes c =
    let t = (draft_view c.args.draft.now).tables in
    let ss = c.args.shapes.now in
    rule_taken (member_is t c.args.member) (shapes_given ss) c.in_ok-takes.takes c.taken_rule.result (some_shapes ss c.requires) c.in_ok-takes.ensures c.if-takes.true c.taken_rule.ensures

pub returns : goal.returns
returns c =
    let t = (draft_view c.args.draft.now).tables in
    let ss = c.args.shapes.now in
    rule_refused (member_is t c.args.member) (shapes_given ss) c.in_ok-takes.takes c.arguments_rule.result (some_shapes ss c.requires) c.in_ok-takes.ensures c.if-takes.false (c.arguments_rule.ensures t)
