use Rattle.std.proofs.Common.{sym, ◌∙◌}
use Rattle.bound_project.specs.DraftView.{draft_view}
use Rattle.statement_terms.proofs.SetTargets.{sets_no_place}
use Rattle.statement_terms.proofs.setting.set_place.Goals as goal

pub set_reference-requires-clause-object : goal.set_reference-requires-clause-object
set_reference-requires-clause-object c = sym c.may_be_object.ensures ∙ c.if-may_be_object.true

pub returns-then-may_be_object : goal.returns-then-may_be_object
returns-then-may_be_object c = λ bounds lends makes. c.in_ok-set_reference.ensures c.args.set_word bounds lends makes

pub returns : goal.returns
returns c =
    sets_no_place c.args.set_word c.args.at.kind c.args.at.of c.args.place (draft_view c.args.draft.now) (draft_view c.push_node.new.draft) (draft_view c.push_node-2.new.draft) (draft_view c.push_broken.new.draft)
    (sym c.may_be_object.ensures ∙ c.if-may_be_object.false) c.in_ok-push_node.ensures c.in_ok-push_node-2.ensures c.in_ok-push_broken.ensures
