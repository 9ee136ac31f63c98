use Rattle.std.proofs.lemmas.Result.{IfOk-weaker}
use Rattle.bound_project.specs.DraftView.{draft_view}
use Rattle.bound_accesses.proofs.ItemTerms.{of_other_value, of_value}
use Rattle.bound_accesses.proofs.items.member_of_value.Goals as goal

pub returns-in-Some : goal.returns-in-Some
returns-in-Some c =
    IfOk-weaker c.find_member.result _ _
    (λ found h. of_value c.args.place c.args.ending c.args.name c.in-Some.kind (draft_view c.args.draft.now) (draft_view c.push_node.new.draft) (draft_view c.find_member.new.draft) found c.in-Some.ensures c.in_ok-push_node.ensures h)
    c.find_member.ensures

pub returns-in-None : goal.returns-in-None
returns-in-None c =
    IfOk-weaker c.behind_other_value.result _ _
    (λ found l. of_other_value c.args.place c.args.ending c.args.name (draft_view c.args.draft.now) (draft_view c.push_node.new.draft) found l c.in_ok-push_node.ensures) c.behind_other_value.ensures
