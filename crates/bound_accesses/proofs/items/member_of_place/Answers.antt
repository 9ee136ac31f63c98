use Rattle.std.proofs.Common.{sym, ap, ◌∙◌}
use Rattle.std.specs.Prelude.{option_map}
use Rattle.std.proofs.lemmas.Result.{IfOk-weaker}
use Rattle.bound_project.specs.DraftView.{draft_view}
use Rattle.bound_names.specs.bound_members.specs.Kinds.{kind_view}
use Rattle.bound_accesses.proofs.ItemTerms.{of_other_place, of_place}
use Rattle.bound_accesses.proofs.items.member_of_place.Goals as goal

pub returns-in-Some : goal.returns-in-Some
returns-in-Some c =
    IfOk-weaker c.find_member.result _ _
    (λ found h. of_place c.args.place c.args.at c.args.makes c.read_kind.result c.args.name c.in-Some.kind (draft_view c.args.draft.now) (draft_view c.push_node.new.draft) (draft_view c.push_node-2.new.draft) (draft_view c.find_member.new.draft) found
    c.read_kind.ensures (sym c.kind_of_type.ensures ∙ ap (λ o. option_map kind_view o) c.in-Some.is) c.in_ok-push_node.ensures c.in_ok-push_node-2.ensures h) c.find_member.ensures

pub returns-in-None : goal.returns-in-None
returns-in-None c =
    IfOk-weaker c.behind_other_place.result _ _
    (λ found l. of_other_place c.args.place c.args.at c.args.makes c.read_kind.result c.args.name (draft_view c.args.draft.now) (draft_view c.push_node.new.draft) (draft_view c.push_node-2.new.draft) found
    c.read_kind.ensures (sym c.kind_of_type.ensures ∙ ap (λ o. option_map kind_view o) c.in-None.is) l c.in_ok-push_node.ensures c.in_ok-push_node-2.ensures) c.behind_other_place.ensures
