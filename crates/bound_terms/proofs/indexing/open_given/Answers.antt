use Rattle.std.proofs.lemmas.Result.{IfOk-weaker}
use Rattle.bound_project.specs.DraftView.{draft_view}
use Rattle.bound_accesses.specs.bound_names.specs.View.{env_view}
use Rattle.bound_accesses.specs.bound_names.specs.bound_members.specs.bound_calls.specs.declared.term.Term.TheVariants as term
use Rattle.bound_terms.proofs.Beginnings.{opens_item}
use Rattle.bound_terms.proofs.indexing.open_given.Goals as goal

pub open_item-requires : goal.open_item-requires
open_item-requires c = c.in_ok-member.ensures.named

pub returns-then-takes_item : goal.returns-then-takes_item
returns-then-takes_item c =
    let env = env_view c.args.env in
    let d = draft_view c.args.draft.now in
    let e = draft_view c.item_member.new.draft in
    let f = draft_view c.open_item.new.draft in
    IfOk-weaker c.open_item.result _ _ (λ i o. opens_item c.args.of_property env c.args.tree (term.Value c.args.ending) c.in_ok-member.member i d e f c.in_ok-member.ensures o) c.open_item.ensures

pub returns-then-lacks_item : goal.returns-then-lacks_item
returns-then-lacks_item c = IfOk-weaker c.open_lacking.result _ _ (λ i o. o c.args.of_property) c.open_lacking.ensures
