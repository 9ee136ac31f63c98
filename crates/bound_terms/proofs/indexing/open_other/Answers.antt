use Rattle.std.proofs.Common.{false}
use Rattle.std.proofs.lemmas.Result.{IfOk-weaker}
use Rattle.bound_project.specs.DraftView.{draft_view}
use Rattle.bound_accesses.specs.bound_names.specs.View.{env_view}
use Rattle.bound_terms.proofs.Beginnings.{behind_plain, opens_item}
use Rattle.bound_terms.proofs.indexing.open_other.Goals as goal

pub open_item-requires : goal.open_item-requires
open_item-requires c = c.in_ok-member.ensures.named

pub returns-then-takes_item : goal.returns-then-takes_item
returns-then-takes_item c =
    let env = env_view c.args.env in
    let d = draft_view c.args.draft.now in
    let e = draft_view c.item_member.new.draft in
    let f = draft_view c.open_item.new.draft in
    IfOk-weaker c.open_item.result _ _ (λ i o. opens_item false env c.args.tree c.args.term c.in_ok-member.member i d e f c.in_ok-member.ensures o) c.open_item.ensures

pub returns-then-lacks_item : goal.returns-then-lacks_item
returns-then-lacks_item c = IfOk-weaker c.open_lacking.result _ _ (λ i o. o false) c.open_lacking.ensures

pub returns : goal.returns
returns c =
    let env = env_view c.args.env in
    let d = draft_view c.args.draft.now in
    let e = draft_view c.open_term.new.draft in
    IfOk-weaker c.open_term.result _ _ (λ i o. behind_plain env c.args.tree c.args.term i d e o) c.open_term.ensures
