use Rattle.std.proofs.Common.{sym, ◌∙◌}
use Rattle.std.proofs.lemmas.Result.{IfOk-weaker}
use Rattle.bound_project.specs.DraftView.{draft_view}
use Rattle.bound_terms.specs.bound_accesses.specs.bound_names.specs.View.{env_view}
use Rattle.bound_actions.proofs.LateSets.{item_found, item_given, item_refused, item_taken}
use Rattle.bound_actions.proofs.setting.set_item.Goals as goal

pub set_late_given-requires-clause-named : goal.set_late_given-requires-clause-named
set_late_given-requires-clause-named c = c.in_ok-member.ensures.named

pub set_refused-requires-clause-named : goal.set_refused-requires-clause-named
set_refused-requires-clause-named c = c.in_ok-member.ensures.named

pub returns-then-member : goal.returns-then-member
returns-then-member c =
    let d = draft_view c.args.draft.now in
    let h = draft_view c.item_member.new.draft in
    let e = draft_view c.set_late_given.new.draft in
    IfOk-weaker c.set_late_given.result _ _
    (λ k s. item_given (env_view c.args.env) c.args.set_word c.args.place c.args.term c.in_ok-member.member c.args.nodes.now k d h e c.in_ok-member.ensures s) c.set_late_given.ensures

pub set_member-requires : goal.set_member-requires
set_member-requires c = c.in_ok-member.ensures.named

pub set_taken-requires-clause-named : goal.set_taken-requires-clause-named
set_taken-requires-clause-named c = c.in_ok-member.ensures.named

pub set_taken-requires-clause-one : goal.set_taken-requires-clause-one
set_taken-requires-clause-one c = c.requires.one

pub returns-then-branch : goal.returns-then-branch
returns-then-branch c =
    let d = draft_view c.args.draft.now in
    let h = draft_view c.item_member.new.draft in
    let e = draft_view c.set_taken.new.draft in
    IfOk-weaker c.set_taken.result _ _
    (λ k s. item_taken (env_view c.args.env) c.args.set_word c.args.place c.args.term c.in_ok-member.member c.args.nodes.now k d h e c.if-member.false (sym c.is_late.ensures ∙ c.if-is_late.false) c.in_ok-member.ensures s) c.set_taken.ensures

pub returns-then-is_late : goal.returns-then-is_late
returns-then-is_late c =
    let d = draft_view c.args.draft.now in
    let h = draft_view c.item_member.new.draft in
    let e = draft_view c.set_member.new.draft in
    IfOk-weaker c.set_member.result _ _
    (λ k s. item_found (env_view c.args.env) c.args.set_word c.args.place c.args.term c.in_ok-member.member c.args.nodes.now k d h e c.if-member.false (sym c.is_late.ensures ∙ c.if-is_late.true) c.requires.one c.in_ok-member.ensures s)
    c.set_member.ensures

pub returns : goal.returns
returns c =
    let d = draft_view c.args.draft.now in
    let h = draft_view c.item_member.new.draft in
    let e = draft_view c.set_refused.new.draft in
    IfOk-weaker c.set_refused.result _ _
    (λ k s. item_refused (env_view c.args.env) c.args.set_word c.args.place c.args.term c.in_ok-member.member c.args.nodes.now k d h e c.if-member.false (sym c.is_late.ensures ∙ c.if-is_late.false) c.in_ok-member.ensures s) c.set_refused.ensures
