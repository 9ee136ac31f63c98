use Rattle.std.proofs.Common.{sym}
use Rattle.std.proofs.lemmas.Result.{IfOk-weaker}
use Rattle.bound_project.specs.DraftView.{draft_view}
use Rattle.bound_terms.specs.bound_accesses.specs.bound_names.specs.View.{env_view}
use Rattle.bound_actions.proofs.LateSets.{sets_given}
use Rattle.bound_actions.proofs.setting.set_late_given.Goals as goal

pub read_member-requires-clause-named : goal.read_member-requires-clause-named
read_member-requires-clause-named c = c.in_ok-opened.ensures.named

pub set_call-requires : goal.set_call-requires
set_call-requires c = c.in_ok-call.ensures.goes.named.0

pub returns : goal.returns
returns c =
    let d = draft_view c.args.draft.now in
    let i = draft_view c.open_member.new.draft in
    let j = draft_view c.read_member.new.draft in
    IfOk-weaker c.set_call.result _ _
    (λ k s. sets_given c.args.env.has_class (env_view c.args.env) (sym c.args.env.has_class_is) c.args.place c.args.member c.in_ok-opened.opened c.in_ok-call.call c.args.nodes.now k d i j c.in_ok-opened.ensures c.in_ok-call.ensures s)
    c.set_call.ensures
