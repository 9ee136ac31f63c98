use Rattle.std.proofs.Common.{sym, subst}
use Rattle.std.proofs.lemmas.Result.{IfOk-weaker}
use Rattle.bound_project.specs.DraftView.{draft_view}
use Rattle.bound_terms.specs.bound_accesses.specs.bound_names.specs.bound_members.specs.bound_calls.specs.declared.term.Term.{Term}
use Rattle.bound_terms.specs.bound_accesses.specs.bound_names.specs.bound_members.specs.bound_calls.specs.Standing.{TermNamed}
use Rattle.bound_terms.specs.bound_accesses.specs.bound_names.specs.bound_members.specs.MemberCalls.{EndsMember}
use Rattle.bound_terms.specs.bound_accesses.specs.bound_names.specs.View.{env_view}
use Rattle.bound_actions.proofs.LateSets.{sets_taken}
use Rattle.bound_actions.proofs.setting.set_taken.Goals as goal

pub read_member-requires-clause-named : goal.read_member-requires-clause-named
read_member-requires-clause-named c = c.in_ok-opened.ensures.named

pub set_value-requires : goal.set_value-requires
set_value-requires c =
    let N : Term → Type 0 = λ (x : Term). TermNamed (draft_view c.read_member.new.draft).tables x in subst N c.in-Value.is (c.in_ok-ending.ensures.named c.in_ok-call.ensures.goes.named.0)

pub returns-in-Value : goal.returns-in-Value
returns-in-Value c =
    let d = draft_view c.args.draft.now in
    let i = draft_view c.open_member.new.draft in
    let j = draft_view c.read_member.new.draft in
    let e = draft_view c.set_value.new.draft in
    let E : Term → Type 0 = λ (x : Term). EndsMember j.tables c.in_ok-call.call x in
    IfOk-weaker c.set_value.result _ _
    (λ k s. sets_taken c.args.env.has_class (env_view c.args.env) (sym c.args.env.has_class_is) c.args.set_word c.args.place c.args.member c.in_ok-opened.opened c.in_ok-call.call c.args.nodes.now c.in-Value.ending k d i j e c.requires.one
    c.in_ok-opened.ensures c.in_ok-call.ensures (subst E c.in-Value.is c.in_ok-ending.ensures) s) c.set_value.ensures
