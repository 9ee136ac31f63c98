use Rattle.std.proofs.Common.{[]}
use Rattle.std.proofs.lemmas.Result.{IfOk-weaker}
use Rattle.bound_project.specs.DraftView.{draft_view}
use Rattle.bound_terms.specs.bound_accesses.specs.bound_names.specs.bound_members.specs.bound_calls.specs.bound_forms.specs.Terms as plain
use Rattle.statement_terms.specs.Called.{Acts, CallsTree}
use Rattle.bound_terms.specs.bound_accesses.specs.bound_names.specs.View.{env_view}
use Rattle.bound_actions.proofs.Called.{calls_bare}
use Rattle.bound_actions.proofs.statement_calls.call_bare.Goals as goal

pub returns : goal.returns
returns c =
    let env = env_view c.args.env in
    let x = c.args.tree in
    let d = draft_view c.args.draft.now in
    let f = draft_view c.callee_term.new.draft in
    let e = draft_view c.bare_term.new.draft in
    let y = c.in_ok-term.term in
    IfOk-weaker c.bare_term.result (λ k. (env : plain.Env) → Acts env y x.place [] f e k) (λ k. CallsTree env x [] d e k) (λ k h. calls_bare env x d f e y k c.in_ok-term.ensures (h env)) c.bare_term.ensures

pub bare_term-requires : goal.bare_term-requires
bare_term-requires c = c.in_ok-term.ensures.named
