use Rattle.std.proofs.Common.{sym, subst}
use Rattle.std.proofs.lemmas.Result.{IfOk-weaker}
use Rattle.bound_project.specs.DraftView.{draft_view}
use Rattle.bound_names.specs.bound_members.specs.bound_calls.specs.declared.term.Term.{Term}
use Rattle.bound_accesses.specs.Fields.{MakesBehindTerm}
use Rattle.bound_names.specs.View.{env_view}
use Rattle.bound_accesses.proofs.Fielding.{behind_err, behind_other}
use Rattle.bound_accesses.proofs.members.behind_term.Goals as goal

pub returns-in-Err : goal.returns-in-Err
returns-in-Err c =
    let env = env_view c.args.env in
    let d = draft_view c.args.draft.now in
    let A : Term → Type 0 = λ (t : Term). MakesBehindTerm env c.args.place c.args.dot t c.args.member.now d d c.err_member.result in
    subst A (sym c.in-Err.is) (behind_err env c.args.place c.args.dot c.args.member.now d c.err_member.result (c.err_member.ensures env d))

pub returns-in_ok-stands-in_default : goal.returns-in_ok-stands-in_default
returns-in_ok-stands-in_default c =
    let d = draft_view c.args.draft.now in
    let e = draft_view c.alone.new.draft in
    IfOk-weaker c.behind_alone.result _ _
    (λ y m. behind_other (env_view c.args.env) c.args.place c.args.dot c.args.term c.in_ok-stands-in_default.stands c.args.member.now d e (draft_view c.behind_alone.new.draft) y c.in_default.not-Err c.in_ok-stands-in_default.ensures m)
    c.behind_alone.ensures

pub behind_alone-requires-clause-named : goal.behind_alone-requires-clause-named
behind_alone-requires-clause-named c = c.in_ok-stands-in_default.ensures.named
