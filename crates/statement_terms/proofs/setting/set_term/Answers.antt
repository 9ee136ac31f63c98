use Rattle.std.proofs.Common.{sym, subst, refl, ap, ◌≡◌, Bool, true}
use Rattle.std.proofs.lemmas.Result.{IfOk-weaker}
use Rattle.bound_project.specs.DraftView.{draft_view}
use Rattle.bound_members.specs.bound_calls.specs.declared.term.Term.{Term}
use Rattle.bound_members.specs.bound_calls.specs.declared.term.Term.TheVariants as term
use Rattle.statement_terms.specs.Members.{is_err_term}
use Rattle.statement_terms.specs.Setting.{SetsTerm}
use Rattle.statement_terms.proofs.SetTargets.{sets_function}
use Rattle.statement_terms.proofs.setting.set_term.Goals as goal

pub returns-in-Place : goal.returns-in-Place
returns-in-Place c =
    let i = c.in-Place in
    let d = draft_view c.args.draft.now in
    let e = draft_view c.set_place.new.draft in
    IfOk-weaker c.set_place.result _ (λ k. SetsTerm c.args.set_word c.args.place c.args.term d e k)
    (λ k h. let A : Term → Type 0 = λ t. SetsTerm c.args.set_word c.args.place t d e k in subst A (sym i.is) (h i.bounds i.lends i.makes)) c.set_place.ensures

pub returns-in-HostMember : goal.returns-in-HostMember
returns-in-HostMember c =
    let i = c.in-HostMember in
    let d = draft_view c.args.draft.now in
    let e = draft_view c.set_member.new.draft in
    IfOk-weaker c.set_member.result (λ k. SetsTerm c.args.set_word c.args.place (term.HostMember i.member) d e k) (λ k. SetsTerm c.args.set_word c.args.place c.args.term d e k)
    (λ k h. let A : Term → Type 0 = λ t. SetsTerm c.args.set_word c.args.place t d e k in subst A (sym i.is) h) c.set_member.ensures

pub returns-in-Value : goal.returns-in-Value
returns-in-Value c =
    let i = c.in-Value in
    let d = draft_view c.args.draft.now in
    let e = draft_view c.set_value.new.draft in
    IfOk-weaker c.set_value.result (λ k. SetsTerm c.args.set_word c.args.place (term.Value i.ending) d e k) (λ k. SetsTerm c.args.set_word c.args.place c.args.term d e k)
    (λ k h. let A : Term → Type 0 = λ t. SetsTerm c.args.set_word c.args.place t d e k in subst A (sym i.is) h) c.set_value.ensures

pub returns-in-Function : goal.returns-in-Function
returns-in-Function c =
    let d = draft_view c.args.draft.now in
    let e = draft_view c.set_alone.new.draft in
    IfOk-weaker c.set_alone.result _ _ (λ k h. sets_function c.args.set_word c.args.place c.in-Function.field-0 c.args.term d e k c.in-Function.is h) c.set_alone.ensures

pub set_err-requires : goal.set_err-requires
set_err-requires c = ap (λ (t : Term). is_err_term t) c.in-Err.is

pub returns-in_ok-set_err-in-Err : goal.returns-in_ok-set_err-in-Err
returns-in_ok-set_err-in-Err c = c.in_ok-set_err-in-Err.ensures c.args.set_word

pub returns-in_ok-set_err-in-ErrRaise : goal.returns-in_ok-set_err-in-ErrRaise
returns-in_ok-set_err-in-ErrRaise c = c.in_ok-set_err-in-ErrRaise.ensures c.args.set_word

pub returns-in_ok-set_err-in-ErrClear : goal.returns-in_ok-set_err-in-ErrClear
returns-in_ok-set_err-in-ErrClear c = c.in_ok-set_err-in-ErrClear.ensures c.args.set_word
