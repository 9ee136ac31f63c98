use Rattle.std.proofs.Common.{Option, sym, ap, subst, ◌∙◌}
use Rattle.std.specs.Prelude.{MatchBool}
use Rattle.bound_project.specs.DraftView.{draft_view}
use Rattle.bound_project.specs.declared.node.ArgumentNames.{ArgumentNames}
use Rattle.bound_calls.specs.declared.term.Looked.TheVariants as looked
use Rattle.bound_members.specs.MemberCalls.{NamesFit}
use Rattle.bound_members.proofs.MemberSteps.{by_name_ends, none_of, plain_ends}
use Rattle.bound_members.proofs.calls.early_kind.Goals as goal

pub returns-in_default : goal.returns-in_default
returns-in_default c =
    let none = none_of c.args.names c.in_default.not-Some in
    plain_ends c.args.call (draft_view c.args.draft.now).tables c.args.given (c.requires ∙ ap (λ (o : Option ArgumentNames). looked.Early o c.args.given) none) c.if-call-given.false (sym c.is_called_late.ensures ∙ c.if-is_called_late.false)

pub returns : goal.returns
returns c =
    let t = (draft_view c.args.draft.now).tables in
    let fit = subst (λ b. MatchBool b (NamesFit t c.args.call c.in-Some.names) (Unit {0})) c.if-not-names_fit.false c.names_fit.ensures in
    by_name_ends c.args.call t c.in-Some.names c.args.given (c.requires ∙ ap (λ (o : Option ArgumentNames). looked.Early o c.args.given) c.in-Some.is) c.if-call-given.false (sym c.is_called_late.ensures ∙ c.if-is_called_late.false) fit
