use Rattle.std.proofs.Common.{Bool, sym, subst, ◌==◌, ◌||◌, ◌∙◌}
use Rattle.std.specs.Prelude.{MatchBool}
use Rattle.statement_terms.specs.Late.{IsGivenLate}
use Rattle.statement_terms.proofs.WrittenMembers.{given_late}
use Rattle.statement_terms.proofs.late_targets.is_given_late.Goals as goal

pub returns-then-call : goal.returns-then-call
returns-then-call c =
    let x = c.args.call in
    let B : Bool → Type 0 = λ (b : Bool). MatchBool (b || (x.named == 0)) (IsGivenLate x) (Unit {0}) in
    let M : Bool → Type 0 = λ (b : Bool). MatchBool b (IsGivenLate x) (Unit {0}) in
    subst M (sym c.if-call.true) (subst B c.if-call.true (given_late x (sym c.is_called_late.ensures ∙ c.if-not-is_called_late.false)))

pub returns-else-call : goal.returns-else-call
returns-else-call c =
    let x = c.args.call in
    let B : Bool → Type 0 = λ (b : Bool). MatchBool (b || (x.named == 0)) (IsGivenLate x) (Unit {0}) in
    subst B c.if-call.false (given_late x (sym c.is_called_late.ensures ∙ c.if-not-is_called_late.false))
