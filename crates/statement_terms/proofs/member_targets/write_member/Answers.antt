use Rattle.std.proofs.Common.{◌≡◌, List, Bool, ℕ, true, ap, sym, subst, ◌∙◌}
use Rattle.std.specs.Prelude.{Some}
use Rattle.bound_project.specs.View.{declared_view}
use Rattle.statement_terms.specs.Members.{is_written}
use Rattle.statement_terms.proofs.member_targets.write_member.Goals as goal

pub write_late-requires-clause-least : goal.write_late-requires-clause-least
write_late-requires-clause-least c = c.if-member-ne0.false

pub write_late-requires-clause-written : goal.write_late-requires-clause-written
write_late-requires-clause-written c =
    let m = c.args.member in
    let W : List ℕ → Type 0 = λ (name : List ℕ). is_written name (declared_view m.of) m.greatest ≡ true in
    subst W c.name.ensures (sym c.if-not-is_written.ensures)

pub write_early-requires-clause-least : goal.write_early-requires-clause-least
write_early-requires-clause-least c = c.if-member-ne0.false

pub write_early-requires-clause-written : goal.write_early-requires-clause-written
write_early-requires-clause-written c =
    let m = c.args.member in
    let W : List ℕ → Type 0 = λ (name : List ℕ). is_written name (declared_view m.of) m.greatest ≡ true in
    subst W c.name.ensures (sym c.if-not-is_written.ensures)

pub returns-then-is_late : goal.returns-then-is_late
returns-then-is_late c = λ has. c.in_ok-write_late.ensures has c.args.may_be (sym c.in-Some.ensures ∙ ap (λ (b : Bool). Some b) c.if-is_late.true)

pub returns : goal.returns
returns c = λ has. c.in_ok-write_early.ensures has c.args.may_be (sym c.in-Some.ensures ∙ ap (λ (b : Bool). Some b) c.if-is_late.false)
