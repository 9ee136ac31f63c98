use Rattle.std.proofs.Common.{Bool, true, subst}
use Rattle.std.specs.Prelude.{MatchBool}
use Rattle.bound_project.specs.DraftView.{draft_view}
use Rattle.bound_members.specs.bound_calls.specs.References.{IsFoundLate}
use Rattle.bound_operands.proofs.Elements.{along_whole}
use Rattle.bound_operands.proofs.indexing.push_whole.Goals as goal

pub returns-then-is_known_late : goal.returns-then-is_known_late
returns-then-is_known_late c =
    let d = draft_view c.args.draft.now in
    let B : Bool → Type 0 = λ (b : Bool). MatchBool b (IsFoundLate c.args.has_class d.tables c.args.ending true) (Unit {0}) in
    along_whole c.args.has_class c.args.ending c.args.place d (draft_view c.push_along.new.draft) c.in_ok-indexed.indexed (subst B c.if-is_known_late.true c.is_known_late.ensures) c.in_ok-indexed.ensures
