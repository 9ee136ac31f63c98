use Rattle.std.proofs.Common.{Bool, true, sym, subst}
use Rattle.std.specs.Prelude.{MatchBool}
use Rattle.bound_project.specs.DraftView.{draft_view}
use Rattle.bound_members.specs.bound_calls.specs.References.{IsFoundLate}
use Rattle.bound_members.specs.bound_calls.specs.declared.term.Ending.{Ending}
use Rattle.bound_operands.specs.Indexing.{read_ending}
use Rattle.bound_operands.proofs.indexing.open_place.Goals as goal

pub returns-then-is_known_late : goal.returns-then-is_known_late
returns-then-is_known_late c =
    let t = (draft_view c.args.draft.now).tables in
    let K : Ending → Type 0 = λ (v : Ending). IsFoundLate c.args.has_class t v true in
    let B : Bool → Type 0 = λ (b : Bool). MatchBool b (K c.read_ending.result) (Unit {0}) in
    let late = subst K c.read_ending.ensures (subst B c.if-is_known_late.true c.is_known_late.ensures) in
    λ env known.
    let H : Bool → Type 0 = λ (has : Bool). IsFoundLate has t (read_ending c.args.at) true in
    c.in_ok-indexed.ensures env (subst H (sym known) late)
