use Rattle.std.proofs.Common.{sym, subst}
use Rattle.bound_project.specs.DraftView.{draft_view}
use Rattle.bound_members.specs.bound_calls.specs.declared.term.Item.{Item}
use Rattle.bound_members.specs.bound_calls.specs.Indexing.{AddsMissing}
use Rattle.bound_operands.proofs.ElementEnds.{misses_passed}
use Rattle.bound_operands.proofs.indexing.skip_passed.Goals as goal

pub returns : goal.returns
returns c =
    let d = draft_view c.args.draft.now in
    let e = draft_view c.pass_missing.new.draft in
    let A : Item → Type 0 = λ (i : Item). AddsMissing c.args.item d e i in
    subst A (sym c.with_passed.ensures) (misses_passed c.args.item c.in-Some.passed c.in_ok-passed.passed d e (sym c.in-Some.ensures) c.requires c.in_ok-passed.ensures)
