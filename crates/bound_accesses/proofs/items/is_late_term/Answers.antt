use Rattle.std.proofs.Common.{sym, subst}
use Rattle.std.specs.Prelude.{MatchBool}
use Rattle.bound_project.specs.DraftView.{draft_view}
use Rattle.bound_names.specs.bound_members.specs.bound_calls.specs.declared.term.Term.{Term}
use Rattle.bound_accesses.specs.Items.{KeepsTerm}
use Rattle.bound_accesses.proofs.ItemTerms.{late_at, late_of}
use Rattle.bound_accesses.proofs.items.is_late_term.Goals as goal

pub returns-in-Place : goal.returns-in-Place
returns-in-Place c =
    let t = (draft_view c.args.draft.now).tables in
    let p = c.in-Place in
    let A : Term → Type 0 = λ (x : Term). MatchBool c.is_known_late.result (KeepsTerm c.args.has_class t x) (Unit {0}) in
    subst A (sym p.is) (late_at c.args.has_class t p.kind c.read_kind.result p.of p.bounds p.lends p.makes c.is_known_late.result c.read_kind.ensures c.is_known_late.ensures)

pub returns-in-Value : goal.returns-in-Value
returns-in-Value c =
    let t = (draft_view c.args.draft.now).tables in
    let A : Term → Type 0 = λ (x : Term). MatchBool c.is_known_late-in-Value.result (KeepsTerm c.args.has_class t x) (Unit {0}) in
    subst A (sym c.in-Value.is) (late_of c.args.has_class t c.in-Value.ending c.is_known_late-in-Value.result c.is_known_late-in-Value.ensures)
