use Rattle.std.proofs.Common.{sym, subst}
use Rattle.std.specs.Prelude.{IfSome}
use Rattle.bound_project.specs.DraftView.{draft_view}
use Rattle.bound_members.specs.bound_calls.specs.declared.term.Term.{Term}
use Rattle.statement_terms.specs.Targets.{IndexedLate}
use Rattle.statement_terms.proofs.WrittenTargets.{other_late, place_late, value_late}
use Rattle.statement_terms.proofs.targets.is_indexed_late.Goals as goal

pub returns-in-Place : goal.returns-in-Place
returns-in-Place c =
    let i = c.in-Place in
    let t = (draft_view c.args.draft.now).tables in
    let P : Term → Type 0 = λ (x : Term). IfSome c.is_led_late.result (λ b. IndexedLate c.args.has_class t x b) in
    subst P (sym i.is) (place_late c.args.has_class t i.kind c.read_kind.result i.of i.bounds i.lends i.makes c.is_led_late.result c.read_kind.ensures c.is_led_late.ensures)

pub returns-in-Value : goal.returns-in-Value
returns-in-Value c =
    let i = c.in-Value in
    let t = (draft_view c.args.draft.now).tables in
    let P : Term → Type 0 = λ (x : Term). IfSome c.is_led_late-in-Value.result (λ b. IndexedLate c.args.has_class t x b) in
    subst P (sym i.is) (value_late c.args.has_class t i.ending c.is_led_late-in-Value.result c.is_led_late-in-Value.ensures)

pub returns-in_default : goal.returns-in_default
returns-in_default c = other_late c.args.has_class (draft_view c.args.draft.now).tables c.args.term c.in_default.not-Place c.in_default.not-Value
