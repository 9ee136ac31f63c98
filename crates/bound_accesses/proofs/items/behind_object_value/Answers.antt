use Rattle.std.proofs.Common.{Bool, sym, subst}
use Rattle.std.proofs.lemmas.Result.{IfOk-weaker}
use Rattle.bound_project.specs.DraftView.{draft_view}
use Rattle.bound_names.specs.bound_members.specs.bound_calls.specs.References.{IsFoundLate}
use Rattle.bound_names.specs.View.{env_view}
use Rattle.bound_accesses.proofs.ItemTerms.{early_in_value, late_in_value}
use Rattle.bound_accesses.proofs.items.behind_object_value.Goals as goal

pub returns-then-is_late : goal.returns-then-is_late
returns-then-is_late c =
    let has = c.args.env.has_class in
    let d = draft_view c.args.draft.now in
    let A : Bool → Type 0 = λ (b : Bool). IsFoundLate has d.tables c.args.ending b in
    IfOk-weaker c.late_of_value.result _ _
    (λ found f. late_in_value (env_view c.args.env) c.args.place c.args.ending c.args.name has d (draft_view c.late_of_value.new.draft) found (sym c.args.env.has_class_is) (subst A c.if-is_late.true c.in-Some.ensures) f) c.late_of_value.ensures

pub returns : goal.returns
returns c =
    let has = c.args.env.has_class in
    let d = draft_view c.args.draft.now in
    let A : Bool → Type 0 = λ (b : Bool). IsFoundLate has d.tables c.args.ending b in
    IfOk-weaker c.member_of_value.result _ _
    (λ found f. early_in_value (env_view c.args.env) c.args.place c.args.ending c.args.name has d (draft_view c.member_of_value.new.draft) found (sym c.args.env.has_class_is) (subst A c.if-is_late.false c.in-Some.ensures) f) c.member_of_value.ensures
