use Rattle.std.proofs.Common.{sym}
use Rattle.std.proofs.lemmas.Result.{IfOk-weaker}
use Rattle.bound_project.specs.DraftView.{draft_view}
use Rattle.bound_names.specs.View.{env_view}
use Rattle.bound_accesses.proofs.ItemTerms.{early_at_place, known_late, late_at_place}
use Rattle.bound_accesses.proofs.items.behind_object_place.Goals as goal

pub returns-then-is_late : goal.returns-then-is_late
returns-then-is_late c =
    let has = c.args.env.has_class in
    let d = draft_view c.args.draft.now in
    IfOk-weaker c.late_of_place.result _ _
    (λ found f. late_at_place (env_view c.args.env) c.args.place c.args.at c.args.makes c.args.name has d (draft_view c.late_of_place.new.draft) found (sym c.args.env.has_class_is)
    (known_late has d.tables c.args.makes c.args.at.of c.read_kind.result c.in-Some.is_late _ c.read_kind.ensures c.if-is_late.true c.in-Some.ensures) f) c.late_of_place.ensures

pub returns : goal.returns
returns c =
    let has = c.args.env.has_class in
    let d = draft_view c.args.draft.now in
    IfOk-weaker c.member_of_place.result _ _
    (λ found f. early_at_place (env_view c.args.env) c.args.place c.args.at c.args.makes c.args.name has d (draft_view c.member_of_place.new.draft) found (sym c.args.env.has_class_is)
    (known_late has d.tables c.args.makes c.args.at.of c.read_kind.result c.in-Some.is_late _ c.read_kind.ensures c.if-is_late.false c.in-Some.ensures) f) c.member_of_place.ensures
