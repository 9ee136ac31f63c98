use Rattle.std.proofs.Common.{false}
use Rattle.bound_project.specs.DraftView.{draft_view}
use Rattle.bound_project.specs.View.{declarations_view}
use Rattle.bound_members.specs.bound_calls.specs.declared.term.Term.TheVariants as term
use Rattle.statement_terms.proofs.WrittenTargets.{term_in}
use Rattle.statement_terms.proofs.targets.assign_place.Goals as goal

pub returns-then-not-is_object : goal.returns-then-not-is_object
returns-then-not-is_object c =
    let at = c.args.at in
    let d = draft_view c.args.draft.now in
    let e = draft_view c.assign_plain.new.draft in
    λ bounds lends may. term_in (declarations_view c.args.declared.now) c.args.has_class may c.args.place (term.Place at.kind at.of bounds lends c.args.makes) d e c.in_ok-plain.plain false
    (c.in_ok-plain.ensures c.args.has_class bounds lends c.args.makes may)
