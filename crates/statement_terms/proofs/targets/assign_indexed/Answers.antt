use Rattle.std.proofs.Common.{sym, subst}
use Rattle.std.proofs.lemmas.Result.{IfOk-weaker}
use Rattle.std.specs.Prelude.{Bool, Option}
use Rattle.bound_project.specs.DraftView.{draft_view}
use Rattle.bound_project.specs.View.{declarations_view}
use Rattle.bound_members.specs.bound_calls.specs.declared.term.Term.{Term}
use Rattle.bound_members.specs.bound_calls.specs.declared.term.Term.TheVariants as term
use Rattle.statement_terms.specs.Targets.{AssignsIndexed}
use Rattle.statement_terms.proofs.WrittenTargets.{term_indexed}
use Rattle.statement_terms.proofs.targets.assign_indexed.Goals as goal

pub returns-in-Place : goal.returns-in-Place
returns-in-Place c =
    let i = c.in-Place in
    let place = c.args.place in
    let d = draft_view c.args.draft.now in
    let e = draft_view c.assign_place.new.draft in
    IfOk-weaker c.assign_place.result _ (λ k. (may : Option Bool) → AssignsIndexed (declarations_view c.args.declared.now) c.args.has_class may place c.args.term d e k)
    (λ k h may. let A : Term → Type 0 = λ t. AssignsIndexed (declarations_view c.args.declared.now) c.args.has_class may place t d e k in
    subst A (sym i.is) (term_indexed (declarations_view c.args.declared.now) c.args.has_class may place (term.Place i.kind i.of i.bounds i.lends i.makes) d e k (h i.bounds i.lends may))) c.assign_place.ensures

pub returns-in-Value : goal.returns-in-Value
returns-in-Value c =
    let place = c.args.place in
    let d = draft_view c.args.draft.now in
    let e = draft_view c.assign_indexed_value.new.draft in
    IfOk-weaker c.assign_indexed_value.result (λ k. (may : Option Bool) → AssignsIndexed (declarations_view c.args.declared.now) c.args.has_class may place (term.Value c.in-Value.ending) d e k)
    (λ k. (may : Option Bool) → AssignsIndexed (declarations_view c.args.declared.now) c.args.has_class may place c.args.term d e k)
    (λ k h may. let A : Term → Type 0 = λ t. AssignsIndexed (declarations_view c.args.declared.now) c.args.has_class may place t d e k in subst A (sym c.in-Value.is) (h may)) c.assign_indexed_value.ensures
