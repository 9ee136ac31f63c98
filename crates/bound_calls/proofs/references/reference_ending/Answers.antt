use Rattle.std.proofs.Common.{true, sym, subst}
use Rattle.std.specs.Prelude.{◌≡◌}
use Rattle.bound_project.specs.DraftView.{draft_view}
use Rattle.bound_calls.specs.declared.term.Term.{Term}
use Rattle.bound_calls.specs.References.{TakesReference, may_refer}
use Rattle.bound_calls.proofs.Referring.{takes_place, takes_err, err_reference}
use Rattle.bound_calls.proofs.references.reference_ending.Goals as goal

Refers : Term → Type 0
Refers t = may_refer t ≡ true

pub returns-in_ok-push_node-in-Place : goal.returns-in_ok-push_node-in-Place
unfolding Refers
returns-in_ok-push_node-in-Place c =
    let p = c.in-Place in
    let d = draft_view c.args.draft.now in
    let e = draft_view c.push_node.new.draft in
    let k = c.read_kind.result in
    let P : Term → Type 0 = λ t. TakesReference t c.args.place d e (record { kind = k; of = p.of }) in
    subst P (sym p.is) (takes_place p.kind p.of p.bounds p.lends p.makes c.args.place d e k c.read_kind.ensures (subst Refers p.is c.requires.refers) c.in_ok-push_node-in-Place.ensures)

pub returns-in-Err : goal.returns-in-Err
returns-in-Err c =
    let d = draft_view c.args.draft.now in
    let P : Term → Type 0 = λ t. TakesReference t c.args.place d d err_reference in
    subst P (sym c.in-Err.is) (takes_err c.args.place d)
