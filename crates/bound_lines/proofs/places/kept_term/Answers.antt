use Rattle.std.proofs.Common.{sym, subst}
use Rattle.bound_terms.specs.bound_accesses.specs.bound_names.specs.bound_members.specs.bound_calls.specs.declared.term.Term.{Term}
use Rattle.bound_lines.specs.Kept.{Keeps}
use Rattle.bound_lines.proofs.Placing.{keeps_place, keeps_value}
use Rattle.bound_lines.proofs.places.kept_term.Goals as goal

pub returns-in-Place : goal.returns-in-Place
returns-in-Place c =
    let A : Term → Type 0 = λ (t : Term). Keeps c.args.header t c.kept_place.result in
    subst A (sym c.in-Place.is) (keeps_place c.args.header c.in-Place.kind c.in-Place.of c.in-Place.bounds c.in-Place.lends c.in-Place.makes c.kept_place.result c.kept_place.ensures)

pub returns-in-Value : goal.returns-in-Value
returns-in-Value c =
    let A : Term → Type 0 = λ (t : Term). Keeps c.args.header t c.kept_place-in-Value.result in
    subst A (sym c.in-Value.is) (keeps_value c.args.header c.in-Value.ending c.kept_place-in-Value.result c.kept_place-in-Value.ensures)
