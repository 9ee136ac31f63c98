use Rattle.bound_project.specs.View.{declarations_view}
use Rattle.bound_project.proofs.ByNumber.{class_found}
use Rattle.bound_project.proofs.numbered.class_numbered.Goals as goal

pub returns-in-Some-clause-at : goal.returns-in-Some-clause-at
returns-in-Some-clause-at c = class_found (declarations_view c.args.declared.now) c.args.number c.in-Some.place _ c.in-Some.ensures c.class_in_place.ensures
