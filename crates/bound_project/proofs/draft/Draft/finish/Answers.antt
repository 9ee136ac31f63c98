use Rattle.bound_project.specs.Drafts.{tables_in}
use Rattle.bound_project.proofs.Drafts.{fits_of}
use Rattle.bound_project.proofs.draft.Draft.finish.Goals as goal

pub returns-clause-fits : goal.returns-clause-fits
returns-clause-fits c = let d = c.args.self in fits_of (tables_in d.constants.items d.orders.items) d.bodies.items d.kept.1.1
