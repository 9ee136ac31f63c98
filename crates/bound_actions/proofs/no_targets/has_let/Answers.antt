use Rattle.bound_terms.specs.bound_accesses.specs.bound_names.specs.View.{env_view}
use Rattle.bound_actions.proofs.Letting.{let_absent, let_there}
use Rattle.bound_actions.proofs.no_targets.has_let.Goals as goal

pub returns-in-Some : goal.returns-in-Some
returns-in-Some c = let_there (env_view c.args.env) c.args.term c.in-Some._writer c.in-Some.ensures

pub returns-in-None : goal.returns-in-None
returns-in-None c = let_absent (env_view c.args.env) c.args.term c.in-None.ensures
