use Rattle.bound_terms.specs.bound_accesses.specs.bound_names.specs.View.{env_view}
use Rattle.bound_actions.proofs.Takings.{property_taken}
use Rattle.bound_actions.proofs.takers.property_taker.Goals as goal

pub returns : goal.returns
returns c = property_taken (env_view c.args.env) c.args.property c.in_ok-of.of c.in_ok-of.ensures
