use Rattle.std.proofs.lemmas.Result.{IfOk-weaker}
use Rattle.bound_terms.specs.bound_accesses.specs.bound_names.specs.View.{env_view}
use Rattle.bound_actions.proofs.Takings.{other_term_taken, property_term_taken, routine_term_taken}
use Rattle.bound_actions.proofs.takers.term_taker.Goals as goal

pub returns-in-Routine : goal.returns-in-Routine
returns-in-Routine c = IfOk-weaker c.property_taker.result _ _ (λ taker h. routine_term_taken (env_view c.args.env) c.args.term c.in-Routine.routine taker c.in-Routine.is h) c.property_taker.ensures

pub returns-in-Property : goal.returns-in-Property
returns-in-Property c =
    IfOk-weaker c.property_taker-in-Property.result _ _ (λ taker h. property_term_taken (env_view c.args.env) c.args.term c.in-Property.property taker c.in-Property.is h) c.property_taker-in-Property.ensures

pub returns-in_default : goal.returns-in_default
returns-in_default c = other_term_taken (env_view c.args.env) c.args.term c.taker_of.result c.in_default.not-Routine c.in_default.not-Property c.taker_of.ensures
