use Rattle.operator_laws.proofs.StaticLaw.{unary_answers}
use Rattle.operator_laws.proofs.laws.unary_results_are_of_static_types.Goals as goal

pub returns : goal.returns
returns c = unary_answers
