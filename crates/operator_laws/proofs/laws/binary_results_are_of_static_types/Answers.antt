use Rattle.operator_laws.proofs.StaticLaw.{binary_answers}
use Rattle.operator_laws.proofs.laws.binary_results_are_of_static_types.Goals as goal

pub returns : goal.returns
returns c = λ o l ld r rd compare given. binary_answers o l ld r rd compare given
