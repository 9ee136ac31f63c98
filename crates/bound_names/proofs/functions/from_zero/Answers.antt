use Rattle.bound_names.proofs.Library.{zero_function, zero_leaf}
use Rattle.bound_names.proofs.functions.from_zero.Goals as goal

pub returns-in-Function : goal.returns-in-Function
returns-in-Function c = λ env d e y m. zero_function env d e c.args.term c.in-Function.function y c.in-Function.is m

pub returns-in_default : goal.returns-in_default
returns-in_default c = λ env d e y m. zero_leaf env d e c.args.term y c.in_default.not-Function m
