use Rattle.vba_expression.proofs.Inverses.{args_takes, args_again}
use Rattle.vba_expression.proofs.laws.arguments_are_read.Goals as goal

pub returns-clause-taken : goal.returns-clause-taken
returns-clause-taken c = args_takes

pub returns-clause-read : goal.returns-clause-read
returns-clause-read c = args_again
