use Rattle.vba_lexer.proofs.Fronts.{IsToken-front_of, front_of-IsToken}
use Rattle.vba_lexer.proofs.laws.fronts_are_unique.Goals as goal

pub returns-clause-found : goal.returns-clause-found
returns-clause-found c = IsToken-front_of

pub returns-clause-only : goal.returns-clause-only
returns-clause-only c = front_of-IsToken
