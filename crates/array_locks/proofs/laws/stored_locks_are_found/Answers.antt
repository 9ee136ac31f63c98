use Rattle.array_locks.proofs.Found.{found}
use Rattle.array_locks.proofs.laws.stored_locks_are_found.Goals as goal

pub returns : goal.returns
returns c = λ d book. found d book
