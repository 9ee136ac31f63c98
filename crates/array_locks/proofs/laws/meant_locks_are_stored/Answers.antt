use Rattle.array_locks.proofs.Found.{meant}
use Rattle.array_locks.proofs.laws.meant_locks_are_stored.Goals as goal

pub returns : goal.returns
returns c = λ pr book turns. meant pr book turns
