use Rattle.vba_meaning.specs.Memory.{paths_held}
use Rattle.array_locks.proofs.Found.{asked}
use Rattle.array_locks.proofs.laws.locks_are_asked.Goals as goal

pub returns : goal.returns
returns c = λ m q. asked (paths_held m.frames) q
