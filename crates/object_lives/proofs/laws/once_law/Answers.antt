use Rattle.object_lives.proofs.Told.{told_once}
use Rattle.object_lives.proofs.laws.once_law.Goals as goal

pub returns : goal.returns
returns c = λ pr book turns number. told_once pr book turns number
