use Rattle.object_links.proofs.Found.{meant}
use Rattle.object_links.proofs.laws.meant_links_are_stored.Goals as goal

pub returns : goal.returns
returns c = λ pr book turns names. meant pr book turns names
