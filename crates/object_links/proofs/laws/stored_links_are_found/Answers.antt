use Rattle.object_links.proofs.Found.{found}
use Rattle.object_links.proofs.laws.stored_links_are_found.Goals as goal

pub returns : goal.returns
returns c = λ d book names. found d names book
