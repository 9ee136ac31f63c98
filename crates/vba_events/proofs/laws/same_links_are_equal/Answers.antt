use Rattle.vba_events.proofs.Keys.{same_link_true, same_link_itself}
use Rattle.vba_events.proofs.laws.same_links_are_equal.Goals as goal

pub returns : goal.returns
returns c = record { same = same_link_true; itself = same_link_itself }
