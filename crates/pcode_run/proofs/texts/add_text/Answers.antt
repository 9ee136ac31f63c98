use Rattle.pcode_run.specs.Naming.{names_view}
use Rattle.pcode_run.proofs.texts.add_text.Goals as goal

pub returns-in-Plain : goal.returns-in-Plain
returns-in-Plain c = rw c.in-Plain.is (c.add_plain.ensures (names_view c.args.showing.now.names))
