use Rattle.sheet_host.proofs.AddressLaws.{reads_addresses, refuses_others}
use Rattle.sheet_host.proofs.addresses.area_of_text.Goals as goal

pub returns-clause-address : goal.returns-clause-address
returns-clause-address c = reads_addresses c.args.sheet c.args.text.now c.read_area.result c.read_area.ensures.area

pub returns-clause-other : goal.returns-clause-other
returns-clause-other c = refuses_others c.args.sheet c.args.text.now c.read_area.result c.read_area.ensures.area
