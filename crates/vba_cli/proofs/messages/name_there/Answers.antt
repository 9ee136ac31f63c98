use Rattle.vba_cli.proofs.Paths.{name_past, name_there}
use Rattle.vba_cli.proofs.messages.name_there.Goals as goal

pub returns-in-Some : goal.returns-in-Some
returns-in-Some c =
    let h = c.in-Some.ensures.lookup in
    name_there c.args.sheets.now c.args.place c.in-Some.sheet.now c.units.result.now h.3.0 h.1 c.units.ensures

pub returns-in-None : goal.returns-in-None
returns-in-None c = let h = c.in-None.ensures.lookup in name_past c.args.sheets.now c.args.place h.3
