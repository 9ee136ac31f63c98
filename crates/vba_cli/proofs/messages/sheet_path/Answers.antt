use Rattle.vba_cli.proofs.Paths.{sheet_past, sheet_there}
use Rattle.vba_cli.proofs.messages.sheet_path.Goals as goal

pub returns-in-Some : goal.returns-in-Some
returns-in-Some c =
    let h = c.in-Some.ensures.lookup in
    sheet_there c.args.told.sheets.now c.args.place c.in-Some.sheet.now c.args.told.path.now c.as_str.result.now h.3.0 h.1 c.as_str.ensures.value

pub returns-in-None : goal.returns-in-None
returns-in-None c = let h = c.in-None.ensures.lookup in sheet_past c.args.told.sheets.now c.args.place c.args.told.path.now h.3
