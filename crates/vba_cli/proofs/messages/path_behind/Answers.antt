use Rattle.std.proofs.Common.{refl}
use Rattle.vba_cli.proofs.Paths.{module_past, module_there}
use Rattle.vba_cli.proofs.messages.path_behind.Goals as goal

pub returns-in-Some : goal.returns-in-Some
returns-in-Some c =
    let h = c.in-Some.ensures.lookup in
    module_there c.args.told.modules.now c.args.told.sheets.now c.args.place c.in-Some.module.now c.args.told.path.now c.as_str.result.now h.3.0 h.1 c.as_str.ensures.value

pub returns-in-None : goal.returns-in-None
returns-in-None c =
    let h = c.in-None.ensures.lookup in
    module_past c.args.told.modules.now c.args.told.sheets.now c.args.place _ c.args.told.path.now c.sheet_path.result.now h.3 refl c.sheet_path.ensures
