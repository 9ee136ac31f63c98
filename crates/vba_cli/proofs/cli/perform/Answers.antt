use Rattle.std.proofs.Common.{None, ap, sym, subst}
use Rattle.std.specs.Prelude.{option_map}
use Rattle.command_words.specs.View.{command_view}
use Rattle.vba_cli.specs.declared.status.Status.TheVariants.{Usage}
use Rattle.vba_cli.specs.Contract.{World}
use Rattle.vba_cli.specs.Steps.{Performs}
use Rattle.vba_cli.specs.Told.{named_of}
use Rattle.vba_cli.proofs.Performed.{alone_performs}
use Rattle.vba_cli.proofs.Promise.{no_command}
use Rattle.vba_cli.proofs.cli.perform.Goals as goal

pub returns-in-None : goal.returns-in-None
returns-in-None g c =
    let old : World = record { told = g.F.Files.told c.args.files.now; counts = g.F.Files.counts c.args.files.now; out = g.O.Sink.taken c.args.out.now; out_faults = g.O.Sink.faults c.args.out.now; err = None; err_faults = 0 } in
    let modules = c.alone.result.modules.items in
    let sheets = c.alone.result.sheets.items in
    subst (λ k. Performs k (named_of modules sheets) c.alone.result.status old old) (ap (option_map command_view) (sym c.in-None.is))
    (alone_performs None modules sheets Usage c.alone.result.status old old c.alone.ensures.modules c.alone.ensures.sheets c.alone.ensures.status (no_command old))
