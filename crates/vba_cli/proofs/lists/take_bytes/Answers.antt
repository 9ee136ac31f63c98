use Rattle.std.proofs.Common.{ℕ, None, ap, sym, ◌∙◌}
use Rattle.std.specs.Prelude.{Vec}
use Rattle.std.specs.declared.alloc.Global.{Global}
use Rattle.command_words.specs.View.{command_view}
use Rattle.list_file.specs.Sources.{file_view}
use Rattle.vba_cli.specs.Contract.{World}
use Rattle.vba_cli.proofs.Performed.{alone_goes, went_alone}
use Rattle.vba_cli.proofs.lists.take_bytes.Goals as goal

pub returns : goal.returns
returns g c =
    let command = command_view c.args.command in
    let bytes = c.args.file.bytes.items in
    let status = c.take_sources-status.result in
    let old : World = record { told = g.F.Files.told c.args.files.now; counts = g.F.Files.counts c.args.files.now; out = g.O.Sink.taken c.args.out.now; out_faults = g.O.Sink.faults c.args.out.now; err = None; err_faults = 0 } in
    let new : World = record { told = g.F.Files.told c.take_sources-status.new.files; counts = g.F.Files.counts c.take_sources-status.new.files; out = g.O.Sink.taken c.take_sources-status.new.out; out_faults = g.O.Sink.faults c.take_sources-status.new.out; err = None; err_faults = 0 } in
    alone_goes command bytes c.alone.result.modules.items c.alone.result.sheets.items status c.alone.result.status old new
    c.alone.ensures.modules c.alone.ensures.sheets c.alone.ensures.status
    (went_alone command bytes c.len.result status old new (sym c.names_module.ensures ∙ c.if-not-names_module.false) (c.len.ensures ∙ c.args.file.bytes.ok.0) (file_view c.of_module-source.result)
    c.of_module-source.ensures.kind (ap (λ (v : Vec ℕ Global). v.items) c.of_module-source.ensures.bytes) c.take_sources-status.ensures)
