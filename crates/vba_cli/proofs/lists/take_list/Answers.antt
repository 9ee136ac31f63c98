use Rattle.std.proofs.Common.{None, ap, sym, ◌∙◌, ◌≡◌}
use Rattle.command_words.specs.View.{command_view}
use Rattle.list_file.specs.Plans as plans
use Rattle.list_file.specs.Sources.{plan_view}
use Rattle.vba_base.specs.Decode.{decoded}
use Rattle.vba_cli.specs.declared.status.Status.TheVariants.{BadList, NoMemory}
use Rattle.vba_cli.specs.Contract.{World}
use Rattle.vba_cli.proofs.Performed.{alone_goes, went_bad, went_wanting}
use Rattle.vba_cli.proofs.lists.take_list.Goals as goal

pub returns-in-Ok-BadLine : goal.returns-in-Ok-BadLine
returns-in-Ok-BadLine g c =
    let command = command_view c.args.command in
    let bytes = c.args.file.now.bytes.items in
    let old : World = record { told = g.F.Files.told c.args.files.now; counts = g.F.Files.counts c.args.files.now; out = g.O.Sink.taken c.args.out.now; out_faults = g.O.Sink.faults c.args.out.now; err = None; err_faults = 0 } in
    let planned : plans.plan_of (decoded bytes) ≡ plans.bad_line c.in-Ok-BadLine.line =
    ap (λ b. plans.plan_of (decoded b)) (sym c.as_slice.ensures.value) ∙ sym c.in-Ok-BadLine.ensures.plan ∙ ap plan_view c.in-Ok-BadLine.field-0-is in
    alone_goes command bytes c.alone.result.modules.items c.alone.result.sheets.items (BadList c.in-Ok-BadLine.line) c.alone.result.status old old
    c.alone.ensures.modules c.alone.ensures.sheets c.alone.ensures.status (went_bad command bytes c.in-Ok-BadLine.line old c.requires planned)

pub returns-in-Err : goal.returns-in-Err
returns-in-Err g c =
    let command = command_view c.args.command in
    let bytes = c.args.file.now.bytes.items in
    let old : World = record { told = g.F.Files.told c.args.files.now; counts = g.F.Files.counts c.args.files.now; out = g.O.Sink.taken c.args.out.now; out_faults = g.O.Sink.faults c.args.out.now; err = None; err_faults = 0 } in
    alone_goes command bytes c.alone-in-Err.result.modules.items c.alone-in-Err.result.sheets.items NoMemory c.alone-in-Err.result.status old old
    c.alone-in-Err.ensures.modules c.alone-in-Err.ensures.sheets c.alone-in-Err.ensures.status (went_wanting command bytes old)
