use Rattle.std.proofs.Common.{None, Some, Err, [], ◌∷◌, subst, ◌∙◌}
use Rattle.command_words.specs.View.{command_view}
use Rattle.list_file.specs.Files.{FilesAt, ReadInOrder}
use Rattle.vba_cli.specs.Answer.{unread}
use Rattle.vba_cli.specs.Contract.{World}
use Rattle.vba_cli.specs.Steps.{with_files}
use Rattle.vba_cli.proofs.Performed.{alone_performs, first_stopped}
use Rattle.vba_cli.proofs.lists.take_file.Goals as goal

pub returns-in-Err : goal.returns-in-Err
returns-in-Err g c =
    let command = command_view c.args.command in
    let old : World = record { told = g.F.Files.told c.args.files.now; counts = g.F.Files.counts c.args.files.now; out = g.O.Sink.taken c.args.out.now; out_faults = g.O.Sink.faults c.args.out.now; err = None; err_faults = 0 } in
    let first : FilesAt = record { told = g.F.Files.told c.args.files.now; counts = g.F.Files.counts c.args.files.now } in
    let last : FilesAt = record { told = g.F.Files.told c.read_file.new.files; counts = g.F.Files.counts c.read_file.new.files } in
    alone_performs (Some command) c.alone.result.modules.items c.alone.result.sheets.items (unread c.in-Err.reason) c.alone.result.status old (with_files old last)
    c.alone.ensures.modules c.alone.ensures.sheets (c.alone.ensures.status ∙ c.unread.ensures)
    (first_stopped command c.in-Err.reason old first last
    (subst (λ name. ReadInOrder (name ∷ []) 0 0 (Err c.in-Err.reason) first last) c.path_in.ensures c.in-Err.ensures.read))
