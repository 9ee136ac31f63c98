use Rattle.std.proofs.Common.{◌≡◌, ◌+◌, ap, sym, subst, ◌∙◌, length, None}
use Rattle.std.proofs.lemmas.List.{length-map}
use Rattle.command_words.specs.View.{command_view}
use Rattle.list_file.specs.declared.bytes.ModuleBytes.{ModuleBytes}
use Rattle.list_file.specs.Files.{FilesAt}
use Rattle.list_file.specs.Lists.{ModuleAt}
use Rattle.list_file.specs.Sources.{bytes_view, files_view, modules_view, paths_view, sheets_view}
use Rattle.list_file.specs.View.{module_view, start_view}
use Rattle.vba_cli.specs.Contract.{World}
use Rattle.vba_cli.specs.Steps.{GoesOn, with_files}
use Rattle.vba_cli.specs.Told.{named_of}
use Rattle.vba_cli.proofs.Performed.{list_went_by, list_went_stopped}
use Rattle.vba_cli.proofs.lists.take_listed.Goals as goal

pub returns-in-Ok : goal.returns-in-Ok
returns-in-Ok g c = λ bytes is.
    let old : World = record { told = g.F.Files.told c.args.files.now; counts = g.F.Files.counts c.args.files.now; out = g.O.Sink.taken c.args.out.now; out_faults = g.O.Sink.faults c.args.out.now; err = None; err_faults = 0 } in
    let last : FilesAt = record { told = g.F.Files.told c.read_modules.new.files; counts = g.F.Files.counts c.read_modules.new.files } in
    let new : World = record { told = g.F.Files.told c.take_sources.new.files; counts = g.F.Files.counts c.take_sources.new.files; out = g.O.Sink.taken c.take_sources.new.out; out_faults = g.O.Sink.faults c.take_sources.new.out; err = None; err_faults = 0 } in
    let files = c.in-Ok.sources.items in
    let slice = c.as_slice-modules.result.now in
    let number : c.behind-sheets.result.number ≡ length (bytes_view slice) + 1 =
    c.behind-sheets.ensures.number ∙ ap (λ k. k + 1) (sym (length-map slice (λ (f : ModuleBytes). f.bytes.items))) in
    let count : length (bytes_view files) ≡ length (paths_view c.args.listed.modules.now) =
    length-map files (λ (f : ModuleBytes). f.bytes.items) ∙ c.in-Ok.ensures.count ∙ sym (length-map (modules_view c.args.listed.modules.now) (λ (m : ModuleAt). m.path) ∙ length-map c.args.listed.modules.now module_view) in
    list_went_by (command_view c.args.command) bytes c.args.taken (modules_view c.args.listed.modules.now) (sheets_view c.args.listed.sheets.now) (start_view c.args.listed.startup.now) is
    (bytes_view files) (bytes_view slice) (files_view slice) (sheets_view c.behind-sheets.result.sheets.now) c.behind-sheets.result.number c.behind-sheets.result.taken c.take_sources.result old last new
    count c.in-Ok.ensures.read (ap bytes_view c.as_slice-modules.ensures.value) (ap files_view c.as_slice-modules.ensures.value ∙ c.in-Ok.ensures.listed) (ap sheets_view c.behind-sheets.ensures.sheets) number c.behind-sheets.ensures.taken c.take_sources.ensures

pub returns-in-Err : goal.returns-in-Err
returns-in-Err g c = λ bytes is.
    let old : World = record { told = g.F.Files.told c.args.files.now; counts = g.F.Files.counts c.args.files.now; out = g.O.Sink.taken c.args.out.now; out_faults = g.O.Sink.faults c.args.out.now; err = None; err_faults = 0 } in
    let last : FilesAt = record { told = g.F.Files.told c.read_modules.new.files; counts = g.F.Files.counts c.read_modules.new.files } in
    subst (λ s. GoesOn (command_view c.args.command) bytes (named_of c.args.listed.modules.now c.args.listed.sheets.now) s old (with_files old last)) (sym c.unread.ensures)
    (list_went_stopped (command_view c.args.command) bytes c.args.taken (modules_view c.args.listed.modules.now) (sheets_view c.args.listed.sheets.now) (start_view c.args.listed.startup.now) is c.in-Err.reason old last c.in-Err.ensures.read)
