use Rattle.std.proofs.Common.{List, None, sym, subst, ap, ◌∙◌}
use Rattle.command_words.specs.View.{command_view}
use Rattle.list_file.specs.declared.list.ModulePath.{ModulePath}
use Rattle.list_file.specs.declared.list.SheetPath.{SheetPath}
use Rattle.list_file.specs.Plans.{project_at}
use Rattle.list_file.specs.Sources.{modules_view, sheets_view}
use Rattle.list_file.specs.View.{start_view}
use Rattle.vba_cli.specs.Contract.{World}
use Rattle.vba_cli.specs.Steps.{GoesOn, IsListOf}
use Rattle.vba_cli.specs.Told.{named_of}
use Rattle.vba_cli.proofs.lists.take_project.Goals as goal

pub returns : goal.returns
returns g c =
    let command = command_view c.args.command in
    let bytes = c.args.file.now.bytes.items in
    let start = start_view c.args.list.startup in
    let old : World = record { told = g.F.Files.told c.args.files.now; counts = g.F.Files.counts c.args.files.now; out = g.O.Sink.taken c.args.out.now; out_faults = g.O.Sink.faults c.args.out.now; err = None; err_faults = 0 } in
    let new : World = record { told = g.F.Files.told c.take_listed-status.new.files; counts = g.F.Files.counts c.take_listed-status.new.files; out = g.O.Sink.taken c.take_listed-status.new.out; out_faults = g.O.Sink.faults c.take_listed-status.new.out; err = None; err_faults = 0 } in
    let modules = c.as_slice.result.now in
    let sheets = c.as_slice-2.result.now in
    let is : IsListOf command bytes c.len-taken.result (modules_view modules) (sheets_view sheets) start =
    record {
      list = c.requires.not_alone;
      planned =
          c.requires.planned
          ∙ ap (λ (ms : List ModulePath). project_at (modules_view ms) (sheets_view c.args.list.sheets.items) start) (sym c.as_slice.ensures.value)
          ∙ ap (λ (ss : List SheetPath). project_at (modules_view modules) (sheets_view ss) start) (sym c.as_slice-2.ensures.value);
      taken_is = c.len-taken.ensures ∙ c.args.file.now.bytes.ok.0;
    } in
    subst (λ (ms : List ModulePath). GoesOn command bytes (named_of ms c.args.list.sheets.items) c.take_listed-status.result old new) c.as_slice.ensures.value
    (subst (λ (ss : List SheetPath). GoesOn command bytes (named_of modules ss) c.take_listed-status.result old new) c.as_slice-2.ensures.value (c.take_listed-status.ensures bytes is))
