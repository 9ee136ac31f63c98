use Rattle.std.proofs.Common.{refl, subst, sym}
use Rattle.std.specs.Prelude.{None, Result, option_map}
use Rattle.sheet_host.specs.Books.{Sheets}
use Rattle.bound_project.specs.Bodies.{project_view}
use Rattle.list_file.specs.Files.{FilesAt}
use Rattle.list_file.specs.Sources.{sheets_view}
use Rattle.book_files.specs.declared.stop.BookStop.{BookStop}
use Rattle.vba_cli.specs.declared.status.Status.{Status}
use Rattle.vba_cli.specs.Answer.{Shown, shown_of_book, shown_of_run, shows_of}
use Rattle.vba_cli.specs.Contract.{World}
use Rattle.vba_cli.specs.Steps.{RanProject, with_files}
use Rattle.vba_cli.proofs.Taken.{ran_no_book, ran_over}
use Rattle.vba_cli.proofs.running.run_bound.Goals as goal

pub returns-in-Ok : goal.returns-in-Ok
returns-in-Ok g c =
    let old : World = record { told = g.F.Files.told c.args.files.now; counts = g.F.Files.counts c.args.files.now; out = g.O.Sink.taken c.args.out.now; out_faults = g.O.Sink.faults c.args.out.now; err = None; err_faults = 0 } in
    let new : World = record { told = g.F.Files.told c.run_over.new.files; counts = g.F.Files.counts c.run_over.new.files; out = g.O.Sink.taken c.run_over.new.out; out_faults = g.O.Sink.faults c.run_over.new.out; err = None; err_faults = 0 } in
    let mid : FilesAt = record { told = g.F.Files.told c.read_book.new.files; counts = g.F.Files.counts c.read_book.new.files } in
    let turns = c.args.run.turns in
    let shows = shows_of c.args.run.trace in
    let save = option_map (λ s. s.now) c.args.run.save in
    let sheets = sheets_view c.args.listed.sheets.now in
    let pr = project_view c.args.project in
    let f : Result Sheets BookStop → Shown = λ b. shown_of_book turns shows save sheets b pr in
    ran_over f sheets c.args.listed.number c.args.listed.taken c.in-Ok.book (shown_of_run turns shows save sheets c.in-Ok.book pr) c.run_over.result old mid new refl c.in-Ok.ensures c.run_over.ensures

pub returns-in-Err : goal.returns-in-Err
returns-in-Err g c =
    let old : World = record { told = g.F.Files.told c.args.files.now; counts = g.F.Files.counts c.args.files.now; out = g.O.Sink.taken c.args.out.now; out_faults = g.O.Sink.faults c.args.out.now; err = None; err_faults = 0 } in
    let mid : FilesAt = record { told = g.F.Files.told c.read_book.new.files; counts = g.F.Files.counts c.read_book.new.files } in
    let turns = c.args.run.turns in
    let shows = shows_of c.args.run.trace in
    let save = option_map (λ s. s.now) c.args.run.save in
    let sheets = sheets_view c.args.listed.sheets.now in
    let pr = project_view c.args.project in
    let f : Result Sheets BookStop → Shown = λ b. shown_of_book turns shows save sheets b pr in
    subst (λ (s : Status). RanProject turns shows save sheets c.args.listed.number c.args.listed.taken pr s old (with_files old mid)) (sym c.no_book.ensures)
    (ran_no_book f sheets c.args.listed.number c.args.listed.taken (λ reason. refl) c.in-Err.reason old mid c.in-Err.ensures)
