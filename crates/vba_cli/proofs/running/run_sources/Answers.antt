use Rattle.std.proofs.Common.{subst}
use Rattle.std.specs.Prelude.{None, Ok, option_map}
use Rattle.bound_project.specs.Bodies.{project_view}
use Rattle.list_file.specs.Sources.{files_view, sheets_view}
use Rattle.list_file.specs.View.{start_view}
use Rattle.vba_cli.specs.Contract.{World}
use Rattle.vba_cli.specs.Program.{program_of}
use Rattle.vba_cli.specs.Programs.{IsProgram}
use Rattle.vba_cli.proofs.Taken.{sources_left, sources_ran}
use Rattle.vba_cli.proofs.running.run_sources.Goals as goal

-- a part that isn't built yet is told, and nothing is put
pub returns-in-Ok-NotBuilt : goal.returns-in-Ok-NotBuilt
returns-in-Ok-NotBuilt g c = λ path.
    let meant = program_of (option_map (λ s. start_view s.now) c.args.start) (files_view c.args.sources.now) in
    let old : World = record { told = g.F.Files.told c.args.files.now; counts = g.F.Files.counts c.args.files.now; out = g.O.Sink.taken c.args.out.now; out_faults = g.O.Sink.faults c.args.out.now; err = None; err_faults = 0 } in
    sources_left path c.args.run.turns c.args.run.trace (option_map (λ s. s.now) c.args.run.save) (sheets_view c.args.listed.sheets.now) c.args.listed.number c.args.listed.taken meant c.in-Ok-NotBuilt.place old
    (subst (λ b. IsProgram meant (Ok b)) c.in-Ok-NotBuilt.field-0-is c.in-Ok-NotBuilt.ensures)

pub returns-in-Ok-Runs : goal.returns-in-Ok-Runs
returns-in-Ok-Runs g c = λ path.
    let start = option_map (λ s. start_view s.now) c.args.start in
    let files = files_view c.args.sources.now in
    let is = subst (λ b. IsProgram (program_of start files) (Ok b)) c.in-Ok-Runs.field-0-is c.in-Ok-Runs.ensures in
    let old : World = record { told = g.F.Files.told c.args.files.now; counts = g.F.Files.counts c.args.files.now; out = g.O.Sink.taken c.args.out.now; out_faults = g.O.Sink.faults c.args.out.now; err = None; err_faults = 0 } in
    let new : World = record { told = g.F.Files.told c.run_bound.new.files; counts = g.F.Files.counts c.run_bound.new.files; out = g.O.Sink.taken c.run_bound.new.out; out_faults = g.O.Sink.faults c.run_bound.new.out; err = None; err_faults = 0 } in
    sources_ran path c.args.run.turns c.args.run.trace (option_map (λ s. s.now) c.args.run.save) (sheets_view c.args.listed.sheets.now) c.args.listed.number c.args.listed.taken (program_of start files) (project_view c.in-Ok-Runs.project) c.run_bound.result old new is.1 c.run_bound.ensures
