use Rattle.std.proofs.Common.{subst}
use Rattle.std.specs.Prelude.{Ok, option_map}
use Rattle.list_file.specs.Sources.{files_view}
use Rattle.list_file.specs.View.{start_view}
use Rattle.vba_cli.specs.Program.{program_of}
use Rattle.vba_cli.specs.Programs.{IsProgram}
use Rattle.vba_cli.proofs.Shown.{code_left}
use Rattle.vba_cli.proofs.running.code_sources.Goals as goal

-- a part that isn't built yet is told, and nothing is put
pub returns-in-Ok-NotBuilt : goal.returns-in-Ok-NotBuilt
returns-in-Ok-NotBuilt g c = λ path.
    let meant = program_of (option_map (λ s. start_view s.now) c.args.start) (files_view c.args.sources.now) in
    code_left path meant c.in-Ok-NotBuilt.place (g.O.Sink.taken c.args.out.now) (g.O.Sink.faults c.args.out.now)
    (subst (λ b. IsProgram meant (Ok b)) c.in-Ok-NotBuilt.field-0-is c.in-Ok-NotBuilt.ensures)
