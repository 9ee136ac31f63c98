use Rattle.std.proofs.Common.{subst}
use Rattle.std.specs.Prelude.{None, Ok, option_map}
use Rattle.bound_project.specs.Bodies.{project_view}
use Rattle.list_file.specs.Sources.{sheets_view}
use Rattle.project_run.specs.declared.outcome.Outcome.{Outcome}
use Rattle.project_run.specs.declared.outcome.Outcome.TheVariants.{Ended}
use Rattle.project_run.specs.Meant.{RunsAsMeant, meant_book, meant_outcome, meant_text}
use Rattle.vba_cli.specs.Answer.{shows_of}
use Rattle.vba_cli.specs.Contract.{World}
use Rattle.vba_cli.proofs.Taken.{ran_saved}
use Rattle.vba_cli.proofs.running.run_over.Goals as goal

-- the run came to its end
pub returns-in-Ok-Ended-default : goal.returns-in-Ok-Ended-default
returns-in-Ok-Ended-default g c =
    let turns = c.args.run.turns in
    let shows = shows_of c.args.run.trace in
    let save = option_map (λ s. s.now) c.args.run.save in
    let sheets = sheets_view c.args.sheets.now in
    let pr = project_view c.args.project in
    let left = c.in-Ok-Ended-default.left in
    let old : World = record { told = g.F.Files.told c.args.files.now; counts = g.F.Files.counts c.args.files.now; out = g.O.Sink.taken c.args.out.now; out_faults = g.O.Sink.faults c.args.out.now; err = None; err_faults = 0 } in
    let new : World = record { told = g.F.Files.told c.saved.new.files; counts = g.F.Files.counts c.saved.new.files; out = g.O.Sink.taken c.run_project.new.sink; out_faults = g.O.Sink.faults c.run_project.new.sink; err = None; err_faults = 0 } in
    let meant : RunsAsMeant pr c.args.book turns shows (Ok (c.in-Ok-Ended-default.field-0-0, left)) old.out new.out =
    subst (λ k. RunsAsMeant pr c.args.book turns k (Ok (c.in-Ok-Ended-default.field-0-0, left)) old.out new.out) c.shows_of.ensures c.in-Ok-Ended-default.ensures.meant in
    let ended : RunsAsMeant pr c.args.book turns shows (Ok (Ended, left)) old.out new.out =
    subst (λ (o : Outcome). RunsAsMeant pr c.args.book turns shows (Ok (o, left)) old.out new.out) c.in-Ok-Ended-default.field-0-0-is meant in
    let rest = ended.1 in
    ran_saved save sheets (meant_outcome pr c.args.book turns) left (meant_book pr c.args.book turns) (meant_text pr c.args.book turns shows) c.saved.result old new
    ended.0 rest.0 rest.1 c.in-Ok-Ended-default.ensures.faults c.saved.ensures
