use Rattle.std.proofs.Common.{ap, subst, sym}
use Rattle.std.specs.Prelude.{None, option_map}
use Rattle.command_words.specs.View.{command_view}
use Rattle.command_words.specs.Words.{check, code}
use Rattle.list_file.specs.Sources.{files_view, sheets_view}
use Rattle.list_file.specs.View.{start_view}
use Rattle.vba_cli.specs.Contract.{World}
use Rattle.vba_cli.specs.Program.{program_of}
use Rattle.vba_cli.specs.Steps.{RanSources}
use Rattle.vba_cli.proofs.Taken.{put_on, sources_alone}
use Rattle.vba_cli.proofs.running.take_sources.Goals as goal

pub returns-in-Check : goal.returns-in-Check
returns-in-Check g c =
    let meant = program_of (option_map (λ s. start_view s.now) c.args.start) (files_view c.args.sources.now) in
    let sheets = sheets_view c.args.listed.sheets.now in
    let old : World = record { told = g.F.Files.told c.args.files.now; counts = g.F.Files.counts c.args.files.now; out = g.O.Sink.taken c.args.out.now; out_faults = g.O.Sink.faults c.args.out.now; err = None; err_faults = 0 } in
    let out = g.O.Sink.taken c.check_sources.new.out in
    let faults = g.O.Sink.faults c.check_sources.new.out in
    subst (λ k. RanSources k sheets c.args.listed.number c.args.listed.taken meant c.check_sources.result old (put_on old out faults)) (ap command_view (sym c.in-Check.is))
    (sources_alone (check c.in-Check.file.now) sheets c.args.listed.number c.args.listed.taken meant old out faults c.check_sources.result (c.check_sources.ensures c.in-Check.file.now))

pub returns-in-Code : goal.returns-in-Code
returns-in-Code g c =
    let meant = program_of (option_map (λ s. start_view s.now) c.args.start) (files_view c.args.sources.now) in
    let sheets = sheets_view c.args.listed.sheets.now in
    let old : World = record { told = g.F.Files.told c.args.files.now; counts = g.F.Files.counts c.args.files.now; out = g.O.Sink.taken c.args.out.now; out_faults = g.O.Sink.faults c.args.out.now; err = None; err_faults = 0 } in
    let out = g.O.Sink.taken c.code_sources.new.out in
    let faults = g.O.Sink.faults c.code_sources.new.out in
    subst (λ k. RanSources k sheets c.args.listed.number c.args.listed.taken meant c.code_sources.result old (put_on old out faults)) (ap command_view (sym c.in-Code.is))
    (sources_alone (code c.in-Code.file.now) sheets c.args.listed.number c.args.listed.taken meant old out faults c.code_sources.result (c.code_sources.ensures c.in-Code.file.now))
