use Rattle.std.proofs.Common.{List, String, Global, map, ap, subst, ◌∙◌}
use Rattle.std.specs.Prelude.{option_map, string_bytes}
use Rattle.command_words.specs.View.{command_view}
use Rattle.list_file.specs.declared.list.ModulePath.{ModulePath}
use Rattle.list_file.specs.declared.list.SheetPath.{SheetPath}
use Rattle.vba_cli.specs.Command.{command_in}
use Rattle.vba_cli.specs.Steps.{Tells}
use Rattle.vba_cli.specs.Told.{named_of}
use Rattle.vba_cli.proofs.Promise.{commanded, wanted}
use Rattle.vba_cli.proofs.cli.run_cli.Goals as goal

pub returns-in-Ok : goal.returns-in-Ok
returns-in-Ok g c =
    let command = option_map command_view c.in-Ok.command in
    let performed = c.perform-performed.result in
    let modules = c.as_slice-in-Ok.result.now in
    commanded (map string_bytes c.args.words.now.items) command (named_of performed.modules.items performed.sheets.items) performed.status c.tell.result _ _
    (c.in-Ok.ensures ∙ ap (λ (ws : List (String Global)). command_in (map string_bytes ws)) c.as_slice.ensures.value) c.perform-performed.ensures
    (subst (λ (ms : List ModulePath). Tells command (named_of ms performed.sheets.items) performed.status c.tell.result (g.E.Sink.taken c.args.err.now) (g.E.Sink.taken c.tell.new.err) (g.E.Sink.faults c.args.err.now) (g.E.Sink.faults c.tell.new.err))
    c.as_slice-in-Ok.ensures.value
    (subst (λ (ss : List SheetPath). Tells command (named_of modules ss) performed.status c.tell.result (g.E.Sink.taken c.args.err.now) (g.E.Sink.taken c.tell.new.err) (g.E.Sink.faults c.args.err.now) (g.E.Sink.faults c.tell.new.err))
    c.as_slice-in-Ok-2.ensures.value c.tell.ensures))

pub returns-in-Err : goal.returns-in-Err
returns-in-Err g c = wanted (map string_bytes c.args.words.now.items) c.tell_want.result _ _ _ c.tell_want.ensures
