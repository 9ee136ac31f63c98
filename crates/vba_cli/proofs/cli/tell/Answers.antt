use Rattle.std.proofs.Common.{refl, sym, subst, inr}
use Rattle.vba_cli.specs.declared.status.Status.TheVariants.{NoMemory}
use Rattle.std.specs.Prelude.{option_map}
use Rattle.command_words.specs.View.{command_view}
use Rattle.vba_cli.specs.Answer.{err_of}
use Rattle.vba_cli.specs.Steps.{Puts}
use Rattle.vba_cli.specs.Told.{named_of}
use Rattle.vba_cli.proofs.Steps.{told_by}
use Rattle.vba_cli.proofs.cli.tell.Goals as goal

pub returns-in-NoMemory : goal.returns-in-NoMemory
returns-in-NoMemory g c =
    let l = named_of c.args.modules.now c.args.sheets.now in
    let own = subst (λ s. Puts (err_of (option_map command_view c.args.command) l s) c.args.status c.put_line.result (g.E.Sink.taken c.args.err.now) (g.E.Sink.taken c.put_line.new.err) (g.E.Sink.faults c.args.err.now) (g.E.Sink.faults c.put_line.new.err))
    (sym c.in-NoMemory.is) c.put_line.ensures in
    told_by (option_map command_view c.args.command) l c.args.status c.args.status c.put_line.result (g.E.Sink.taken c.args.err.now) (g.E.Sink.taken c.put_line.new.err) (g.E.Sink.faults c.args.err.now) (g.E.Sink.faults c.put_line.new.err) (inr c.in-NoMemory.is) own

pub returns-in-Err : goal.returns-in-Err
returns-in-Err g c =
    let l = named_of c.args.modules.now c.args.sheets.now in
    told_by (option_map command_view c.args.command) l c.args.status NoMemory c.put_line-in-Err.result (g.E.Sink.taken c.args.err.now) (g.E.Sink.taken c.put_line-in-Err.new.err) (g.E.Sink.faults c.args.err.now) (g.E.Sink.faults c.put_line-in-Err.new.err) (inr refl) c.put_line-in-Err.ensures
