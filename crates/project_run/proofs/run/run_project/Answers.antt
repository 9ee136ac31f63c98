use Rattle.std.proofs.Common.{◌≡◌}
use Rattle.bound_project.specs.Bodies.{project_view}
use Rattle.pcode.specs.View.{code_view}
use Rattle.project_run.proofs.Meets.{meets, begins}
use Rattle.project_run.proofs.run.run_project.Goals as goal

pub returns-in-Ok-run-clause-meant : goal.returns-in-Ok-run-clause-meant
returns-in-Ok-run-clause-meant g c =
    let pr = project_view c.args.project in
    meets pr c.args.book c.args.turns c.args.shows (code_view c.in-Ok.code) c.in-Ok-run.ending c.in-Ok-run.left c.outcome.result (g.S.Sink.taken c.args.sink.now) (g.S.Sink.taken c.run.new.sink)
    c.in-Ok.ensures.code (c.outcome.ensures pr c.in-Ok.ensures.headers c.in-Ok.ensures.statements) c.in-Ok-run.ensures.ran

pub returns-in-Err-WriteFault-clause-meant : goal.returns-in-Err-WriteFault-clause-meant
returns-in-Err-WriteFault-clause-meant g c =
    begins (project_view c.args.project) c.args.book c.args.turns c.args.shows (code_view c.in-Ok.code) c.in-Err-WriteFault.field-0 (g.S.Sink.taken c.args.sink.now) (g.S.Sink.taken c.run.new.sink)
    c.in-Ok.ensures.code c.in-Err-WriteFault.ensures.cut

pub returns-in-Err-NoMemory-clause-meant : goal.returns-in-Err-NoMemory-clause-meant
returns-in-Err-NoMemory-clause-meant g c =
    begins (project_view c.args.project) c.args.book c.args.turns c.args.shows (code_view c.in-Ok.code) c.in-Err-NoMemory.field-0 (g.S.Sink.taken c.args.sink.now) (g.S.Sink.taken c.run.new.sink)
    c.in-Ok.ensures.code c.in-Err-NoMemory.ensures.cut

pub returns-clause-meant : goal.returns-clause-meant
returns-clause-meant g c =
    begins (project_view c.args.project) c.args.book c.args.turns c.args.shows (code_view c.in-Ok.code) c.in-Err-Stuck.field-0 (g.S.Sink.taken c.args.sink.now) (g.S.Sink.taken c.run.new.sink)
    c.in-Ok.ensures.code c.in-Err-Stuck.ensures.cut
