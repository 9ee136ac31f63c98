use Rattle.std.proofs.Common.{sym, ◌∙◌}
use Rattle.vba_values.specs.declared.value.Value.TheVariants as value
use Rattle.vba_values.specs.View.{view}
use Rattle.bound_project.specs.View.{declarations_view}
use Rattle.run_memory.specs.View.{memory_view, path_view}
use Rattle.run_host.proofs.Telling.{acts_tell}
use Rattle.run_defaults.specs.View.{next_view}
use Rattle.run_defaults.proofs.Going.{use_same, view_empty}
use Rattle.run_defaults.proofs.Making.{read_none_by, read_some}
use Rattle.run_defaults.proofs.members.read_variable.Goals as goal

pub returns-in-Some : goal.returns-in-Some
returns-in-Some c =
    rw (read_some (declarations_view c.args.declared.now) (path_view c.args.path) c.in-Some.class (memory_view c.args.memory.now) (sym c.in-Some.is ∙ c.in_ok-class.ensures))
    c.read_new.ensures

pub returns-in-None : goal.returns-in-None
returns-in-None c =
    use_same _ _ _ _ _ _ _
    (read_none_by (declarations_view c.args.declared.now) (path_view c.args.path) (view value.Empty) (memory_view c.args.memory.now) (sym c.in-None.is ∙ c.in_ok-class.ensures) view_empty)
    (acts_tell next_view _ _ _ _ c.stored_and_read.ensures)
