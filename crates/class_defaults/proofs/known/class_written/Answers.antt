use Rattle.std.proofs.Common.{refl}
use Rattle.bound_project.specs.View.{declarations_view}
use Rattle.class_defaults.proofs.Passed.{written_whole}
use Rattle.class_defaults.proofs.known.class_written.Goals as goal

pub returns-in-On : goal.returns-in-On
returns-in-On c = written_whole (declarations_view c.args.declared.now) c.args.class _ _ c.in-On.ensures c.written_by.ensures

pub returns-in-Ends : goal.returns-in-Ends
returns-in-Ends c = written_whole (declarations_view c.args.declared.now) c.args.class _ _ c.in-Ends.ensures refl
