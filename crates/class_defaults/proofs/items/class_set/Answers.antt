use Rattle.bound_project.specs.View.{declarations_view}
use Rattle.class_defaults.proofs.Counted.{whole_set}
use Rattle.class_defaults.proofs.items.class_set.Goals as goal

pub returns : goal.returns
returns c = whole_set (declarations_view c.args.declared.now) c.args.class c.args.count _ c.set_class.ensures
