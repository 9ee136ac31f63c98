use Rattle.bound_project.specs.View.{declarations_view}
use Rattle.class_defaults.proofs.Counted.{whole_let}
use Rattle.class_defaults.proofs.items.class_let.Goals as goal

pub returns : goal.returns
returns c = whole_let (declarations_view c.args.declared.now) c.args.class c.args.count _ c.let_class.ensures
