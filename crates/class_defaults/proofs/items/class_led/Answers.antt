use Rattle.bound_project.specs.View.{declarations_view}
use Rattle.class_defaults.proofs.Counted.{whole_led}
use Rattle.class_defaults.proofs.items.class_led.Goals as goal

pub returns : goal.returns
returns c = whole_led (declarations_view c.args.declared.now) c.args.class c.args.count _ c.led_class.ensures
