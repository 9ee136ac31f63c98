use Rattle.std.proofs.Common.{ap, refl, sym, ◌∙◌}
use Rattle.bound_project.specs.View.{declarations_view, declared_view}
use Rattle.bound_forms.specs.ClassDefaults.{led_by}
use Rattle.class_defaults.specs.Items.{plainly}
use Rattle.class_defaults.proofs.Passed.{class_is}
use Rattle.class_defaults.proofs.Counted.{led_more, led_no_more, led_other, led_step}
use Rattle.class_defaults.proofs.items.+leading.Goals as goal

pub led_by-returns-in-Some : goal.led_by-returns-in-Some
led_by-returns-in-Some t c =
    c.led_class.ensures ∙ ap (led_by (declarations_view c.args.declared.now) (plainly c.args.count) c.args.left) (sym (class_is (declared_view c.args.of) c.in-Some.class (sym c.in-Some.ensures)))

pub led_by-returns-in-None : goal.led_by-returns-in-None
led_by-returns-in-None t c = c.other_led.ensures ∙ sym (led_other (declarations_view c.args.declared.now) (plainly c.args.count) c.args.left (declared_view c.args.of) (sym c.in-None.ensures))

pub led_class-returns-in-On : goal.led_class-returns-in-On
led_class-returns-in-On t c = led_step (declarations_view c.args.declared.now) (plainly c.args.count) c.args.left c.args.class _ _ c.in-On.ensures c.led_on.ensures

pub led_class-returns-in-Ends : goal.led_class-returns-in-Ends
led_class-returns-in-Ends t c = led_step (declarations_view c.args.declared.now) (plainly c.args.count) c.args.left c.args.class _ _ c.in-Ends.ensures refl

pub led_on-returns-then-left-eq0 : goal.led_on-returns-then-left-eq0
led_on-returns-then-left-eq0 t c = led_no_more (declarations_view c.args.declared.now) (plainly c.args.count) c.args.left (declared_view c.args.of) c.if-left-eq0.true

pub led_on-returns : goal.led_on-returns
led_on-returns t c = c.led_by.ensures ∙ led_more (declarations_view c.args.declared.now) (plainly c.args.count) c.args.left (declared_view c.args.of) c.if-left-eq0.false
