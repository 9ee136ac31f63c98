use Rattle.std.proofs.Common.{ap, refl, sym, ◌∙◌}
use Rattle.bound_project.specs.View.{declarations_view, declared_view}
use Rattle.bound_forms.specs.ClassDefaults.{set_by}
use Rattle.class_defaults.specs.Items.{plainly}
use Rattle.class_defaults.proofs.Passed.{class_is}
use Rattle.class_defaults.proofs.Counted.{set_more, set_no_more, set_other, set_step}
use Rattle.class_defaults.proofs.items.+setting.Goals as goal

pub set_by-returns-in-Some : goal.set_by-returns-in-Some
set_by-returns-in-Some t c =
    c.set_class.ensures ∙ ap (set_by (declarations_view c.args.declared.now) (plainly c.args.count) c.args.left) (sym (class_is (declared_view c.args.of) c.in-Some.class (sym c.in-Some.ensures)))

pub set_by-returns-in-None : goal.set_by-returns-in-None
set_by-returns-in-None t c = c.other_set.ensures ∙ sym (set_other (declarations_view c.args.declared.now) (plainly c.args.count) c.args.left (declared_view c.args.of) (sym c.in-None.ensures))

pub set_class-returns-in-On : goal.set_class-returns-in-On
set_class-returns-in-On t c = set_step (declarations_view c.args.declared.now) (plainly c.args.count) c.args.left c.args.class _ _ c.in-On.ensures c.set_on.ensures

pub set_class-returns-in-Ends : goal.set_class-returns-in-Ends
set_class-returns-in-Ends t c = set_step (declarations_view c.args.declared.now) (plainly c.args.count) c.args.left c.args.class _ _ c.in-Ends.ensures refl

pub set_on-returns-then-left-eq0 : goal.set_on-returns-then-left-eq0
set_on-returns-then-left-eq0 t c = set_no_more (declarations_view c.args.declared.now) (plainly c.args.count) c.args.left (declared_view c.args.of) c.if-left-eq0.true

pub set_on-returns : goal.set_on-returns
set_on-returns t c = c.set_by.ensures ∙ set_more (declarations_view c.args.declared.now) (plainly c.args.count) c.args.left (declared_view c.args.of) c.if-left-eq0.false
