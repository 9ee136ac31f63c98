use Rattle.std.proofs.Common.{ap, refl, sym, ◌∙◌}
use Rattle.bound_project.specs.View.{declarations_view, declared_view}
use Rattle.bound_forms.specs.ClassDefaults.{let_by}
use Rattle.class_defaults.specs.Items.{plainly}
use Rattle.class_defaults.proofs.Passed.{class_is}
use Rattle.class_defaults.proofs.Counted.{let_more, let_no_more, let_other, let_step}
use Rattle.class_defaults.proofs.items.+letting.Goals as goal

pub let_by-returns-in-Some : goal.let_by-returns-in-Some
let_by-returns-in-Some t c =
    c.let_class.ensures ∙ ap (let_by (declarations_view c.args.declared.now) (plainly c.args.count) c.args.left) (sym (class_is (declared_view c.args.of) c.in-Some.class (sym c.in-Some.ensures)))

pub let_by-returns-in-None : goal.let_by-returns-in-None
let_by-returns-in-None t c = c.other_let.ensures ∙ sym (let_other (declarations_view c.args.declared.now) (plainly c.args.count) c.args.left (declared_view c.args.of) (sym c.in-None.ensures))

pub let_class-returns-in-On : goal.let_class-returns-in-On
let_class-returns-in-On t c = let_step (declarations_view c.args.declared.now) (plainly c.args.count) c.args.left c.args.class _ _ c.in-On.ensures c.let_on.ensures

pub let_class-returns-in-Ends : goal.let_class-returns-in-Ends
let_class-returns-in-Ends t c = let_step (declarations_view c.args.declared.now) (plainly c.args.count) c.args.left c.args.class _ _ c.in-Ends.ensures refl

pub let_on-returns-then-left-eq0 : goal.let_on-returns-then-left-eq0
let_on-returns-then-left-eq0 t c = let_no_more (declarations_view c.args.declared.now) (plainly c.args.count) c.args.left (declared_view c.args.of) c.if-left-eq0.true

pub let_on-returns : goal.let_on-returns
let_on-returns t c = c.let_by.ensures ∙ let_more (declarations_view c.args.declared.now) (plainly c.args.count) c.args.left (declared_view c.args.of) c.if-left-eq0.false
