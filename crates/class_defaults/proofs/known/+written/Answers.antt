use Rattle.std.proofs.Common.{ap, refl, sym, ◌∙◌}
use Rattle.bound_project.specs.View.{declarations_view, declared_view}
use Rattle.bound_forms.specs.ClassDefaults.{written_by}
use Rattle.class_defaults.proofs.Passed.{class_is, on_more, on_past, other_by, written_step}
use Rattle.class_defaults.proofs.known.+written.Goals as goal

pub written_by-returns-in-Some : goal.written_by-returns-in-Some
written_by-returns-in-Some t c =
    c.written_class.ensures ∙ ap (written_by (declarations_view c.args.declared.now) c.args.left) (sym (class_is (declared_view c.args.of) c.in-Some.class (sym c.in-Some.ensures)))

pub written_by-returns-in-None : goal.written_by-returns-in-None
written_by-returns-in-None t c = c.other_written.ensures ∙ sym (other_by (declarations_view c.args.declared.now) c.args.left (declared_view c.args.of) (sym c.in-None.ensures))

pub written_class-returns-in-On : goal.written_class-returns-in-On
written_class-returns-in-On t c = written_step (declarations_view c.args.declared.now) c.args.left c.args.class _ _ c.in-On.ensures c.written_on.ensures

pub written_class-returns-in-Ends : goal.written_class-returns-in-Ends
written_class-returns-in-Ends t c = written_step (declarations_view c.args.declared.now) c.args.left c.args.class _ _ c.in-Ends.ensures refl

pub written_on-returns-then-left-eq0 : goal.written_on-returns-then-left-eq0
written_on-returns-then-left-eq0 t c = on_past (declarations_view c.args.declared.now) c.args.left (declared_view c.args.of) c.if-left-eq0.true

pub written_on-returns : goal.written_on-returns
written_on-returns t c = c.written_by.ensures ∙ on_more (declarations_view c.args.declared.now) c.args.left (declared_view c.args.of) c.if-left-eq0.false
