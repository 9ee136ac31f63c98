use Rattle.std.proofs.Common.{ap, sym, ◌∙◌}
use Rattle.vba_values.specs.Val.{object}
use Rattle.vba_values.specs.View.{view}
use Rattle.bound_project.specs.Project.{is_variable}
use Rattle.bound_project.specs.View.{class_member_view, declarations_view}
use Rattle.vba_meaning.specs.Defaults.{variable_of}
use Rattle.run_memory.specs.View.{memory_view, path_view}
use Rattle.run_defaults.specs.Parts.{write_pass}
use Rattle.run_defaults.proofs.Going.{use_refused, use_then, view_object, write_more}
use Rattle.run_defaults.proofs.Passing.{variable_passes, variable_takes, write_object, write_other}
use Rattle.run_defaults.proofs.writing.+writing.Goals as goal

pub write_along-returns-in-Some : goal.write_along-returns-in-Some
write_along-returns-in-Some t c =
    rw (write_object (declarations_view c.args.declared.now) c.args.left (view c.args.value) (view c.args.target.now) c.in-Some.me (memory_view c.args.memory.now)
    c.in-Some.ensures.there c.in-Some.ensures.whether)
    c.write_own.ensures

pub write_along-returns-in-None : goal.write_along-returns-in-None
write_along-returns-in-None t c =
    rw (write_other (declarations_view c.args.declared.now) c.args.left (view c.args.value) (view c.args.target.now) (memory_view c.args.memory.now) c.in-None.ensures.whether)
    c.write_host.ensures

pub write_passed-returns-in_err-next : goal.write_passed-returns-in_err-next
write_passed-returns-in_err-next t c =
    rw (write_more (declarations_view c.args.declared.now) c.args.left (view c.args.value) (object c.args.me) (class_member_view c.args.member) (memory_view c.args.memory.now) c.if-left-eq0.false)
    (use_refused _ _ _ _ _ _ _ _ c.from_residual.ensures.1 c.in_err-next.ensures)

pub write_passed-returns : goal.write_passed-returns
write_passed-returns t c =
    rw (write_more (declarations_view c.args.declared.now) c.args.left (view c.args.value) (object c.args.me) (class_member_view c.args.member) (memory_view c.args.memory.now) c.if-left-eq0.false)
    (use_then _ _ _ _ _ _ _ _ _ _ c.in_ok-next.ensures c.write_next.ensures)

pub write_variable-returns-then-takes_objects : goal.write_variable-returns-then-takes_objects
write_variable-returns-then-takes_objects t c =
    rw (variable_passes (declarations_view c.args.declared.now) (view c.args.value) (path_view c.in_ok-path.path)
    (variable_of (declarations_view c.args.declared.now) (object c.args.me) c.args.field c.args.makes (memory_view c.args.memory.now)) (is_variable c.args.field c.args.makes)
    (λ x m1. write_pass (declarations_view c.args.declared.now) c.args.left (view c.args.value) (object c.args.me) x m1) (memory_view c.args.memory.now)
    (c.in_ok-path.ensures ∙ ap (λ w. variable_of (declarations_view c.args.declared.now) w c.args.field c.args.makes (memory_view c.args.memory.now)) (view_object c.args.me)) (sym c.if-takes_objects.true ∙ c.takes_objects.ensures))
    c.write_passed.ensures

pub write_variable-returns : goal.write_variable-returns
write_variable-returns t c =
    rw (variable_takes (declarations_view c.args.declared.now) (view c.args.value) (path_view c.in_ok-path.path)
    (variable_of (declarations_view c.args.declared.now) (object c.args.me) c.args.field c.args.makes (memory_view c.args.memory.now)) (is_variable c.args.field c.args.makes)
    (λ x m1. write_pass (declarations_view c.args.declared.now) c.args.left (view c.args.value) (object c.args.me) x m1) (memory_view c.args.memory.now)
    (c.in_ok-path.ensures ∙ ap (λ w. variable_of (declarations_view c.args.declared.now) w c.args.field c.args.makes (memory_view c.args.memory.now)) (view_object c.args.me)) (sym c.if-takes_objects.false ∙ c.takes_objects.ensures))
    c.put.ensures
