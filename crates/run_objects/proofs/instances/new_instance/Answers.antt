use Rattle.std.proofs.Common.{ℕ, List, ◌++◌, map, refl, ap, ◌∙◌}
use Rattle.std.specs.Prelude.{None, Option}
use Rattle.bound_project.specs.Project.{first_values}
use Rattle.bound_project.specs.View.{declarations_view}
use Rattle.run_objects.proofs.NewObjects.{new_by}
use Rattle.run_objects.proofs.instances.new_instance.Goals as goal

pub returns : goal.returns
returns c =
    let none : List ℕ → List (ℕ × Option ℕ) = λ is. map (λ (i : ℕ). (i, None)) is in
    new_by c.args.declared.now c.args.class _ _ _ _ refl
    (c.in_ok-fields.ensures ∙ ap (first_values (declarations_view c.args.declared.now)) c.fields_of.ensures)
    c.new.ensures.items
    (c.in_ok-add_unset.ensures ∙ ap (λ es. es ++ none c.with_events_of.result.now) c.new-set_numbers.ensures.items ∙ ap none c.with_events_of.ensures)
