use Rattle.std.proofs.Common.{ℕ, Some, sym, ap, ◌∙◌}
use Rattle.bound_project.specs.View.{declaration_view}
use Rattle.bound_accesses.proofs.fields.field_at.Goals as goal

pub returns-in_ok-field-in-Some : goal.returns-in_ok-field-in-Some
returns-in_ok-field-in-Some c = record {
  declaration = declaration_view c.in-Some.declaration.now;
  is = sym c.in-Some.ensures ∙ ap (λ (n : ℕ). Some (n, declaration_view c.in-Some.declaration.now)) (sym c.in_ok-field-in-Some.ensures.number);
  of_is = sym c.in_ok-field-in-Some.ensures.of;
  bounds_are = sym c.in_ok-field-in-Some.ensures.bounds;
}

pub returns-in-None : goal.returns-in-None
returns-in-None c = sym c.in-None.ensures
