use Rattle.std.proofs.Common.{sym, ap, ◌∙◌}
use Rattle.std.specs.Prelude.{option_map}
use Rattle.bound_members.specs.bound_calls.specs.bound_declarations.specs.constant_values.specs.declared_names.specs.View.{space_view}
use Rattle.bound_names.proofs.classes.class_member.Goals as goal

pub member_in-requires-clause-found : goal.member_in-requires-clause-found
member_in-requires-clause-found c = sym c.in_ok-found.ensures ∙ ap (λ o. option_map (λ space. space_view space.now) o) c.in-Some.is
