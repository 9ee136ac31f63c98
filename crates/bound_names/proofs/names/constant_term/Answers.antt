use Rattle.std.proofs.Common.{Some, sym, ap, ◌∙◌}
use Rattle.std.specs.Prelude.{option_map}
use Rattle.vba_values.specs.View.{view as value_view}
use Rattle.bound_project.specs.DraftView.{draft_view}
use Rattle.bound_members.specs.bound_calls.specs.bound_declarations.specs.constant_values.specs.View.{known_view}
use Rattle.bound_members.specs.bound_calls.specs.bound_declarations.specs.constant_values.specs.declared_names.specs.View.{meant_view}
use Rattle.bound_names.specs.View.{env_view}
use Rattle.bound_names.proofs.NamedTerms.{constant_leaf}
use Rattle.bound_names.proofs.names.constant_term.Goals as goal

pub returns : goal.returns
returns c =
    let env = env_view c.args.env in
    constant_leaf env c.args.name.now (Some (meant_view c.args.meant)) (draft_view c.args.draft.now) (draft_view c.value_term.new.draft) c.in_ok-term.term (known_view c.in-Some.known) (value_view c.in_ok-value.value)
    (ap (λ o. option_map known_view o) (sym c.in-Some.is) ∙ c.in_ok-found.ensures) c.in_ok-value.ensures.copy (c.in_ok-term.ensures env)
