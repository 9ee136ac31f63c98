use Rattle.std.proofs.Common.{ℕ, Bool, sym, ap, ◌∙◌}
use Rattle.bound_members.specs.bound_calls.specs.bound_forms.specs.Terms.{a_function}
use Rattle.bound_members.specs.bound_calls.specs.bound_declarations.specs.constant_values.specs.declared_names.specs.binder.specs.Scopes.{has_dollar}
use Rattle.bound_members.specs.bound_calls.specs.bound_forms.specs.ExpressionsBound.{array_base}
use Rattle.bound_names.specs.View.{env_view}
use Rattle.bound_names.proofs.Library.{function_leaf}
use Rattle.bound_names.proofs.functions.function_term.Goals as goal

pub returns : goal.returns
returns c =
    let env = env_view c.args.env in
    let f = c.args.function in
    let dollar = c.has_dollar.result in
    let one = c.is_base_one.result in
    λ d. function_leaf env d (record { function = f; is_text_form = dollar; is_base_one = one; compare = c.args.env.compare }) (a_function f (has_dollar c.args.name.now) (array_base env f))
    (ap (λ (b : Bool). a_function f b (array_base env f)) (sym c.has_dollar.ensures) ∙ ap (λ (n : ℕ). a_function f dollar n) (sym c.is_base_one.ensures)) c.args.env.compare_is
