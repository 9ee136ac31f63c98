use Rattle.std.proofs.Common.{◌≡◌, ℕ, ◌==◌, sym, ap, subst, ◌∙◌}
use Rattle.vba_lib.specs.declared.function.LibraryFunction.{LibraryFunction}
use Rattle.bound_members.specs.bound_calls.specs.bound_forms.specs.ExpressionsBound.{array_base}
use Rattle.bound_members.specs.bound_calls.specs.Standing.{base_number}
use Rattle.bound_names.specs.View.{env_view}
use Rattle.bound_names.proofs.Library.{base_one_is, no_array}
use Rattle.bound_names.proofs.functions.is_base_one.Goals as goal

pub returns-in-Array : goal.returns-in-Array
returns-in-Array c =
    let env = env_view c.args.env in
    let P : LibraryFunction → Type 0 = λ (f : LibraryFunction). base_number (c.base.result == 1) ≡ array_base env f in
    subst P (sym c.in-Array.is) (ap (λ (n : ℕ). base_number (n == 1)) c.base.ensures ∙ base_one_is env.scope.here.source)

pub returns-in_default : goal.returns-in_default
returns-in_default c = sym (no_array (env_view c.args.env) c.args.function c.in_default.not-Array)
