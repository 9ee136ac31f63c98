-- What a procedure gives that is called without arguments, or what it lacks.
use Rattle.std.proofs.Common.{◌≡◌, ℕ, Bool, true, false, [], Option, Some, None, refl, sym, ◌∙◌}
use Rattle.vba_base.specs.declared.place.Place.{Place}
use Rattle.bound_project.specs.Expressions as bound
use Rattle.bound_members.specs.bound_calls.specs.bound_declarations.specs.constant_values.specs.declared_names.specs.binder.specs.Declarations.{Written}
use Rattle.bound_members.specs.bound_calls.specs.bound_declarations.specs.constant_values.specs.declared_names.specs.binder.specs.Scopes.{Space}
use Rattle.bound_members.specs.bound_calls.specs.bound_declarations.specs.constant_values.specs.declared_names.specs.binder.specs.Signatures.{parameters_in, reader}
use Rattle.bound_members.specs.bound_calls.specs.bound_declarations.specs.constant_values.specs.declared_names.specs.binder.specs.Options.{or_else}
use Rattle.bound_members.specs.bound_calls.specs.bound_forms.specs.Terms.{Env, bound_arguments, read_as, routine_term, takes, typed_value}
use Rattle.bound_members.specs.bound_calls.specs.bound_forms.specs.Operands.{bare_call, called_alone, given_as, term_or, typed_reference}
use Rattle.bound_members.specs.bound_calls.specs.bound_forms.specs.ExpressionsBound.{indexed, wrong_call}
use Rattle.bound_members.specs.bound_calls.proofs.Refusing.{refused}

-- the same by its parts, whatever it is called of
abbrev given_called : Env → Place → Option bound.Expr → Space → ℕ → Written → Option bound.Expr
given_called env place base s n w =
    or_else (read_as typed_value (called_alone env place base s n w) place) (read_as typed_reference (called_alone env place base s n w) place)

abbrev indexed_called : Env → Place → Option bound.Expr → Space → ℕ → Written → Option bound.Expr
indexed_called env place base s n w = given_as env (term_or (bare_call env base s n w) (wrong_call env place base s n w [])) place

given_parts : (env : Env) (place : Place) (base : Option bound.Expr) (s : Space) (n : ℕ) (w : Written) → given_as env (routine_term base s n w) place ≡ given_called env place base s n w
given_parts env place None s n w = refl
given_parts env place (Some b) s n w = refl

indexed_parts : (env : Env) (place : Place) (base : Option bound.Expr) (s : Space) (n : ℕ) (w : Written) → given_as env (indexed env place (routine_term base s n w) []) place ≡ indexed_called env place base s n w
indexed_parts env place None s n w = refl
indexed_parts env place (Some b) s n w = refl

parts_same : (env : Env) (place : Place) (base : Option bound.Expr) (s : Space) (n : ℕ) (w : Written) → given_called env place base s n w ≡ indexed_called env place base s n w
parts_same env place base s n w = by_reader (reader env.scope s n w) refl
  where
    by_reader : (found : Option (ℕ × Written)) → reader env.scope s n w ≡ found → given_called env place base s n w ≡ indexed_called env place base s n w
    by_reader None e = rw e refl
    by_reader (Some f) e = by_arguments (takes (parameters_in env.scope s f.1) []) (bound_arguments (λ of t at. None) (parameters_in env.scope s f.1) []) refl refl
      where
        by_arguments : (taken : Bool) (args : Option bound.Args) → takes (parameters_in env.scope s f.1) [] ≡ taken → bound_arguments (λ of t at. None) (parameters_in env.scope s f.1) [] ≡ args
            → given_called env place base s n w ≡ indexed_called env place base s n w
        by_arguments true None k l = rw (e, k, l) refl
        by_arguments true (Some args) k l = rw (e, k, l) refl
        by_arguments false None k l = rw (e, k, l) refl
        by_arguments false (Some args) k l =
            let none : bound_arguments (λ of t at. None) (parameters_in env.scope s f.1) [] ≡ None = refused (λ of t at. None) (parameters_in env.scope s f.1) [] k in
            let wrong : None ≡ Some args = sym none ∙ l in
            absurd cc

pub called_same : (env : Env) (place : Place) (base : Option bound.Expr) (s : Space) (n : ℕ) (w : Written)
    → given_as env (routine_term base s n w) place ≡ given_as env (indexed env place (routine_term base s n w) []) place
called_same env place base s n w = given_parts env place base s n w ∙ parts_same env place base s n w ∙ sym (indexed_parts env place base s n w)
