use Rattle.std.proofs.Common.{Some, sym, subst}
use Rattle.std.specs.Prelude.{IfOk}
use Rattle.vba_words.specs.declared.identifier.Identifier.{Identifier}
use Rattle.bound_project.specs.Drafts.{Drafted}
use Rattle.bound_members.specs.bound_calls.specs.bound_forms.specs.ExpressionsBound.{meant_term}
use Rattle.bound_members.specs.bound_calls.specs.bound_declarations.specs.constant_values.specs.Rounds.{IsThere}
use Rattle.bound_members.specs.bound_calls.specs.bound_declarations.specs.constant_values.specs.declared_names.specs.declared.scope.Meant.{Meant}
use Rattle.bound_members.specs.bound_calls.specs.bound_declarations.specs.constant_values.specs.declared_names.specs.View.{meant_view, scope_view}
use Rattle.bound_members.specs.bound_calls.specs.Steps.{MakesLeaf}
use Rattle.bound_names.specs.View.{env_view}
use Rattle.bound_names.proofs.names.meant_variable.Goals as goal

pub standard_term-requires-clause-there : goal.standard_term-requires-clause-there
standard_term-requires-clause-there c = let A : Meant → Type 0 = λ (m : Meant). IsThere (scope_view c.args.env.constants.scope) (Some (meant_view m)) in subst A c.in-OfModule.is c.requires.there

pub returns-in-OfProcedure : goal.returns-in-OfProcedure
returns-in-OfProcedure c =
    let env = env_view c.args.env in
    let A : Meant → Type 0 = λ (m : Meant). IfOk c.own_variable.result (λ t. (d : Drafted) (x : Identifier) → MakesLeaf env d d t (meant_term env x (Some (meant_view m)))) in
    subst A (sym c.in-OfProcedure.is) c.own_variable.ensures

pub returns-in-OfModule : goal.returns-in-OfModule
returns-in-OfModule c =
    let env = env_view c.args.env in
    let A : Meant → Type 0 = λ (m : Meant). IfOk c.standard_term.result (λ t. (d : Drafted) (x : Identifier) → MakesLeaf env d d t (meant_term env x (Some (meant_view m)))) in
    subst A (sym c.in-OfModule.is) c.standard_term.ensures
