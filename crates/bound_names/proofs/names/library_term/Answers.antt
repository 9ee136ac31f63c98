use Rattle.std.proofs.Common.{true, false, Some, sym}
use Rattle.std.proofs.lemmas.Result.{IfOk-weaker}
use Rattle.bound_project.specs.DraftView.{draft_view}
use Rattle.bound_members.specs.bound_calls.specs.bound_declarations.specs.constant_values.specs.declared_names.specs.binder.specs.Scopes.{has_dollar, of_library}
use Rattle.bound_members.specs.bound_calls.specs.bound_forms.specs.Terms.{a_function}
use Rattle.bound_members.specs.bound_calls.specs.bound_forms.specs.ExpressionsBound.{array_base, constant_term, library_term}
use Rattle.bound_names.specs.View.{env_view}
use Rattle.bound_names.proofs.Library.{error_leaf, library_constant, library_function, word_is}
use Rattle.bound_names.proofs.NamedTerms.{leaf_as}
use Rattle.bound_names.proofs.names.library_term.Goals as goal

pub returns-then-is_word : goal.returns-then-is_word
returns-then-is_word c =
    let x = c.args.name.now in
    error_leaf (env_view c.args.env) (draft_view c.args.draft.now) x (word_is c.units.result.now x true c.is_word.result c.units.ensures c.is_word.ensures c.if-is_word.true)

pub returns-in-Some : goal.returns-in-Some
returns-in-Some c =
    let env = env_view c.args.env in
    let d = draft_view c.args.draft.now in
    let x = c.args.name.now in
    let f = c.in-Some.function in
    leaf_as env d d c.function_term.result (a_function f (has_dollar x) (array_base env f)) (library_term env x)
    (sym (library_function env x f (word_is c.units.result.now x false c.is_word.result c.units.ensures c.is_word.ensures c.if-is_word.false) (sym c.in-Some.ensures))) (c.function_term.ensures d)

pub returns-in-None : goal.returns-in-None
returns-in-None c =
    let env = env_view c.args.env in
    let d = draft_view c.args.draft.now in
    let e = draft_view c.constant_term.new.draft in
    let x = c.args.name.now in
    IfOk-weaker c.constant_term.result _ _
    (λ t m. leaf_as env d e t (constant_term env x (Some of_library)) (library_term env x)
    (sym (library_constant env x (word_is c.units.result.now x false c.is_word.result c.units.ensures c.is_word.ensures c.if-is_word.false) (sym c.in-None.ensures))) m) c.constant_term.ensures
