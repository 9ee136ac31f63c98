use Rattle.bound_project.specs.View.{declared_view, storage_view}
use Rattle.bound_members.specs.bound_calls.specs.bound_declarations.specs.constant_values.specs.declared_names.specs.binder.specs.Constants.{home}
use Rattle.bound_members.specs.bound_calls.specs.bound_declarations.specs.constant_values.specs.declared_names.specs.binder.specs.Storage.{module_storage}
use Rattle.vba_tree.specs.View.{variable_view}
use Rattle.bound_members.specs.bound_calls.specs.bound_declarations.specs.constant_values.specs.declared_names.specs.View.{entry_view, scope_view, space_view}
use Rattle.bound_names.specs.View.{env_view}
use Rattle.bound_names.proofs.NamedTerms.{leaf_as, declared_kept}
use Rattle.bound_names.proofs.Sharing.{shared_is}
use Rattle.bound_names.proofs.names.module_variable.Goals as goal
use Rattle.bound_members.specs.bound_calls.specs.bound_forms.specs.ExpressionsBound.{variable_term}
use Rattle.std.proofs.Common.{sym, ap, ◌∙◌}
use Rattle.bound_names.specs.declared.names.Making.{Making}
use Rattle.bound_names.specs.Owned.{made_term, making_of}

pub returns : goal.returns
returns c =
    let env = env_view c.args.env in
    let scope = c.args.env.constants.scope in
    let space = space_view c.args.space.now in
    let v = variable_view c.args.variable.now in
    let kept = storage_view c.in_ok-kept.kept in
    let x = c.in_ok-shape.shape in
    let there = c.requires.there in
    let making : Making = c.making_of.result in
    let is_shape = shared_is scope c.args.env.declared.now space c.args.number (entry_view c.args.entry) v kept x c.requires.env.placed.numbered c.requires.env.declared there.0 there.1 c.requires.standard c.requires.what c.in_ok-kept.ensures
    c.in_ok-shape.ensures in
    λ d. leaf_as env d d c.variable_term.result (made_term making kept (declared_view x.of) x.bounds) (variable_term (home (scope_view scope) space) (module_storage (scope_view scope) space c.args.number) v)
    (ap (λ (m : Making). made_term m kept (declared_view x.of) x.bounds) (c.making_of.ensures ∙ ap making_of c.made_by-made.ensures)
    ∙ sym (declared_kept (home (scope_view scope) space) v kept x is_shape)
    ∙ ap (λ k. variable_term (home (scope_view scope) space) k v) c.in_ok-kept.ensures) (c.variable_term.ensures env d)
