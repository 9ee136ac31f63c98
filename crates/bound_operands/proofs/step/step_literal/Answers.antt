use Rattle.std.proofs.Common.{refl, None}
use Rattle.std.specs.Prelude.{reverse}
use Rattle.vba_values.specs.View.{view as value_view}
use Rattle.vba_expression.specs.Tree.{literal}
use Rattle.bound_project.specs.DraftView.{draft_view}
use Rattle.bound_members.specs.bound_calls.specs.bound_declarations.specs.constant_values.specs.declared_names.specs.binder.specs.Constants.{literal_meant}
use Rattle.bound_members.specs.bound_calls.proofs.Steps.{goes_leaf, literal_leaf}
use Rattle.bound_operands.proofs.step.step_literal.Goals as goal

pub returns : goal.returns
returns c =
    let l = c.args.literal.now in
    let x = c.in_ok-term.term in
    let d = draft_view c.args.draft.now in
    let e = draft_view c.settle.new.draft in
    let f = draft_view c.value_term.new.draft in
    λ env told. goes_leaf env (reverse c.args.stack.now.items) (reverse c.settle.new.stack.items) (reverse c.put_item.new.stack.items) d e f (record { place = l.token.place; name = None; dotted = None; term = x; declared = c.args.declared }) (literal l) told (c.in_ok-settle.ensures env)
    (literal_leaf env e f x (value_view c.in_ok-value.value) (literal_meant l.value) c.value_type-of.result c.value_type-of.ensures c.in_ok-value.ensures (c.in_ok-term.ensures env)) refl refl refl c.in_ok-put_item.ensures
