use Rattle.std.proofs.Common.{Bool, ◌&&◌, not, ap, sym, ◌∙◌}
use Rattle.std.proofs.lemmas.Bool.{or_parts}
use Rattle.vba_expression.specs.View.{view}
use Rattle.bound_project.specs.DraftView.{draft_view}
use Rattle.bound_terms.specs.bound_accesses.specs.bound_names.specs.View.{env_view}
use Rattle.statement_terms.specs.Kept.{is_of_object, lends}
use Rattle.statement_terms.specs.Terms.{may_be_object}
use Rattle.statement_terms.proofs.Placing.{with_object_bound, with_place_bound, with_value_bound}
use Rattle.bound_lines.proofs.places.bind_with.Goals as goal

pub with_place-requires-clause-plain : goal.with_place-requires-clause-plain
with_place-requires-clause-plain c =
    (or_parts (may_be_object c.in-Some.at.of) (is_of_object c.in-Some.at.kind) (sym c.is_kept_as_value.ensures ∙ c.if-is_kept_as_value.false)).0

pub returns-in_ok-with_place-in-Some : goal.returns-in_ok-with_place-in-Some
returns-in_ok-with_place-in-Some c =
    with_place_bound (env_view c.args.env) (view c.args.expression.now) c.in_ok-tree.tree c.in-Some.at (draft_view c.args.draft.now) (draft_view c.tree_of.new.draft) (draft_view c.with_place.new.draft) c.requires.empty c.in_ok-tree.ensures
    (sym c.in-Some.ensures) (ap (λ (h : Bool). h && not (lends c.in_ok-tree.tree.term)) (sym c.args.env.has_class_is) ∙ sym c.may_be_part.ensures ∙ c.if-may_be_part.false) c.in_ok-with_place-in-Some.ensures

pub returns-in_ok-push_given-in-None : goal.returns-in_ok-push_given-in-None
returns-in_ok-push_given-in-None c =
    with_value_bound (env_view c.args.env) (view c.args.expression.now) c.in_ok-tree.tree c.in_ok-push_given-in-None.field-0 (draft_view c.args.draft.now) (draft_view c.tree_of.new.draft) (draft_view c.push_given-in-None.new.draft) c.requires.empty c.in_ok-tree.ensures
    (sym c.in-None.ensures) c.in_ok-push_given-in-None.ensures

pub returns-then-is_kept_as_value : goal.returns-then-is_kept_as_value
returns-then-is_kept_as_value c =
    with_object_bound (env_view c.args.env) (view c.args.expression.now) c.in_ok-tree.tree c.in-Some.at c.in_ok-push_given-in-Some.field-0 (draft_view c.args.draft.now) (draft_view c.tree_of.new.draft)
    (draft_view c.push_given.new.draft) c.requires.empty c.in_ok-tree.ensures (sym c.in-Some.ensures) (sym c.is_kept_as_value.ensures ∙ c.if-is_kept_as_value.true) c.in_ok-push_given-in-Some.ensures
