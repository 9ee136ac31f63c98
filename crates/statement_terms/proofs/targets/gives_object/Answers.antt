use Rattle.std.proofs.Common.{sym, ◌∙◌}
use Rattle.statement_terms.proofs.WrittenTargets.{ends_object, ends_variant}
use Rattle.statement_terms.proofs.targets.gives_object.Goals as goal

pub returns-then-is_object : goal.returns-then-is_object
returns-then-is_object c =
    ends_object c.args.ending (sym c.is_kept.ensures ∙ c.if-is_kept.false) (sym c.is_item_along.ensures ∙ c.if-is_item_along.false) (sym c.if-not-is_value_kind.ensures) (sym c.is_object.ensures ∙ c.if-is_object.true)

pub returns-in-Some : goal.returns-in-Some
returns-in-Some c =
    ends_variant c.args.ending c.in-Some.gives (sym c.is_kept.ensures ∙ c.if-is_kept.false) (sym c.is_item_along.ensures ∙ c.if-is_item_along.false) (sym c.if-not-is_value_kind.ensures) (sym c.if-not-ends_value.ensures)
    c.in-Some.ensures
