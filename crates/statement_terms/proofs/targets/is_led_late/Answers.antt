use Rattle.std.proofs.Common.{sym, ◌∙◌}
use Rattle.bound_project.specs.DraftView.{draft_view}
use Rattle.statement_terms.proofs.WrittenTargets.{late_class, late_other, late_variant}
use Rattle.statement_terms.proofs.targets.is_led_late.Goals as goal

pub returns-then-is_variant : goal.returns-then-is_variant
returns-then-is_variant c = late_variant c.args.has_class (draft_view c.args.draft.now).tables c.args.ending (sym c.is_variant.ensures ∙ c.if-is_variant.true)

pub returns-then-is_of_class : goal.returns-then-is_of_class
returns-then-is_of_class c =
    late_class c.args.has_class (draft_view c.args.draft.now).tables c.args.ending (sym c.is_variant.ensures ∙ c.if-is_variant.false) (sym c.is_of_class.ensures ∙ c.if-is_of_class.true)

pub returns : goal.returns
returns c =
    late_other c.args.has_class (draft_view c.args.draft.now).tables c.args.ending c.is_found_late.result (sym c.is_variant.ensures ∙ c.if-is_variant.false) (sym c.is_of_class.ensures ∙ c.if-is_of_class.false) c.is_found_late.ensures
