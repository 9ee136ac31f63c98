use Rattle.std.proofs.Common.{sym, ◌∙◌}
use Rattle.std.proofs.lemmas.Option.{IfSome_then}
use Rattle.bound_project.specs.DraftView.{draft_view}
use Rattle.bound_calls.proofs.LastNodes.{class_not_late, found_late_just}
use Rattle.bound_calls.proofs.references.is_found_late.Goals as goal

pub returns-then-is_of_class : goal.returns-then-is_of_class
returns-then-is_of_class c = class_not_late c.args.has_class (draft_view c.args.draft.now).tables c.args.ending (sym c.is_of_class.ensures ∙ c.if-is_of_class.true)

pub returns : goal.returns
returns c =
    IfSome_then c.instance_of.result c.instance_of.ensures (λ may h. found_late_just c.args.has_class (draft_view c.args.draft.now).tables c.args.ending may (sym c.is_of_class.ensures ∙ c.if-is_of_class.false) h)
