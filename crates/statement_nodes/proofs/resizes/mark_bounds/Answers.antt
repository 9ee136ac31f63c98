use Rattle.std.proofs.Common.{sym, ◌∙◌}
use Rattle.std.proofs.lemmas.Result.{on_ok_weaker}
use Rattle.std.specs.Prelude.{option_map}
use Rattle.bound_project.specs.DraftView.{draft_view}
use Rattle.bound_project.specs.View.{declared_view}
use Rattle.statement_nodes.proofs.Resizing.{other_marked}
use Rattle.statement_nodes.proofs.resizes.mark_bounds.Goals as goal

pub returns : goal.returns
returns c =
    on_ok_weaker c.push_node.result
    (λ h. other_marked c.args.of (option_map declared_view c.args.written) c.args.place c.args.bounds (draft_view c.args.draft.now) (draft_view c.push_node.new.draft) c.if-bounds-eq0.false
    (sym c.is_resized.ensures ∙ c.if-is_resized.false) h) c.push_node.ensures
