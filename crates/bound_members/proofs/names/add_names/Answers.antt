use Rattle.std.proofs.Common.{ℕ, List, [], sym, subst}
use Rattle.bound_project.specs.DraftView.{draft_view}
use Rattle.bound_members.specs.Names.{AddsName}
use Rattle.bound_members.proofs.Told.{names_more, none_added}
use Rattle.bound_members.proofs.names.add_names.Goals as goal

pub loop-shape-init : goal.loop-shape-init
loop-shape-init c =
    let d = draft_view c.args.draft.now in
    let A : List ℕ → Type 0 = λ (l : List ℕ). AddsName d [] d l in
    subst A (sym c.new-order.ensures.items) (none_added d [])

pub loop-shape-preserved : goal.loop-shape-preserved
loop-shape-preserved c =
    names_more (draft_view c.args.draft.now) (draft_view c.loop-shape.draft) (draft_view c.add_shape.new.draft) [] c.loop-shape.order.items c.add_shape.new.order.items c.loop-shape.invariant c.in_ok-add_shape.ensures
