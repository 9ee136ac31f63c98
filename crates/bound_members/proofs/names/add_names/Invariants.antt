use Rattle.std.proofs.Common.{[]}
use Rattle.bound_project.specs.DraftView.{draft_view}
use Rattle.bound_members.specs.Names.{AddsName}
use Rattle.bound_members.proofs.names.add_names.Given as goal

abbrev pub invariant-loop-shape : goal.invariant-loop-shape
invariant-loop-shape l = AddsName (draft_view l.fn.draft) [] (draft_view l.draft) l.order.items
