use Rattle.std.proofs.Common.{subst}
use Rattle.bound_project.specs.DraftView.{draft_view}
use Rattle.bound_project.specs.declared.node.NodeKind.{NodeKind}
use Rattle.bound_members.specs.bound_calls.specs.References.{IsInstance}
use Rattle.statement_terms.proofs.targets.assign_through.Goals as goal

pub returns : goal.returns
returns c =
    let has = c.args.has_class in
    let t = (draft_view c.args.draft.now).tables in
    let of = c.args.at.of in
    let N : NodeKind → Type 0 = λ (k : NodeKind). IsInstance has t (record { kind = k; of = of }) c.in-Some.through in
    λ all u bounds lends may written. c.in_ok-done.ensures all u has bounds lends may written (subst N c.read_kind.ensures c.in-Some.ensures)
