use Rattle.std.proofs.Common.{ap, sym, subst, ◌∙◌}
use Rattle.bound_project.specs.Drafts.{NodeNamed}
use Rattle.bound_project.specs.declared.node.NodeKind.{NodeKind}
use Rattle.bound_members.specs.bound_calls.proofs.Taking.{read_named}
use Rattle.bound_project.specs.Pieces.{put}
use Rattle.bound_members.specs.bound_calls.specs.Calls.{node_of}
use Rattle.bound_project.specs.DraftView.{draft_view}
use Rattle.statement_terms.proofs.WrittenTargets.{unwritten_assigned}
use Rattle.statement_terms.proofs.targets.assign_unwritten.Goals as goal

pub push_node-requires-2 : goal.push_node-requires-2
push_node-requires-2 c =
    let t = (draft_view c.push_node.new.draft).tables in
    let A : NodeKind → Type 0 = λ (k : NodeKind). NodeNamed t k in
    subst A (sym c.read_kind.ensures) (read_named t c.args.makes)

pub returns : goal.returns
returns c =
    let f = draft_view c.push_node.new.draft in
    unwritten_assigned c.args.place c.args.at c.args.makes c.args.rule (draft_view c.args.draft.now) (draft_view c.push_node.new.draft) (draft_view c.push_node-2.new.draft) (draft_view c.push_broken.new.draft) c.requires.object c.in_ok-push_node.ensures
    (c.in_ok-push_node-2.ensures ∙ ap (λ k. record f { pieces = put f.tables (node_of k c.args.place c.args.at.of) f.pieces }) c.read_kind.ensures) c.in_ok-push_broken.ensures
