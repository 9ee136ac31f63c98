use Rattle.std.proofs.Common.{◌≡◌, refl, subst}
use Rattle.bound_project.specs.declared.node.NodeKind.{NodeKind}
use Rattle.bound_project.specs.Drafts.{Drafted}
use Rattle.bound_project.specs.Pieces.{put}
use Rattle.bound_project.specs.DraftView.{draft_view}
use Rattle.bound_members.specs.bound_calls.specs.Calls.{node_of}
use Rattle.bound_operands.proofs.leading.refuse_led.Goals as goal

pub returns : goal.returns
returns c =
    let m = draft_view c.push_node.new.draft in
    let e = draft_view c.push_node-2.new.draft in
    let Q : NodeKind → Type 0 = λ (k : NodeKind). ◌≡◌ {A = Drafted} e (record m { pieces = put m.tables (node_of k c.args.place c.args.at.of) m.pieces }) in
    record { between = m; is = refl; first = c.in_ok-push_node.ensures; second = subst Q c.read_kind.ensures c.in_ok-push_node-2.ensures }
