use Rattle.std.proofs.Common.{◌≡◌, sym, subst}
use Rattle.bound_project.specs.DraftView.{draft_view}
use Rattle.bound_project.specs.Drafts.{NodeNamed}
use Rattle.bound_project.specs.Pieces.{put}
use Rattle.bound_project.specs.declared.node.NodeKind.{NodeKind}
use Rattle.bound_calls.specs.Calls.{node_of}
use Rattle.bound_members.proofs.MemberSteps.{looks_named, opens_member}
use Rattle.bound_members.proofs.calls.open_member.Goals as goal

pub push_node-requires : goal.push_node-requires
push_node-requires c =
    let n = draft_view c.look_up.new.draft in
    let N : NodeKind → Type 0 = λ (k : NodeKind). NodeNamed n.tables k in
    subst N (sym c.there_kind-there.ensures) (looks_named c.args.member c.in_ok-looked.looked (draft_view c.args.draft.now) n c.requires c.in_ok-looked.ensures)

pub returns : goal.returns
returns c =
    let n = draft_view c.look_up.new.draft in
    let e = draft_view c.push_node.new.draft in
    let P : NodeKind → Type 0 = λ (k : NodeKind). e ≡ record n { pieces = put n.tables (node_of k c.args.place c.args.member.of) n.pieces } in
    opens_member c.args.has_class c.args.of_property c.args.place c.args.member c.in_ok-looked.looked (draft_view c.args.draft.now) n e c.requires c.in_ok-looked.ensures (subst P c.there_kind-there.ensures c.in_ok-push_node.ensures)
