use Rattle.std.proofs.Common.{Bool, subst}
use Rattle.bound_project.specs.DraftView.{draft_view}
use Rattle.bound_calls.specs.References.{EndingGives}
use Rattle.bound_calls.proofs.Referring.{plainly_same, plainly_default}
use Rattle.bound_calls.proofs.references.push_plainly.Goals as goal

pub returns-then-not-gives : goal.returns-then-not-gives
returns-then-not-gives c =
    let A : Bool → Type 0 = λ b. EndingGives c.args.ending b in
    plainly_same c.args.ending c.args.place (draft_view c.args.draft.now) (draft_view c.push_node.new.draft) (subst A c.if-not-gives.true c.in-Some.ensures) c.in_ok-push_node.ensures

pub returns : goal.returns
returns c =
    let A : Bool → Type 0 = λ b. EndingGives c.args.ending b in
    plainly_default c.args.ending c.args.place (draft_view c.args.draft.now) (draft_view c.push_node.new.draft) (draft_view c.push_node-2.new.draft) (subst A c.if-not-gives.false c.in-Some.ensures) c.in_ok-push_node.ensures
    c.in_ok-push_node-2.ensures
