use Rattle.std.proofs.lemmas.Result.{IfOk-weaker}
use Rattle.bound_project.specs.DraftView.{draft_view}
use Rattle.bound_names.specs.View.{env_view}
use Rattle.bound_accesses.proofs.Fielding.{behind_class_place}
use Rattle.bound_accesses.proofs.members.behind_class_place.Goals as goal

pub returns : goal.returns
returns c =
    IfOk-weaker c.class_member.result _ _
    (λ y m bounds lends. behind_class_place (env_view c.args.env) c.args.place c.args.dot c.args.at bounds lends c.args.makes c.args.class c.args.member.now (draft_view c.args.draft.now) (draft_view c.push_node.new.draft) (draft_view c.push_node-2.new.draft)
    (draft_view c.class_member.new.draft) c.read_kind.result y c.requires.class c.in_ok-push_node.ensures c.read_kind.ensures c.in_ok-push_node-2.ensures m) c.class_member.ensures
