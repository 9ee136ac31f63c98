use Rattle.std.proofs.lemmas.Result.{IfOk-weaker}
use Rattle.bound_project.specs.DraftView.{draft_view}
use Rattle.bound_names.specs.View.{env_view}
use Rattle.bound_accesses.proofs.Fielding.{behind_class_value}
use Rattle.bound_accesses.proofs.members.behind_class_value.Goals as goal

pub returns : goal.returns
returns c =
    IfOk-weaker c.class_member.result _ _
    (λ y m. behind_class_value (env_view c.args.env) c.args.place c.args.dot c.args.ending c.args.class c.args.member.now (draft_view c.args.draft.now) (draft_view c.push_node.new.draft) (draft_view c.class_member.new.draft) y c.requires.class
    c.requires.before c.in_ok-push_node.ensures m) c.class_member.ensures
