use Rattle.std.proofs.lemmas.Result.{IfOk-weaker}
use Rattle.bound_project.specs.DraftView.{draft_view}
use Rattle.bound_names.specs.View.{env_view}
use Rattle.bound_accesses.proofs.Fielding.{keeps_member}
use Rattle.bound_accesses.proofs.fields.kept_of_class.Goals as goal

pub returns : goal.returns
returns c =
    let w = c.args.within in
    IfOk-weaker c.class_member.result _ _
    (λ y m. keeps_member (env_view c.args.env) w.header w.of w.lends c.args.class c.args.name.now c.args.place (draft_view c.args.draft.now) (draft_view c.push_node.new.draft) (draft_view c.push_node-2.new.draft)
    (draft_view c.class_member.new.draft) y c.requires.within c.requires.class c.in_ok-push_node.ensures c.in_ok-push_node-2.ensures m) c.class_member.ensures
