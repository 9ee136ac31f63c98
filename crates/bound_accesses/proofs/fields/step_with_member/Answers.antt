use Rattle.std.specs.Prelude.{reverse}
use Rattle.bound_project.specs.DraftView.{draft_view}
use Rattle.bound_names.specs.View.{env_view}
use Rattle.bound_names.proofs.Declaring.{env_declares}
use Rattle.bound_accesses.proofs.Fielding.{goes_kept}
use Rattle.bound_accesses.proofs.fields.step_with_member.Goals as goal

pub returns : goal.returns
returns c =
    let env = env_view c.args.env in
    goes_kept env (reverse c.args.stack.now.items) (reverse c.settle.new.stack.items) (reverse c.put_item.new.stack.items) (draft_view c.args.draft.now) (draft_view c.settle.new.draft) (draft_view c.kept_field.new.draft) c.in_ok-term.term c.args.env.declared c.args.dot
    c.args.member.now (env_declares c.args.env c.requires.env) (c.in_ok-settle.ensures env) c.in_ok-term.ensures c.in_ok-put_item.ensures
