use Rattle.std.specs.Prelude.{reverse}
use Rattle.bound_project.specs.DraftView.{draft_view}
use Rattle.bound_accesses.specs.bound_names.specs.View.{env_view}
use Rattle.bound_accesses.specs.bound_names.proofs.Declaring.{env_declares}
use Rattle.bound_terms.proofs.TypesAsked.{goes_me}
use Rattle.bound_terms.proofs.step.step_me.Goals as goal

pub returns : goal.returns
returns c =
    let env = env_view c.args.env in
    goes_me env c.args.env.declared (env_declares c.args.env c.requires.env) c.args.token c.in_ok-of.of (reverse c.args.stack.now.items) (reverse c.settle.new.stack.items) (reverse c.put_item.new.stack.items) (draft_view c.args.draft.now) (draft_view c.settle.new.draft) (c.in_ok-settle.ensures env)
    c.in_ok-of.ensures c.in_ok-put_item.ensures
