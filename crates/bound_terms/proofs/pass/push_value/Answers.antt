use Rattle.bound_project.specs.DraftView.{draft_view}
use Rattle.bound_accesses.specs.bound_names.specs.bound_members.specs.bound_calls.proofs.Steps.{pushes_value}
use Rattle.bound_terms.proofs.pass.push_value.Goals as goal

pub returns : goal.returns
returns c =
    pushes_value c.args.tree (draft_view c.args.draft.now) (draft_view c.value_ending.new.draft) (draft_view c.push_ending.new.draft) c.in_ok-ending.ending c.in_ok-of.of c.in_ok-ending.ensures c.in_ok-of.ensures
