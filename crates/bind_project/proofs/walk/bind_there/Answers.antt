use Rattle.std.proofs.Common.{◌≡◌, ℕ, subst}
use Rattle.bound_names.specs.bound_members.specs.bound_calls.specs.bound_forms.specs.StatementsBound.{Around}
use Rattle.binder.specs.Blocks.{next_number}
use Rattle.bound_project.specs.DraftView.{draft_view}
use Rattle.module_parts.specs.View.{part_view}
use Rattle.statement_nodes.specs.statement_numbers.specs.View.{standing_view}
use Rattle.statement_nodes.specs.Walks.{Added, statements_of}
use Rattle.bind_project.proofs.walk.bind_there.Goals as goal

pub returns : goal.returns
returns c =
    let standing = standing_view c.args.standing in
    subst
    (λ (a : Around). (next : ℕ) → next ≡ next_number standing
    → Added (statements_of a standing next (part_view c.args.part.now)) (draft_view c.args.draft.now) (draft_view c.bind_statements.new.draft))
    c.in_ok-there.ensures.view c.in_ok-bind_statements.ensures
