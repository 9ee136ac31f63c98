use Rattle.std.proofs.Common.{map}
use Rattle.bound_project.specs.DraftView.{draft_view}
use Rattle.bound_project.specs.Pieces.{name_in}
use Rattle.vba_meaning.proofs.Named.{one_more_given}
use Rattle.bound_members.proofs.names.+are_given.Goals as goal

pub returns-else-not-are_given : goal.returns-else-not-are_given
returns-else-not-are_given t c =
    one_more_given (map (λ w. w.now) c.args.parameters.now) c.args.before (name_in (draft_view c.args.draft.now).tables) c.args.order.now c.name.result.now c.in-Some.number c.are_given.result c.is_given.result
    c.in-len1-up.len_at_least c.name.ensures c.if-number-before.false c.in-Some.ensures c.if-not-are_given.false c.are_given.ensures c.is_given.ensures
