use Rattle.std.proofs.Common.{map}
use Rattle.std.specs.Prelude.{slice_index_or}
use Rattle.vba_values.specs.Val.{empty}
use Rattle.vba_values.specs.View.{view}
use Rattle.bound_project.specs.Pieces.{name_of}
use Rattle.vba_meaning.proofs.Named.{one_more_given}
use Rattle.run_host.proofs.by_name.+are_given.Goals as goal

pub returns-else-not-are_given : goal.returns-else-not-are_given
returns-else-not-are_given t c =
    one_more_given (map (λ w. w.now) c.args.parameters.now) c.args.before (λ i. name_of (slice_index_or (map view c.args.constants.now) i empty)) c.args.order.now c.name_at.result.now c.in-Some.number
    c.are_given.result c.is_given.result c.in-len1-up.len_at_least c.name_at.ensures c.if-number-before.false c.in-Some.ensures c.if-not-are_given.false c.are_given.ensures c.is_given.ensures
