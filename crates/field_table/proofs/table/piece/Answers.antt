use Rattle.std.proofs.Common.{◌≤◌, ◌+◌, sym, subst}
use Rattle.std.specs.Prelude.{slice_index_or}
use Rattle.field_table.proofs.Pieces.{place_below, places_rise}
use Rattle.field_table.proofs.table.piece.Goals as goal

pub returns-clause-order : goal.returns-clause-order
returns-clause-order c = subst (λ n. slice_index_or c.args.starts.now c.args.place 0 ≤ n) (sym c.start_or.ensures)
    (places_rise c.args.end c.args.starts.now c.args.place c.requires.rise c.requires.inside)

pub returns-clause-below : goal.returns-clause-below
returns-clause-below c = subst (λ n. n ≤ c.args.end) (sym c.start_or.ensures)
    (place_below c.args.end c.args.starts.now (c.args.place + 1) c.requires.rise)
