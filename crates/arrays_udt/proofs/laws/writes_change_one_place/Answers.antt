use Rattle.arrays_udt.proofs.PathLaws.{paths_part, read_apart, read_written, read_above}
use Rattle.arrays_udt.proofs.laws.writes_change_one_place.Goals as goal

pub returns : goal.returns
returns c = record { paths = paths_part; apart = read_apart; written = read_written; above = read_above }
