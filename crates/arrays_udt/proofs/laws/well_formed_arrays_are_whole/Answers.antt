use Rattle.arrays_udt.proofs.WellFormedLaws.{few_of, known_of, whole_of}
use Rattle.arrays_udt.proofs.laws.well_formed_arrays_are_whole.Goals as goal

pub returns : goal.returns
returns c = record { whole = whole_of; few = few_of; known = known_of }
