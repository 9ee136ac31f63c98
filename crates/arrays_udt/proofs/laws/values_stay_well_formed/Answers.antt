use Rattle.arrays_udt.proofs.WellFormedLaws.{array_well, coerced_well, fresh_well, read_well, resized_well, write_well}
use Rattle.arrays_udt.proofs.laws.values_stay_well_formed.Goals as goal

pub returns : goal.returns
returns c = record { coerced = coerced_well; fresh = fresh_well; filled = array_well; resized = resized_well; read = read_well; written = write_well }
