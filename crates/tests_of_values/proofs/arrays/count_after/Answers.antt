use Rattle.vba_values.specs.Types as type
use Rattle.arrays_udt.proofs.Resized.{filled_whole}
use Rattle.tests_of_values.proofs.arrays.count_after.Goals as goal

pub resize_kept-requires-clause-whole : goal.resize_kept-requires-clause-whole
resize_kept-requires-clause-whole c = rw c.in_ok-array.ensures (filled_whole _ type.long _)
