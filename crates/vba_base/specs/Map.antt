-- Finite maps from the names of files to their bytes. A name is the list of its bytes.
use Rattle.std.specs.Prelude.{ℕ, List, Option}
use Rattle.std.specs.Ordering.{nat_cmp}
use Rattle.std.specs.Cmp.Lexicographic.{slice_cmp}
use Rattle.std.specs.FinMap.{FinMap, get, insert}

-- what each name holds; names that hold nothing aren't there
abbrev pub FileMap : Type 0
FileMap = FinMap (slice_cmp nat_cmp) (List ℕ)

-- the bytes of a name
abbrev pub bytes_of : FileMap → List ℕ → Option (List ℕ)
bytes_of files name = get files name

-- the map with these bytes at a name, and every other name as it was
abbrev pub with_bytes : FileMap → List ℕ → List ℕ → FileMap
with_bytes files name bytes = insert files name bytes
