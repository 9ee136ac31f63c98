-- The files of a call, read in order: what their names hold, or the first that can't be read.
use Rattle.std.specs.Prelude.{◌≡◌, ℕ, zero, suc, ◌+◌, ◌-◌, ◌≤◌, min, nat_lt, List, [], ◌∷◌, ◌++◌, take, length, Option, Some, None, Result, Ok, Err, if◌then◌else◌}
use Rattle.vba_base.specs.Causes.{up, Rose}
use Rattle.vba_base.specs.Map.{FileMap, bytes_of}
use Rattle.vba_base.specs.Outside.{Told, Counts}
use Rattle.list_file.specs.declared.files.ReadStop.{ReadStop}
use Rattle.list_file.specs.declared.files.ReadStop.TheVariants as stop

-- the bytes that one file may have
abbrev pub file_limit : ℕ
file_limit = 67108864

-- the bytes that the files of a call may have together
abbrev pub call_limit : ℕ
call_limit = 1073741824

-- the bytes that a file may have where those before it have so many together
abbrev pub room : ℕ → ℕ
room taken = min file_limit (call_limit - taken)

-- a file by what its name holds; it can't be read where the name isn't there, and may be too long
abbrev pub file_of : (number taken : ℕ) → Option (List ℕ) → Result (List ℕ) ReadStop
file_of number taken None = Err (stop.Failed number)
file_of number taken (Some bytes) = if nat_lt (room taken) (length bytes) then Err (stop.TooLong number) else Ok bytes

-- files behind others
abbrev pub onto : List (List ℕ) → Result (List (List ℕ)) ReadStop → Result (List (List ℕ)) ReadStop
onto before (Ok files) = Ok (before ++ files)
onto before (Err reason) = Err reason

abbrev pub followed_by : Result (List ℕ) ReadStop → (List ℕ → Result (List (List ℕ)) ReadStop) → Result (List (List ℕ)) ReadStop
followed_by (Ok bytes) others = onto (bytes ∷ []) (others bytes)
followed_by (Err reason) others = Err reason

-- the files with these names, the first of which has this number, where those before it have so many bytes together
abbrev pub files_of : FileMap → (number taken : ℕ) → List (List ℕ) → Result (List (List ℕ)) ReadStop
files_of files number taken [] = Ok []
files_of files number taken (name ∷ names) =
    followed_by (file_of number taken (bytes_of files name)) (λ bytes. files_of files (suc number) (taken + length bytes) names)

-- how many bytes files have together
abbrev pub total : List (List ℕ) → ℕ
total [] = 0
total (bytes ∷ files) = length bytes + total files

-- files as they are at a moment: what they tell of themselves, and the counts of reads and writes
pub record FilesAt : Type 0 where
  pub told : Option Told
  pub counts : Counts

-- so many more calls, up to the greatest count
abbrev pub ups : ℕ → ℕ → ℕ
ups zero n = n
ups (suc k) n = up (ups k n)

-- how many of so many files, numbered from this number on, were read: all, or those up to the one that the reason
-- names
abbrev pub IsCount : (number all : ℕ) → Result (List (List ℕ)) ReadStop → ℕ → Type 0
IsCount number all (Ok files) count = count ≡ all
IsCount number all (Err (stop.Failed n)) count = (number ≤ n) × (suc n ≡ number + count) × (count ≤ all)
IsCount number all (Err (stop.TooLong n)) count = (number ≤ n) × (suc n ≡ number + count) × (count ≤ all)
IsCount number all (Err stop.NoMemory) count = count ≤ all

-- so many reads count; a count of faults rose with its own fault alone
abbrev pub Counted : Result (List (List ℕ)) ReadStop → ℕ → Counts → Counts → Type 0
Counted (Ok files) count old new =
    (new.reads ≡ ups count old.reads) × (new.read_faults ≡ old.read_faults) × (new.long_reads ≡ old.long_reads)
Counted (Err (stop.Failed n)) count old new = (new.reads ≡ ups count old.reads) × Rose old.read_faults new.read_faults
Counted (Err (stop.TooLong n)) count old new =
    (new.reads ≡ ups count old.reads) × (new.read_faults ≡ old.read_faults) × Rose old.long_reads new.long_reads
Counted (Err stop.NoMemory) count old new = new.read_faults ≡ old.read_faults

-- the outcome is the one that is meant, unless a read failed or memory ran out
abbrev pub IsMeant : Result (List (List ℕ)) ReadStop → Result (List (List ℕ)) ReadStop → Type 0
IsMeant (Ok files) meant = meant ≡ Ok files
IsMeant (Err (stop.Failed n)) meant = Unit {0}
IsMeant (Err (stop.TooLong n)) meant = meant ≡ Err (stop.TooLong n)
IsMeant (Err stop.NoMemory) meant = Unit {0}

-- where the files tell their map, it stays, so many of the names were noted, and the outcome is the one that it means
abbrev pub FilesTold : List (List ℕ) → (number taken : ℕ) → Result (List (List ℕ)) ReadStop → ℕ → Option Told → Option Told → Type 0
FilesTold names number taken result count None new = new ≡ None
FilesTold names number taken result count (Some old) new =
    (new ≡ Some (record old { names_read = old.names_read ++ take count names })) × IsMeant result (files_of old.files number taken names)

-- the files with these names, the first of which has this number, were read in order, with this outcome
pub record ReadInOrder (names : List (List ℕ)) (number taken : ℕ) (result : Result (List (List ℕ)) ReadStop) (old new : FilesAt) : Type 0 where
  pub count : ℕ
  pub is_count : IsCount number (length names) result count
  pub counted : Counted result count old.counts new.counts
  pub told : FilesTold names number taken result count old.told new.told
  pub writes : new.counts.writes ≡ old.counts.writes
  pub write_faults : new.counts.write_faults ≡ old.counts.write_faults
