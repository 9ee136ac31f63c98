-- What reading and writing files and putting bytes does.
use Rattle.std.specs.Prelude.{◌≡◌, ◌≢◌, ℕ, ◌<◌, List, [], ◌∷◌, ◌++◌, length, Bool, true, false, Option, Some, None, IsSomeAnd, unwrap_or, Result, Ok, Err}
use Rattle.vba_base.specs.declared.outside.ReadAnswer.{ReadAnswer}
use Rattle.vba_base.specs.declared.outside.ReadAnswer.TheVariants as read
use Rattle.vba_base.specs.declared.outside.WriteAnswer.{WriteAnswer}
use Rattle.vba_base.specs.declared.outside.WriteAnswer.TheVariants as write
use Rattle.vba_base.specs.Causes.{up, RoseOnly, IsPrefix, Adds, AddsPrefix}
use Rattle.vba_base.specs.Map.{FileMap, bytes_of, with_bytes}

-- what files tell of themselves: the map, and the names that were read and written, in order, failed calls too
pub record Told : Type 0 where
  pub files : FileMap
  pub names_read : List (List ℕ)
  pub names_written : List (List ℕ)

-- how often files were read and written, and how often that failed
pub record Counts : Type 0 where
  pub reads : ℕ
  pub writes : ℕ
  pub read_faults : ℕ
  pub write_faults : ℕ
  pub long_reads : ℕ

-- which answers are faults
abbrev pub read_failed : {X : Type 0} → Result X ReadAnswer → Bool
read_failed (Ok x) = false
read_failed (Err read.Failed) = true
read_failed (Err read.TooLong) = false
read_failed (Err read.NoMemory) = false

abbrev pub read_too_long : {X : Type 0} → Result X ReadAnswer → Bool
read_too_long (Ok x) = false
read_too_long (Err read.Failed) = false
read_too_long (Err read.TooLong) = true
read_too_long (Err read.NoMemory) = false

abbrev pub write_failed : {X : Type 0} → Result X WriteAnswer → Bool
write_failed (Ok x) = false
write_failed (Err write.Failed) = true
write_failed (Err write.NoMemory) = false

-- a read counts as one read; a count of faults rises with its own fault alone
pub record CountsRead {X : Type 0} (old new : Counts) (result : Result X ReadAnswer) : Type 0 where
  pub reads : new.reads ≡ up old.reads
  pub writes : new.writes ≡ old.writes
  pub read_faults : RoseOnly (read_failed result) old.read_faults new.read_faults
  pub write_faults : new.write_faults ≡ old.write_faults
  pub long_reads : RoseOnly (read_too_long result) old.long_reads new.long_reads

-- a write counts as one write
pub record CountsWrite {X : Type 0} (old new : Counts) (result : Result X WriteAnswer) : Type 0 where
  pub reads : new.reads ≡ old.reads
  pub writes : new.writes ≡ up old.writes
  pub read_faults : new.read_faults ≡ old.read_faults
  pub write_faults : RoseOnly (write_failed result) old.write_faults new.write_faults
  pub long_reads : new.long_reads ≡ old.long_reads

-- the names with one more, unless the call found no memory
abbrev pub noted_read : {X : Type 0} → List (List ℕ) → List ℕ → Result X ReadAnswer → List (List ℕ)
noted_read names name (Ok x) = names ++ name ∷ []
noted_read names name (Err read.Failed) = names ++ name ∷ []
noted_read names name (Err read.TooLong) = names ++ name ∷ []
noted_read names name (Err read.NoMemory) = names

abbrev pub noted_write : {X : Type 0} → List (List ℕ) → List ℕ → Result X WriteAnswer → List (List ℕ)
noted_write names name (Ok x) = names ++ name ∷ []
noted_write names name (Err write.Failed) = names ++ name ∷ []
noted_write names name (Err write.NoMemory) = names

-- what was read of what a name holds: all of it, or a prefix; too long only where it has more bytes than the limit
abbrev pub ReadsOf : {X : Type 0} → Option (List ℕ) → ℕ → List ℕ → Result X ReadAnswer → Type 0
ReadsOf held limit bytes (Ok x) = held ≡ Some bytes
ReadsOf held limit bytes (Err read.Failed) = IsPrefix bytes (unwrap_or held [])
ReadsOf held limit bytes (Err read.TooLong) = IsSomeAnd held (λ whole. limit < length whole) × IsPrefix bytes (unwrap_or held [])
ReadsOf held limit bytes (Err read.NoMemory) = IsPrefix bytes (unwrap_or held [])

-- a read leaves the map, and notes the name
abbrev pub TellsRead : {X : Type 0} → Option Told → Option Told → List ℕ → ℕ → List ℕ → Result X ReadAnswer → Type 0
TellsRead None new name limit bytes result = new ≡ None
TellsRead (Some old) new name limit bytes result =
    (new ≡ Some (record old { names_read = noted_read old.names_read name result }))
    × ReadsOf (bytes_of old.files name) limit bytes result

-- a write that is Ok puts the bytes at the name; otherwise the bytes of that name are open, and no other changes
abbrev pub Writes : {X : Type 0} → FileMap → FileMap → List ℕ → List ℕ → Result X WriteAnswer → Type 0
Writes old new name bytes (Ok x) = new ≡ with_bytes old name bytes
Writes old new name bytes (Err e) = (other : List ℕ) → other ≢ name → bytes_of new other ≡ bytes_of old other

-- a write notes the name
pub record TellsWriteSome {X : Type 0} (old new : Told) (name bytes : List ℕ) (result : Result X WriteAnswer) : Type 0 where
  pub files : Writes old.files new.files name bytes result
  pub names_read : new.names_read ≡ old.names_read
  pub names_written : new.names_written ≡ noted_write old.names_written name result

abbrev pub TellsWrite : {X : Type 0} → Option Told → Option Told → List ℕ → List ℕ → Result X WriteAnswer → Type 0
TellsWrite None new name bytes result = new ≡ None
TellsWrite (Some old) new name bytes result = IsSomeAnd new (λ after. TellsWriteSome old after name bytes result)

-- a put that is Ok takes the whole piece; otherwise a prefix of it was taken
abbrev pub Takes : {X : Type 0} → Option (List ℕ) → Option (List ℕ) → List ℕ → Result X WriteAnswer → Type 0
Takes old new piece (Ok x) = Adds old new piece
Takes old new piece (Err e) = AddsPrefix old new piece
