-- Files and a sink that are kept in memory: what they are, when their calls fail, and what a call leaves.
use Rattle.std.specs.Prelude.{◌≡◌, ℕ, ◌+◌, List, [], ◌∷◌, ◌++◌, map, take, length, find, Bool, true, false, not, ◌&&◌, if◌then◌else◌, nat_eq, nat_lt, bytes_eq, Option, Some, None, option_map, unwrap_or, Result, Ok, Err, String, string_bytes, Vec, refl}
use Rattle.std.specs.List.{list_any}
use Rattle.std.specs.Coded.{Coded, code_by, coded×, coded_ℕ, coded_list}
use Rattle.std.specs.FinMap.{from_entries, code}
use Rattle.std.specs.declared.alloc.Global.{Global}
use Rattle.vba_base.specs.declared.outside.ReadAnswer.{ReadAnswer}
use Rattle.vba_base.specs.declared.outside.ReadAnswer.TheVariants as read
use Rattle.vba_base.specs.declared.outside.WriteAnswer.{WriteAnswer}
use Rattle.vba_base.specs.declared.outside.WriteAnswer.TheVariants as write
use Rattle.vba_base.specs.Causes.{up}
use Rattle.vba_base.specs.Map.{FileMap, bytes_of, with_bytes}
use Rattle.vba_base.specs.Outside.{Told, Counts, read_failed, read_too_long, write_failed, noted_read, noted_write}

-- one more where the call failed so, and else as before
abbrev pub up_if : Bool → ℕ → ℕ
up_if failed n = if failed then up n else n

-- nothing was read or written yet
abbrev pub no_counts : Counts
no_counts = record { reads = 0; writes = 0; read_faults = 0; write_faults = 0; long_reads = 0 }

-- the number of the next call; reads and writes are counted together, from 1
abbrev pub call_number : Counts → ℕ
call_number c = up (c.reads + c.writes)

-- the counts after a read that answered so
abbrev pub counted_read : {X : Type 0} → Counts → Result X ReadAnswer → Counts
counted_read c result = record c {
  reads = up c.reads;
  read_faults = up_if (read_failed result) c.read_faults;
  long_reads = up_if (read_too_long result) c.long_reads;
}

-- the counts after a write that answered so
abbrev pub counted_write : {X : Type 0} → Counts → Result X WriteAnswer → Counts
counted_write c result = record c { writes = up c.writes; write_faults = up_if (write_failed result) c.write_faults }

-- files in memory: what they tell, how often they were called, and the numbers of the calls that fail
pub record MemoryFiles : Type 0 where
  pub told : Told
  pub counts : Counts
  pub fails : List ℕ

-- the names and their bytes, as they are given
abbrev pub entries_of : List (String Global × Vec ℕ Global) → List (List ℕ × List ℕ)
entries_of files = map (λ e. (string_bytes e.0, e.1.items)) files

-- the names, as they are given
abbrev pub names_of : List (String Global × Vec ℕ Global) → List (List ℕ)
names_of files = map (λ e. string_bytes e.0) files

-- no name stands twice
abbrev pub are_different : List (List ℕ) → Bool
are_different [] = true
are_different (name ∷ names) = not (list_any (bytes_eq name) names) && are_different names

-- files that were never called
abbrev pub files_in_memory : List (List ℕ × List ℕ) → List ℕ → MemoryFiles
files_in_memory entries fails = record {
  told = record { files = from_entries entries; names_read = []; names_written = [] };
  counts = no_counts;
  fails = fails;
}

-- whether the next call fails
abbrev pub next_fails : MemoryFiles → Bool
next_fails m = list_any (λ n. nat_eq n (call_number m.counts)) m.fails

-- what a read of at most so many bytes gives of what a name holds
abbrev pub read_of : Option (List ℕ) → ℕ → Result (List ℕ) ReadAnswer
read_of None limit = Err read.Failed
read_of (Some bytes) limit = if nat_lt limit (length bytes) then Err read.TooLong else Ok bytes

-- what the next read gives
abbrev pub next_read : MemoryFiles → List ℕ → ℕ → Result (List ℕ) ReadAnswer
next_read m name limit = if next_fails m then Err read.Failed else read_of (bytes_of m.told.files name) limit

-- the read gave exactly these bytes or this fault, unless memory ran out
abbrev pub Reads : {X : Type 0} → Result X ReadAnswer → List ℕ → Result (List ℕ) ReadAnswer → Type 0
Reads (Ok x) bytes meant = meant ≡ Ok bytes
Reads (Err read.Failed) bytes meant = meant ≡ Err read.Failed
Reads (Err read.TooLong) bytes meant = meant ≡ Err read.TooLong
Reads (Err read.NoMemory) bytes meant = Unit {0}

-- the files with the name of a read that answered so
abbrev pub noted_after_read : {X : Type 0} → MemoryFiles → List ℕ → Result X ReadAnswer → MemoryFiles
noted_after_read m name result = record m { told = record m.told { names_read = noted_read m.told.names_read name result } }

-- the files after a read that answered so
abbrev pub after_read : {X : Type 0} → MemoryFiles → List ℕ → Result X ReadAnswer → MemoryFiles
after_read m name result = record (noted_after_read m name result) { counts = counted_read m.counts result }

-- the call failed exactly where it was to fail, unless memory ran out
abbrev pub FailsWhere : {X : Type 0} → Bool → Result X WriteAnswer → Type 0
FailsWhere fails (Ok x) = fails ≡ false
FailsWhere fails (Err write.Failed) = fails ≡ true
FailsWhere fails (Err write.NoMemory) = Unit {0}

-- the map after a write that answered so
abbrev pub written : {X : Type 0} → FileMap → List ℕ → List ℕ → Result X WriteAnswer → FileMap
written files name bytes (Ok x) = with_bytes files name bytes
written files name bytes (Err e) = files

-- the files with the name and the bytes of a write that answered so
abbrev pub noted_after_write : {X : Type 0} → MemoryFiles → List ℕ → List ℕ → Result X WriteAnswer → MemoryFiles
noted_after_write m name bytes result = record m {
  told = record m.told {
    files = written m.told.files name bytes result;
    names_written = noted_write m.told.names_written name result;
  };
}

-- the files after a write that answered so
abbrev pub after_write : {X : Type 0} → MemoryFiles → List ℕ → List ℕ → Result X WriteAnswer → MemoryFiles
after_write m name bytes result = record (noted_after_write m name bytes result) { counts = counted_write m.counts result }

-- a sink in memory: the bytes taken, the puts and how many failed, and the puts that fail with the most that each takes
pub record MemorySink : Type 0 where
  pub taken : List ℕ
  pub puts : ℕ
  pub faults : ℕ
  pub fails : List (ℕ × ℕ)

-- where the next put fails, the most that it takes; puts are counted from 1
abbrev pub next_most : MemorySink → Option ℕ
next_most s = option_map (λ f. f.1) (find (λ f. nat_eq f.0 (up s.puts)) s.fails)

-- what a put takes of its piece: all of it, where it fails at most so many bytes, and without memory nothing
abbrev pub taken_of : {X : Type 0} → List ℕ → Option ℕ → Result X WriteAnswer → List ℕ
taken_of piece most (Ok x) = piece
taken_of piece most (Err write.Failed) = take (unwrap_or most 0) piece
taken_of piece most (Err write.NoMemory) = []

-- the sink after a put that answered so
abbrev pub after_put : {X : Type 0} → MemorySink → List ℕ → Result X WriteAnswer → MemorySink
after_put s piece result = record s {
  taken = s.taken ++ taken_of piece (next_most s) result;
  puts = up s.puts;
  faults = up_if (write_failed result) s.faults;
}

abbrev pub names_code : Coded (List (List ℕ))
names_code = coded_list (coded_list coded_ℕ)

abbrev pub told_code : Coded Told
told_code = code_by _ (coded× (code (coded_list coded_ℕ) (coded_list coded_ℕ)) (coded× names_code names_code))
    (λ t. (t.files, (t.names_read, t.names_written))) (λ p. record { files = p.0; names_read = p.1.0; names_written = p.1.1 }) (λ _. refl)

abbrev pub counts_code : Coded Counts
counts_code = code_by _ (coded× coded_ℕ (coded× coded_ℕ (coded× coded_ℕ (coded× coded_ℕ coded_ℕ))))
    (λ c. (c.reads, (c.writes, (c.read_faults, (c.write_faults, c.long_reads)))))
    (λ p. record { reads = p.0; writes = p.1.0; read_faults = p.1.1.0; write_faults = p.1.1.1.0; long_reads = p.1.1.1.1 }) (λ _. refl)

abbrev pub files_code : Coded MemoryFiles
files_code = code_by _ (coded× told_code (coded× counts_code (coded_list coded_ℕ)))
    (λ m. (m.told, (m.counts, m.fails))) (λ p. record { told = p.0; counts = p.1.0; fails = p.1.1 }) (λ _. refl)
