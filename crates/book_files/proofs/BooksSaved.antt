-- Saves that are written one after another.
use Rattle.std.proofs.Common.{◌≡◌, ◌∙◌, ℕ, zero, suc, ◌+◌, ◌-◌, ◌≤◌, ◌<◌, List, [], ◌∷◌, ◌++◌, length, take, drop, get_or, refl, sym, ap, subst, append_assoc, arith, length-append}
use Rattle.std.specs.Prelude.{Ok, Err, Option, Some, None, IfSome, IsSomeAnd, slice_get, string_bytes}
use Rattle.std.specs.Result.{IsErrAnd}
use Rattle.std.proofs.lemmas.List.{append-nil, map-append, length-map, length-take-le, take-append-drop, take-append-le, take_all}
use Rattle.std.proofs.Math.Seq.{take-append-add, take-length}
use Rattle.vba_base.specs.declared.outside.WriteAnswer.{WriteAnswer}
use Rattle.vba_base.specs.declared.outside.WriteAnswer.TheVariants as write
use Rattle.vba_base.specs.Causes.{Rose}
use Rattle.vba_base.specs.Map.{FileMap, with_bytes}
use Rattle.vba_base.specs.Outside.{Told, Counts, CountsWrite, TellsWrite, TellsWriteSome}
use Rattle.list_file.specs.Files.{FilesAt, ups}
use Rattle.list_file.proofs.FilesRead.{names_joined, ups_more}
use Rattle.sheet_host.specs.Books.{NamedSheet, Sheets, content_at}
use Rattle.sheet_host.specs.Sheets.{SheetContent, no_content}
use Rattle.list_file.specs.declared.list.SheetPath.{SheetPath}
use Rattle.list_file.specs.Lists.{SheetAt}
use Rattle.list_file.specs.Sources.{sheets_view}
use Rattle.book_files.specs.Saves.{CountsSaves, HoldsSaves, IsWritten, NotesSaves, Save, SameButFor, SavedTo, TellsSaves, WritesSaves, Written, save_names, save_of, saves_of, with_saves}

-- files to which saves were written, and then others
with_saves-append : (files : FileMap) (a b : List Save) → with_saves files (a ++ b) ≡ with_saves (with_saves files a) b
with_saves-append files [] b = refl
with_saves-append files (s ∷ a) b = with_saves-append (with_bytes files s.name s.bytes) a b

-- the save at a place behind others
get-append : (a b : List Save) (place : ℕ) → slice_get (a ++ b) (length a + place) ≡ slice_get b place
get-append [] b place = let e : 0 + place ≡ place = omega arith in ap (slice_get b) e
get-append (s ∷ a) b place =
    let e : length (s ∷ a) + place ≡ suc (length a + place) = omega arith in
    ap (slice_get (s ∷ (a ++ b))) e ∙ get-append a b place

names-append : (a b : List Save) → save_names (a ++ b) ≡ save_names a ++ save_names b
names-append a b = map-append (λ (s : Save). s.name) a b

names-length : (a : List Save) → length (save_names a) ≡ length a
names-length a = length-map a (λ (s : Save). s.name)

-- ---- one save behind others

module _ (a b : List Save) (x : Unit {0}) (r : Written) (ca cb : ℕ) (whole : ca ≡ length a) where
  is_count_joined : (q : Written) → IsWritten (length b) q cb → IsWritten (length (a ++ b)) q (ca + cb)
  is_count_joined (Ok y) is = omega (arith, whole, is, length-append a b)
  is_count_joined (Err e) is = omega (arith, whole, is, length-append a b)

  counted_joined : (q : Written) (old mid new : Counts) → CountsSaves (Ok x) ca old mid → CountsSaves q cb mid new → CountsSaves q (ca + cb) old new
  counted_joined (Ok y) old mid new p q = (q.0 ∙ ap (ups cb) p.0 ∙ sym (ups_more ca cb old.writes), q.1 ∙ p.1)
  counted_joined (Err write.Failed) old mid new p q =
      let e : ca + suc cb ≡ suc (ca + cb) = omega arith in (
        q.0 ∙ ap (ups (suc cb)) p.0 ∙ sym (ups_more ca (suc cb) old.writes) ∙ ap (λ k. ups k old.writes) e,
        subst (λ k. Rose k new.write_faults) p.1 q.1,
      )
  counted_joined (Err write.NoMemory) old mid new p q = q ∙ p.1

  names_both : (names : List (List ℕ)) (count : ℕ) → (names ++ take ca (save_names a)) ++ take count (save_names b) ≡ names ++ take (ca + count) (save_names (a ++ b))
  names_both names count =
      names_joined names (save_names a) (save_names b) ca count (whole ∙ sym (names-length a))
      ∙ ap (λ ns. names ++ take (ca + count) ns) (sym (names-append a b))

  notes_joined : (q : Written) (old mid new : List (List ℕ)) → NotesSaves (Ok x) ca (save_names a) old mid → NotesSaves q cb (save_names b) mid new
      → NotesSaves q (ca + cb) (save_names (a ++ b)) old new
  notes_joined (Ok y) old mid new p q = q ∙ ap (λ ns. ns ++ take cb (save_names b)) p ∙ names_both old cb
  notes_joined (Err write.Failed) old mid new p q =
      let e : ca + suc cb ≡ suc (ca + cb) = omega arith in
      q ∙ ap (λ ns. ns ++ take (suc cb) (save_names b)) p ∙ names_both old (suc cb) ∙ ap (λ k. old ++ take k (save_names (a ++ b))) e
  notes_joined (Err write.NoMemory) old mid new p q = q ∙ ap (λ ns. ns ++ take cb (save_names b)) p ∙ names_both old cb

  saves_both : (files : FileMap) → with_saves (with_saves files (take ca a)) (take cb b) ≡ with_saves files (take (ca + cb) (a ++ b))
  saves_both files =
      let first : take ca a ≡ a = ap (λ k. take k a) whole ∙ take-length a in
      let both : take (ca + cb) (a ++ b) ≡ a ++ take cb b = ap (λ k. take (k + cb) (a ++ b)) whole ∙ take-append-add a b cb in
      ap (λ ss. with_saves (with_saves files ss) (take cb b)) first
      ∙ sym (with_saves-append files a (take cb b))
      ∙ ap (with_saves files) (sym both)

  place_both : slice_get (a ++ b) (ca + cb) ≡ slice_get b cb
  place_both = ap (λ k. slice_get (a ++ b) (k + cb)) whole ∙ get-append a b cb

  holds_joined : (q : Written) (old mid new : FileMap) → HoldsSaves (Ok x) ca a old mid → HoldsSaves q cb b mid new → HoldsSaves q (ca + cb) (a ++ b) old new
  holds_joined (Ok y) old mid new p q = q ∙ ap (λ f. with_saves f (take cb b)) p ∙ saves_both old
  holds_joined (Err e) old mid new p q =
      subst (λ o. IfSome o (λ (s : Save). SameButFor s.name (with_saves old (take (ca + cb) (a ++ b))) new)) (sym place_both)
      (subst (λ f. IfSome (slice_get b cb) (λ (s : Save). SameButFor s.name f new)) (ap (λ f. with_saves f (take cb b)) p ∙ saves_both old) q)

  tells_some : (q : Written) (old mid : Told) (new : Option Told) → SavedTo a (Ok x) ca old mid → IsSomeAnd new (λ after. SavedTo b q cb mid after)
      → IsSomeAnd new (λ after. SavedTo (a ++ b) q (ca + cb) old after)
  tells_some q old mid None p h = h
  tells_some q old mid (Some after) p h = record {
    files = holds_joined q old.files mid.files after.files p.files h.files;
    names_read = h.names_read ∙ p.names_read;
    names_written = notes_joined q old.names_written mid.names_written after.names_written p.names_written h.names_written;
  }

  tells_joined : (q : Written) (old mid new : Option Told) → TellsSaves a (Ok x) ca old mid → TellsSaves b q cb mid new → TellsSaves (a ++ b) q (ca + cb) old new
  tells_joined q None mid new p h = subst (λ m. TellsSaves b q cb m new) p h
  tells_joined q (Some told) None new p h = absurd p
  tells_joined q (Some told) (Some between) new p h = tells_some q told between new p h

-- saves that were written, and others behind them
pub saves_joined : (a b : List Save) (x : Unit {0}) (r : Written) (old mid new : FilesAt)
    → WritesSaves a (Ok x) old mid → WritesSaves b r mid new → WritesSaves (a ++ b) r old new
saves_joined a b x r old mid new p q = record {
  count = p.count + q.count;
  is_count = is_count_joined a b x r p.count q.count p.is_count r q.is_count;
  counted = counted_joined a b x r p.count q.count p.is_count r old.counts mid.counts new.counts p.counted q.counted;
  told = tells_joined a b x r p.count q.count p.is_count r old.told mid.told new.told p.told q.told;
  reads = q.reads ∙ p.reads;
  read_faults = q.read_faults ∙ p.read_faults;
  long_reads = q.long_reads ∙ p.long_reads;
}

-- ---- a save that wasn't written ends saving

module _ (a b : List Save) (e : WriteAnswer) (count : ℕ) (few : count < length a) where
  get_more : slice_get (a ++ b) count ≡ slice_get a count
  get_more = get_in a count few
    where
      get_in : (c : List Save) (place : ℕ) → place < length c → slice_get (c ++ b) place ≡ slice_get c place
      get_in [] place within = absurd (omega (arith, within))
      get_in (s ∷ c) zero within = refl
      get_in (s ∷ c) (suc place) within = get_in c place (omega (arith, within))

  take_more : {Y : Type 0} (c d : List Y) (k : ℕ) → k ≤ length c → take k (c ++ d) ≡ take k c
  take_more c d k within = take-append-le k c d within

  notes_more : (f : WriteAnswer) (old new : List (List ℕ)) → NotesSaves (Err f) count (save_names a) old new → NotesSaves (Err f) count (save_names (a ++ b)) old new
  notes_more write.Failed old new h =
      h ∙ ap (λ ns. old ++ ns) (sym (ap (take (suc count)) (names-append a b) ∙ take_more (save_names a) (save_names b) (suc count) (omega (arith, few, names-length a))))
  notes_more write.NoMemory old new h =
      h ∙ ap (λ ns. old ++ ns) (sym (ap (take count) (names-append a b) ∙ take_more (save_names a) (save_names b) count (omega (arith, few, names-length a))))

  holds_more : (old new : FileMap) → HoldsSaves (Err e) count a old new → HoldsSaves (Err e) count (a ++ b) old new
  holds_more old new h =
      subst (λ o. IfSome o (λ (s : Save). SameButFor s.name (with_saves old (take count (a ++ b))) new)) (sym get_more)
      (subst (λ ss. IfSome (slice_get a count) (λ (s : Save). SameButFor s.name (with_saves old ss) new)) (sym (take_more a b count (omega (arith, few)))) h)

  tells_more : (old new : Option Told) → TellsSaves a (Err e) count old new → TellsSaves (a ++ b) (Err e) count old new
  tells_more None new h = h
  tells_more (Some told) None h = h
  tells_more (Some told) (Some after) h = record {
    files = holds_more told.files after.files h.files;
    names_read = h.names_read;
    names_written = notes_more e told.names_written after.names_written h.names_written;
  }

pub saves_stopped : (a b : List Save) (e : WriteAnswer) (old new : FilesAt) → WritesSaves a (Err e) old new → WritesSaves (a ++ b) (Err e) old new
saves_stopped a b e old new p = record {
  count = p.count;
  is_count = let i = p.is_count in omega (arith, i, length-append a b);
  counted = p.counted;
  told = tells_more a b e p.count p.is_count old.told new.told p.told;
  reads = p.reads;
  read_faults = p.read_faults;
  long_reads = p.long_reads;
}

-- ---- one save

one_told : (s : Save) (r : Written) (count : ℕ) (old : Told) (new : Option Told)
    → ((after : Told) → TellsWriteSome old after s.name s.bytes r → SavedTo (s ∷ []) r count old after)
    → IsSomeAnd new (λ after. TellsWriteSome old after s.name s.bytes r) → IsSomeAnd new (λ after. SavedTo (s ∷ []) r count old after)
one_told s r count old None f h = h
one_told s r count old (Some after) f h = f after h

one_tells : (s : Save) (r : Written) (count : ℕ) (old new : Option Told)
    → ((told after : Told) → TellsWriteSome told after s.name s.bytes r → SavedTo (s ∷ []) r count told after)
    → TellsWrite old new s.name s.bytes r → TellsSaves (s ∷ []) r count old new
one_tells s r count None new f h = h
one_tells s r count (Some told) new f h = one_told s r count told new (f told) h

-- a write of a save
pub one_written : (s : Save) (r : Written) (old new : FilesAt) → CountsWrite old.counts new.counts r → TellsWrite old.told new.told s.name s.bytes r
    → WritesSaves (s ∷ []) r old new
one_written s (Ok x) old new c t = record {
  count = 1;
  is_count = refl;
  counted = (c.writes, c.write_faults);
  told = one_tells s (Ok x) 1 old.told new.told (λ told after h. record { files = h.files; names_read = h.names_read; names_written = h.names_written }) t;
  reads = c.reads;
  read_faults = c.read_faults;
  long_reads = c.long_reads;
}
one_written s (Err write.Failed) old new c t = record {
  count = 0;
  is_count = omega arith;
  counted = (c.writes, c.write_faults);
  told = one_tells s (Err write.Failed) 0 old.told new.told (λ told after h. record { files = h.files; names_read = h.names_read; names_written = h.names_written }) t;
  reads = c.reads;
  read_faults = c.read_faults;
  long_reads = c.long_reads;
}
one_written s (Err write.NoMemory) old new c t = record {
  count = 0;
  is_count = omega arith;
  counted = c.write_faults;
  told =
      one_tells s (Err write.NoMemory) 0 old.told new.told
      (λ told after h. record { files = h.files; names_read = h.names_read; names_written = h.names_written ∙ sym (append-nil told.names_written) }) t;
  reads = c.reads;
  read_faults = c.read_faults;
  long_reads = c.long_reads;
}

same_told : (s : Save) (told : Option Told) → TellsSaves (s ∷ []) (Err write.NoMemory) 0 told told
same_told s None = refl
same_told s (Some told) = record { files = λ other differs. refl; names_read = refl; names_written = sym (append-nil told.names_written) }

-- memory ran out before a write
pub one_unmade : (s : Save) (at : FilesAt) → WritesSaves (s ∷ []) (Err write.NoMemory) at at
one_unmade s at = record {
  count = 0;
  is_count = omega arith;
  counted = refl;
  told = same_told s at.told;
  reads = refl;
  read_faults = refl;
  long_reads = refl;
}

none_told : (x : Unit {0}) (told : Option Told) → TellsSaves [] (Ok x) 0 told told
none_told x None = refl
none_told x (Some told) = record { files = refl; names_read = refl; names_written = sym (append-nil told.names_written) }

-- nothing was to be written
pub none_written : (x : Unit {0}) (at : FilesAt) → WritesSaves [] (Ok x) at at
none_written x at = record { count = 0; is_count = refl; counted = (refl, refl); told = none_told x at.told; reads = refl; read_faults = refl; long_reads = refl }

-- ---- a walk through the sheets

-- so many sheets were saved
pub record SavesGoOn (x : Unit {0}) (saves : List Save) (place : ℕ) (old now : FilesAt) : Type 0 where
  pub within : place ≤ length saves
  pub written : WritesSaves (take place saves) (Ok x) old now

pub saves_begin : (x : Unit {0}) (saves : List Save) (at : FilesAt) → SavesGoOn x saves 0 at at
saves_begin x saves at = record { within = omega arith; written = none_written x at }

-- the save of the sheet at a place
pub save_at : (suffix : List ℕ) (sheets : List SheetPath) (book : Sheets) (place : ℕ) (d : SheetPath) (n : NamedSheet) → place < length sheets → place < length book
    → drop place (saves_of suffix (sheets_view sheets) book)
    ≡ save_of (string_bytes (get_or sheets place d).path) suffix (get_or book place n).content ∷ drop (suc place) (saves_of suffix (sheets_view sheets) book)
save_at suffix [] book place d n listed within = absurd (omega (arith, listed))
save_at suffix (t ∷ sheets) [] place d n listed within = absurd (omega (arith, within))
save_at suffix (t ∷ sheets) (k ∷ book) zero d n listed within = refl
save_at suffix (t ∷ sheets) (k ∷ book) (suc place) d n listed within = save_at suffix sheets book place d n (omega (arith, listed)) (omega (arith, within))

-- the same by the sheet's number, and with the sheet and what the book has of it told otherwise
pub save_of_number : (suffix path : List ℕ) (sheets : List SheetPath) (book : Sheets) (place : ℕ) (s : SheetPath) (content : SheetContent) → place < length sheets → place < length book
    → path ≡ string_bytes s.path → s ≡ get_or sheets place s → content ≡ content_at book (record { 0 = place + 1 })
    → drop place (saves_of suffix (sheets_view sheets) book) ≡ save_of path suffix content ∷ drop (suc place) (saves_of suffix (sheets_view sheets) book)
save_of_number suffix path sheets book place s content listed within path_is is content_is =
    let none : NamedSheet = record { name = []; content = no_content } in
    let same : place + 1 - 1 ≡ place = omega arith in
    let rest = drop (suc place) (saves_of suffix (sheets_view sheets) book) in
    save_at suffix sheets book place s none listed within
    ∙ ap (λ (t : SheetPath). save_of (string_bytes t.path) suffix (get_or book place none).content ∷ rest) (sym is)
    ∙ ap (λ p. save_of p suffix (get_or book place none).content ∷ rest) (sym path_is)
    ∙ ap (λ k. save_of path suffix (get_or book k none).content ∷ rest) (sym same)
    ∙ ap (λ (k : SheetContent). save_of path suffix k ∷ rest) (sym content_is)

-- behind the last sheet of the list there is none to save
pub saves_end : (suffix : List ℕ) (sheets : List SheetPath) (book : Sheets) (place : ℕ) → length sheets ≤ place → length (saves_of suffix (sheets_view sheets) book) ≤ place
saves_end suffix [] book place behind = omega arith
saves_end suffix (t ∷ sheets) [] place behind = omega arith
saves_end suffix (t ∷ sheets) (n ∷ book) zero behind = absurd (omega (arith, behind))
saves_end suffix (t ∷ sheets) (n ∷ book) (suc place) behind = let h = saves_end suffix sheets book place (omega (arith, behind)) in omega (arith, h)

pub saves_short : (suffix : List ℕ) (sheets : List SheetAt) (book : Sheets) → length (saves_of suffix sheets book) ≤ length book
saves_short suffix [] book = omega arith
saves_short suffix (t ∷ sheets) [] = omega arith
saves_short suffix (t ∷ sheets) (n ∷ book) = let h = saves_short suffix sheets book in omega (arith, h)

module _ (x : Unit {0}) (saves : List Save) (place : ℕ) (s : Save) (old now new : FilesAt) (on : SavesGoOn x saves place old now)
    (next : drop place saves ≡ s ∷ drop (suc place) saves) where
  split : take place saves ++ s ∷ drop (suc place) saves ≡ saves
  split = ap (λ ss. take place saves ++ ss) (sym next) ∙ take-append-drop place saves

  rest : (take place saves ++ s ∷ []) ++ drop (suc place) saves ≡ saves
  rest = append_assoc (take place saves) (s ∷ []) (drop (suc place) saves) ∙ split

  size : length (take place saves) ≡ place
  size = let w = on.within in length-take-le place saves w

  one_more : take (suc place) saves ≡ take place saves ++ s ∷ []
  one_more =
      let k : suc place ≡ length (take place saves ++ s ∷ []) + 0 = omega (arith, size, length-append (take place saves) (s ∷ [])) in
      ap (take (suc place)) (sym rest)
      ∙ ap (λ n. take n ((take place saves ++ s ∷ []) ++ drop (suc place) saves)) k
      ∙ take-append-add (take place saves ++ s ∷ []) (drop (suc place) saves) 0
      ∙ append-nil (take place saves ++ s ∷ [])

  -- one save more was written
  pub save_written : WritesSaves (s ∷ []) (Ok x) now new → SavesGoOn x saves (suc place) old new
  save_written one = record {
    within = omega (arith, ap length rest, length-append (take place saves ++ s ∷ []) (drop (suc place) saves), length-append (take place saves) (s ∷ []), size);
    written = subst (λ ss. WritesSaves ss (Ok x) old new) (sym one_more) (saves_joined (take place saves) (s ∷ []) x (Ok x) old now new on.written one);
  }

  -- one save more wasn't written
  pub save_stopped : (e : WriteAnswer) → WritesSaves (s ∷ []) (Err e) now new → WritesSaves saves (Err e) old new
  save_stopped e one =
      subst (λ ss. WritesSaves ss (Err e) old new) rest
      (saves_stopped (take place saves ++ s ∷ []) (drop (suc place) saves) e old new (saves_joined (take place saves) (s ∷ []) x (Err e) old now new on.written one))

-- all saves were written
pub saves_done : (x : Unit {0}) (saves : List Save) (place : ℕ) (old now : FilesAt) → SavesGoOn x saves place old now → length saves ≤ place → WritesSaves saves (Ok x) old now
saves_done x saves place old now on all = subst (λ ss. WritesSaves ss (Ok x) old now) (take_all place saves all) on.written

-- the fault is the one that was given
pub fails_by : (r : Written) (e : WriteAnswer) → IsErrAnd r (λ x. x ≡ e) → (P : Written → Type 0) → P (Err e) → P r
fails_by (Ok x) e is P h = absurd is
fails_by (Err x) e is P h = subst (λ k. P (Err k)) (sym is) h
