-- Performing a command and telling its status is what a command promises.
use Rattle.std.proofs.Common.{◌≡◌, ◌∙◌, ℕ, suc, ◌+◌, ◌<◌, List, [], ◌++◌, length, take, refl, sym, ap, subst, arith, inl, inr, length-append}
use Rattle.std.specs.Prelude.{◌⊎◌, Bool, true, false, Result, Ok, Err, Option, Some, None, IfSome, IsSomeAnd, if◌then◌else◌}
use Rattle.std.proofs.Math.Seq.{take-append-add, take-length}
use Rattle.std.proofs.lemmas.List.{append-nil, length-map, length-take-le, take-append-le}
use Rattle.vba_base.specs.Causes.{Rose, Adds, AddsPrefix}
use Rattle.vba_base.specs.Map.{FileMap}
use Rattle.vba_base.specs.Outside.{Told, Counts}
use Rattle.vba_base.specs.declared.outside.WriteAnswer.TheVariants as write
use Rattle.vba_base.specs.declared.place.Place.{Place}
use Rattle.sheet_host.specs.Books.{Sheets}
use Rattle.bound_project.specs.Project.{Project}
use Rattle.bound_forms.specs.Bind as bind
use Rattle.project_run.specs.pcode_run.specs.declared.texts.Shows.{Shows}
use Rattle.project_run.specs.declared.outcome.Outcome.{Outcome}
use Rattle.project_run.specs.declared.outcome.Outcome.TheVariants as outcome
use Rattle.project_run.specs.Meant.{meant_book, meant_outcome}
use Rattle.vba_cli.specs.declared.status.Status.{Status}
use Rattle.vba_cli.specs.declared.status.Status.TheVariants.{Ended, Faulted, Usage, Refused, Stopped, Going, ReadFault, WriteFault, BadList, TooLong, BadBook, NotBuilt, NoMemory}
use Rattle.csv_book.specs.declared.fault.BookFault.{BookFault}
use Rattle.command_words.specs.Words.{Command, run, check, code}
use Rattle.list_file.specs.declared.files.ReadStop.{ReadStop}
use Rattle.list_file.specs.declared.files.ReadStop.TheVariants as read
use Rattle.list_file.specs.Files.{FilesAt, FilesTold, ReadInOrder, files_of, ups}
use Rattle.list_file.specs.Lists.{ModuleAt, SheetAt, Start}
use Rattle.list_file.specs.Plans.{Plan, bad_line, paths_at, project_at}
use Rattle.book_files.specs.declared.stop.BookStop.{BookStop}
use Rattle.book_files.specs.Book.{ReadsAll}
use Rattle.book_files.specs.Saves.{IsWritten, Save, SavedTo, TellsSaves, WritesSaves, Written, save_names, with_saves}
use Rattle.vba_cli.specs.Command.{command_in, ends_in_bas, path_in}
use Rattle.vba_cli.specs.Named.{Named, nothing_named}
use Rattle.vba_cli.specs.Answer.{Shown, answer, err_of, refused, saved_by, shown_of_book, shown_of_check, shown_of_code, shown_of_command, shown_of_files, shown_of_first, shown_of_plan, shown_of_program, shown_of_source, status_of, what_is_named}
use Rattle.vba_cli.specs.Contract.{Cause, Commands, CountsWrites, FilesWritten, IsAlone, IsAnswer, IsLastRead, IsNamed, NamesRead, NoneRose, Noticed, Quiet, ReadsSome, Says, Touches, UnlessFault, UnlessUnwritten, World, WritesAll, WritesNone, WritesUpTo, names_of, names_to, sheet_names, source_names}
use Rattle.vba_cli.specs.Steps.{Leaves, Meets, Performs, ReadsFor, Stores, Tells, WritesFor, files_in}
use Rattle.vba_base.proofs.Causes.{adds_none, adds_prefix_whole}
use Rattle.vba_cli.proofs.Steps.{none_prefix}
use Rattle.vba_cli.proofs.Taken.{map_any, map_told, wants_none}

-- ---- what is shown

-- what was shown is the answer's, or a prefix
meets_part : (shown : Shown) (result : Status) (old new : Option (List ℕ)) → Meets shown result old new → AddsPrefix old new shown.out
meets_part shown Ended old new m = adds_prefix_whole old new shown.out m.1
meets_part shown (Faulted number place) old new m = adds_prefix_whole old new shown.out m.1
meets_part shown Usage old new m = adds_prefix_whole old new shown.out m.1
meets_part shown Going old new m = adds_prefix_whole old new shown.out m.1
meets_part shown (ReadFault number) old new m = none_prefix old new shown.out m
meets_part shown WriteFault old new m = m
meets_part shown (TooLong number) old new m = adds_prefix_whole old new shown.out m.1
meets_part shown (BadBook sheet fault) old new m = adds_prefix_whole old new shown.out m.1
meets_part shown (BadList line) old new m = adds_prefix_whole old new shown.out m.1
meets_part shown (Refused refusal) old new m = adds_prefix_whole old new shown.out m.1
meets_part shown (Stopped why place) old new m = adds_prefix_whole old new shown.out m.1
meets_part shown (NotBuilt place) old new m = adds_prefix_whole old new shown.out m.1
meets_part shown NoMemory old new m = m

-- the status is the one to be shown, unless a fault came
meets_status : (shown : Shown) (result : Status) (old new : Option (List ℕ)) → Meets shown result old new → UnlessFault result shown.status
meets_status shown Ended old new m = m.0
meets_status shown (Faulted number place) old new m = m.0
meets_status shown Usage old new m = m.0
meets_status shown Going old new m = m.0
meets_status shown (ReadFault number) old new m = tt
meets_status shown WriteFault old new m = tt
meets_status shown (TooLong number) old new m = m.0
meets_status shown (BadBook sheet fault) old new m = m.0
meets_status shown (BadList line) old new m = m.0
meets_status shown (Refused refusal) old new m = m.0
meets_status shown (Stopped why place) old new m = m.0
meets_status shown (NotBuilt place) old new m = m.0
meets_status shown NoMemory old new m = tt

-- only a command that came to its end saves something
abbrev Silent : Shown → Type 0
Silent shown = (shown.saves ≡ []) ⊎ (shown.status ≡ Ended)

saved_silent : (save : Option (List ℕ)) (o : Outcome) (sheets : List SheetAt) (book : Sheets) → (saved_by save o sheets book ≡ []) ⊎ (status_of o ≡ Ended)
saved_silent None o sheets book = inl refl
saved_silent (Some suffix) outcome.Ended sheets book = inr refl
saved_silent (Some suffix) (outcome.Faulted number place) sheets book = inl refl
saved_silent (Some suffix) (outcome.Stopped why place) sheets book = inl refl
saved_silent (Some suffix) outcome.Going sheets book = inl refl

book_silent : (turns : ℕ) (shows : Shows) (save : Option (List ℕ)) (sheets : List SheetAt) (b : Result Sheets BookStop) (pr : Project) → Silent (shown_of_book turns shows save sheets b pr)
book_silent turns shows save sheets (Err reason) pr = inl refl
book_silent turns shows save sheets (Ok book) pr = saved_silent save (meant_outcome pr book turns) sheets (meant_book pr book turns)

program_silent : (shown : Project → Shown) (answer : bind.Answer) → ((pr : Project) → Silent (shown pr)) → Silent (shown_of_program shown answer)
program_silent shown (bind.refused refusal) h = inl refl
program_silent shown (bind.not_built_at place) h = inl refl
program_silent shown (bind.bound_as pr) h = h pr

check_silent : (answer : bind.Answer) → Silent (shown_of_check answer)
check_silent (bind.refused refusal) = inl refl
check_silent (bind.not_built_at place) = inl refl
check_silent (bind.bound_as pr) = inl refl

source_silent : (command : Command) (sheets : List SheetAt) (b : Result Sheets BookStop) (answer : bind.Answer) → Silent (shown_of_source command sheets b answer)
source_silent (run path turns trace save) sheets b answer = program_silent _ answer (λ pr. book_silent turns _ save sheets b pr)
source_silent (check path) sheets b answer = check_silent answer
source_silent (code path) sheets b answer = program_silent shown_of_code answer (λ pr. inl refl)

files_silent : (left : Option Place) (command : Command) (files : FileMap) (taken : ℕ) (modules : List ModuleAt) (sheets : List SheetAt) (start : Start) (r : Result (List (List ℕ)) ReadStop)
    → Silent (shown_of_files left command files taken modules sheets start r)
files_silent left command files taken modules sheets start (Err reason) = inl refl
files_silent left command files taken modules sheets start (Ok sources) = source_silent command sheets _ _

plan_silent : (left : Option Place) (command : Command) (files : FileMap) (taken : ℕ) (plan : Plan) → Silent (shown_of_plan left command files taken plan)
plan_silent left command files taken (bad_line line) = inl refl
plan_silent left command files taken (project_at modules sheets start) =
    files_silent left command files taken modules sheets start (files_of files 1 taken (paths_at modules))

if_silent : (b : Bool) (one other : Shown) → Silent one → Silent other → Silent (if b then one else other)
if_silent true one other h k = h
if_silent false one other h k = k

first_silent : (left : Option Place) (command : Command) (files : FileMap) (r : Result (List ℕ) ReadStop) → Silent (shown_of_first left command files r)
first_silent left command files (Err reason) = inl refl
first_silent left command files (Ok bytes) =
    if_silent (ends_in_bas (path_in command)) _ _ (source_silent command [] (Ok []) _) (plan_silent left command files (length bytes) _)

command_silent : (left : Option Place) (files : FileMap) (command : Option Command) → Silent (shown_of_command left files command)
command_silent left files None = inl refl
command_silent left files (Some command) = first_silent left command files _

-- ---- what was read

-- what was read is a part of the names
some_of : (names old new : List (List ℕ)) (count : ℕ) → new ≡ old ++ take count names → ReadsSome names old new
some_of names old new count is = record { count = count; read = is }

whole_of : (names old new : List (List ℕ)) → new ≡ old ++ names → ReadsSome names old new
whole_of names old new is = some_of names old new (length names) (is ∙ ap (λ ns. old ++ ns) (sym (take-length names)))

first_part : (a b old new : List (List ℕ)) → new ≡ old ++ a → ReadsSome (a ++ b) old new
first_part a b old new is =
    some_of (a ++ b) old new (length a) (is ∙ ap (λ ns. old ++ ns) (sym (take-append-le (length a) a b (omega arith) ∙ take-length a)))

up_to : (a b old new : List (List ℕ)) (count : ℕ) → new ≡ old ++ (a ++ take count b) → ReadsSome (a ++ b) old new
up_to a b old new count is = some_of (a ++ b) old new (length a + count) (is ∙ ap (λ ns. old ++ ns) (sym (take-append-add a b count)))

names_part : (command : Option Command) (l : Named) (status : Status) (old new : List (List ℕ)) → NamesRead command l status old new → ReadsSome (names_of command l) old new
names_part command l Ended old new r = whole_of (names_of command l) old new r
names_part command l (Faulted number place) old new r = whole_of (names_of command l) old new r
names_part command l Usage old new r = whole_of (names_of command l) old new r
names_part command l Going old new r = whole_of (names_of command l) old new r
names_part command l (ReadFault number) old new r = some_of (names_of command l) old new (suc number) r
names_part command l WriteFault old new r = r
names_part command l (BadList line) old new r = whole_of (names_of command l) old new r
names_part command l (TooLong number) old new r = some_of (names_of command l) old new (suc number) r
names_part command l (BadBook sheet fault) old new r = up_to (source_names command l) (sheet_names command l) old new sheet r
names_part command l (Refused refusal) old new r = first_part (source_names command l) (sheet_names command l) old new r
names_part command l (Stopped why place) old new r = whole_of (names_of command l) old new r
names_part command l (NotBuilt place) old new r = first_part (source_names command l) (sheet_names command l) old new r
names_part command l NoMemory old new r = r

-- what is named is what the list names, or nothing
named_part : (status : Status) (l all : Named) → IsNamed status l all → (l ≡ nothing_named) ⊎ (l ≡ all)
named_part Ended l all is = inr is
named_part (Faulted number place) l all is = inr is
named_part Usage l all is = inr is
named_part Going l all is = inr is
named_part (ReadFault number) l all is = is
named_part WriteFault l all is = is
named_part (BadList line) l all is = inr is
named_part (TooLong number) l all is = inr is
named_part (BadBook sheet fault) l all is = inr is
named_part (Refused refusal) l all is = inr is
named_part (Stopped why place) l all is = inr is
named_part (NotBuilt place) l all is = inr is
named_part NoMemory l all is = is

-- files that were read tell so many names more
tells_all : (names : List (List ℕ)) (number taken : ℕ) (a b : FilesAt) (before : Told) → a.told ≡ Some before → ReadsAll names number taken a b
    → b.told ≡ Some (record before { names_read = before.names_read ++ names })
tells_all names number taken a b before is r =
    let q = r.read in
    let told = subst (λ t. FilesTold names number taken (Ok r.files) q.count t b.told) is q.told in
    told.0
    ∙ ap (λ k. Some (record before { names_read = before.names_read ++ take k names })) q.is_count
    ∙ ap (λ ns. Some (record before { names_read = before.names_read ++ ns })) (take-length names)

tells_some : (names : List (List ℕ)) (reason : ReadStop) (number taken : ℕ) (a b : FilesAt) (before : Told) (q : ReadInOrder names number taken (Err reason) a b) → a.told ≡ Some before
    → b.told ≡ Some (record before { names_read = before.names_read ++ take q.count names })
tells_some names reason number taken a b before q is = let told = subst (λ t. FilesTold names number taken (Err reason) q.count t b.told) is q.told in told.0

-- the names that were told behind the reading
pub record MidTold (command : Option Command) (l : Named) (status : Status) (before : Told) (mid : FilesAt) : Type 0 where
  pub names : List (List ℕ)
  pub told : mid.told ≡ Some (record before { names_read = names })
  pub read : NamesRead command l status before.names_read names

mid_all : (command : Option Command) (l : Named) (status : Status) (before : Told) (old mid : FilesAt) (names : List (List ℕ)) → old.told ≡ Some before → ReadsAll names 0 0 old mid
    → NamesRead command l status before.names_read (before.names_read ++ names) → MidTold command l status before mid
mid_all command l status before old mid names is r n = record { names = before.names_read ++ names; told = tells_all names 0 0 old mid before is r; read = n }

mid_told : (command : Option Command) (l : Named) (status : Status) (before : Told) (old mid : FilesAt) → old.told ≡ Some before → ReadsFor command l status old mid → MidTold command l status before mid
mid_told command l Ended before old mid is r = mid_all command l Ended before old mid (names_of command l) is r refl
mid_told command l (Faulted number place) before old mid is r = mid_all command l (Faulted number place) before old mid (names_of command l) is r refl
mid_told command l Usage before old mid is r = record {
  names = before.names_read;
  told = ap (λ (f : FilesAt). f.told) r.1 ∙ is;
  read = sym (ap (λ c. before.names_read ++ names_of c l) r.0 ∙ append-nil before.names_read);
}
mid_told command l Going before old mid is r = mid_all command l Going before old mid (names_of command l) is r refl
mid_told command l (ReadFault n) before old mid is r =
    let h = r.is_count in
    let e : r.count ≡ suc n = omega (arith, h.1) in
    record {
      names = before.names_read ++ take r.count (names_of command l);
      told = tells_some (names_of command l) (read.Failed n) 0 0 old mid before r is;
      read = ap (λ k. before.names_read ++ take k (names_of command l)) e;
    }
mid_told command l WriteFault before old mid is r =
    mid_all command l WriteFault before old mid (names_of command l) is r (whole_of (names_of command l) before.names_read (before.names_read ++ names_of command l) refl)
mid_told command l (BadList line) before old mid is r = mid_all command l (BadList line) before old mid (names_of command l) is r refl
mid_told command l (TooLong n) before old mid is r =
    let h = r.is_count in
    let e : r.count ≡ suc n = omega (arith, h.1) in
    record {
      names = before.names_read ++ take r.count (names_of command l);
      told = tells_some (names_of command l) (read.TooLong n) 0 0 old mid before r is;
      read = ap (λ k. before.names_read ++ take k (names_of command l)) e;
    }
mid_told command l (BadBook sheet fault) before old mid is r =
    mid_all command l (BadBook sheet fault) before old mid (names_to command l (BadBook sheet fault)) is r.2 refl
mid_told command l (Refused refusal) before old mid is r = mid_all command l (Refused refusal) before old mid (source_names command l) is r refl
mid_told command l (Stopped why place) before old mid is r = mid_all command l (Stopped why place) before old mid (names_of command l) is r refl
mid_told command l (NotBuilt place) before old mid is r = mid_all command l (NotBuilt place) before old mid (source_names command l) is r refl
mid_told command l NoMemory before old mid is r = record {
  names = before.names_read ++ take r.count (names_of command l);
  told = tells_some (names_of command l) read.NoMemory 0 0 old mid before r is;
  read = some_of (names_of command l) before.names_read (before.names_read ++ take r.count (names_of command l)) r.count refl;
}

-- ---- what was written

module _ (before : Told) (names : List (List ℕ)) (saves : List Save) where
  abbrev behind : Told
  behind = record before { names_read = names }

  -- nothing was written behind the reading
  none_after : (P : Told → Type 0) (mid new : FilesAt) → mid.told ≡ Some behind → new ≡ mid → P behind → IsSomeAnd new.told P
  none_after P mid new is same h = subst (λ t. IsSomeAnd t P) (sym (ap (λ (f : FilesAt). f.told) same ∙ is)) h

  -- saves were written behind it
  saves_after : (outcome : Written) (mid new : FilesAt) → mid.told ≡ Some behind → (w : WritesSaves saves outcome mid new)
      → IsSomeAnd new.told (λ after. SavedTo saves outcome w.count behind after)
  saves_after outcome mid new is w = subst (λ t. TellsSaves saves outcome w.count t new.told) is w.told

map_is : {P Q : Told → Type 0} (told : Option Told) → ((t : Told) → P t → Q t) → IsSomeAnd told P → IsSomeAnd told Q
map_is None f h = h
map_is (Some t) f h = f t h

wrote_all : (before : Told) (names : List (List ℕ)) (saves : List Save) (count : ℕ) (after : Told) → IsWritten (length saves) (Ok tt) count
    → SavedTo saves (Ok tt) count (record before { names_read = names }) after → WritesAll saves before after
wrote_all before names saves count after is s = record {
  files = s.files ∙ ap (λ k. with_saves before.files (take k saves)) is ∙ ap (with_saves before.files) (take-length saves);
  names_written =
      s.names_written
      ∙ ap (λ k. before.names_written ++ take k (save_names saves)) (is ∙ sym (length-map saves (λ (k : Save). k.name)))
      ∙ ap (λ ns. before.names_written ++ ns) (take-length (save_names saves));
}

wrote_up_to : (before : Told) (names : List (List ℕ)) (saves : List Save) (outcome : Written) (count : ℕ) (after : Told) → IsWritten (length saves) outcome count
    → SavedTo saves outcome count (record before { names_read = names }) after → WritesUpTo saves before after
wrote_up_to before names saves (Ok x) count after is s = record { outcome = Ok x; count = count; is_count = is; files = s.files; names_written = s.names_written }
wrote_up_to before names saves (Err e) count after is s = record { outcome = Err e; count = count; is_count = is; files = s.files; names_written = s.names_written }

all_up_to : (saves : List Save) (old new : Told) → WritesAll saves old new → WritesUpTo saves old new
all_up_to saves old new w = record {
  outcome = Ok tt;
  count = length saves;
  is_count = refl;
  files = w.files ∙ ap (with_saves old.files) (sym (take-length saves));
  names_written =
      w.names_written
      ∙ ap (λ ns. old.names_written ++ ns) (sym (take-length (save_names saves)))
      ∙ ap (λ k. old.names_written ++ take k (save_names saves)) (length-map saves (λ (k : Save). k.name));
}

module _ (command : Option Command) (l : Named) (before : Told) (mid new : FilesAt) (meant : Told → List Save) where
  -- a call that wrote nothing
  touches_none : (status : Status) → MidTold command l status before mid → new ≡ mid → ((t : Told) → WritesNone before t → FilesWritten (meant before) status before t)
      → IsSomeAnd new.told (λ after. Touches command l (meant before) status before after)
  touches_none status m same f =
      none_after before m.names (meant before) (λ after. Touches command l (meant before) status before after) mid new m.told same
      (record { read = m.read; written = f (record before { names_read = m.names }) (record { files = refl; names_written = refl }) })

  touches_saves : (status : Status) (outcome : Written) (m : MidTold command l status before mid) (s : Stores meant (Some before) outcome mid new)
      → ((count : ℕ) (after : Told) → IsWritten (length s.saves) outcome count → SavedTo s.saves outcome count (record before { names_read = m.names }) after
      → FilesWritten s.saves status before after)
      → ((after : Told) → SavedTo s.saves outcome (let w = s.written in w.count) (record before { names_read = m.names }) after → NamesRead command l status before.names_read after.names_read)
      → IsSomeAnd new.told (λ after. Touches command l (meant before) status before after)
  touches_saves status outcome m s f g =
      let w = s.written in
      subst (λ saves. IsSomeAnd new.told (λ after. Touches command l saves status before after)) s.are_meant
      (map_is new.told (λ after h. record { read = g after h; written = f w.count after w.is_count h }) (saves_after before m.names s.saves outcome mid new m.told w))

  touched : (status : Status) → MidTold command l status before mid → WritesFor status meant (Some before) mid new
      → IsSomeAnd new.told (λ after. Touches command l (meant before) status before after)
  touched Ended m w =
      touches_saves Ended (Ok tt) m w (λ count after is s. wrote_all before m.names w.saves count after is s)
      (λ after s. s.names_read ∙ m.read)
  touched (Faulted number place) m w = touches_none (Faulted number place) m w (λ t n. n)
  touched Usage m w = touches_none Usage m w (λ t n. n)
  touched Going m w = touches_none Going m w (λ t n. n)
  touched (ReadFault number) m w = touches_none (ReadFault number) m w (λ t n. n)
  touched WriteFault m w =
      elim w [
        | inl none ↦ touches_none WriteFault m none (λ t n. inl n)
        | inr s ↦
            touches_saves WriteFault (Err write.Failed) m s (λ count after is h. inr (wrote_up_to before m.names s.saves (Err write.Failed) count after is h))
            (λ after h. let r = m.read in record { count = r.count; read = h.names_read ∙ r.read })
      ]
  touched (BadList line) m w = touches_none (BadList line) m w (λ t n. n)
  touched (TooLong number) m w = touches_none (TooLong number) m w (λ t n. n)
  touched (BadBook sheet fault) m w = touches_none (BadBook sheet fault) m w (λ t n. n)
  touched (Refused refusal) m w = touches_none (Refused refusal) m w (λ t n. n)
  touched (Stopped why place) m w = touches_none (Stopped why place) m w (λ t n. n)
  touched (NotBuilt place) m w = touches_none (NotBuilt place) m w (λ t n. n)
  touched NoMemory m w =
      elim w [
        | inl none ↦ touches_none NoMemory m none (λ t n. inl n)
        | inr s ↦
            touches_saves NoMemory (Err write.NoMemory) m s (λ count after is h. inr (wrote_up_to before m.names s.saves (Err write.NoMemory) count after is h))
            (λ after h. let r = m.read in record { count = r.count; read = h.names_read ∙ r.read })
      ]

-- what was written is nothing, or a part of the saves
written_part : (saves : List Save) (status : Status) (old new : Told) → FilesWritten saves status old new → WritesNone old new ⊎ WritesUpTo saves old new
written_part saves Ended old new w = inr (all_up_to saves old new w)
written_part saves (Faulted number place) old new w = inl w
written_part saves Usage old new w = inl w
written_part saves Going old new w = inl w
written_part saves (ReadFault number) old new w = inl w
written_part saves WriteFault old new w = w
written_part saves (BadList line) old new w = inl w
written_part saves (TooLong number) old new w = inl w
written_part saves (BadBook sheet fault) old new w = inl w
written_part saves (Refused refusal) old new w = inl w
written_part saves (Stopped why place) old new w = inl w
written_part saves (NotBuilt place) old new w = inl w
written_part saves NoMemory old new w = w

-- ---- counts

-- the counts behind a step that wrote nothing are those behind the reading
counts_same : (mid new : FilesAt) → new ≡ mid → new.counts ≡ mid.counts
counts_same mid new same = ap (λ (f : FilesAt). f.counts) same

module _ (command : Option Command) (l : Named) (meant : Told → List Save) (told : Option Told) (old mid new : FilesAt) where
  -- the count of failed reads, of a status that names none
  abbrev SameReads : Type 0
  SameReads = new.counts.read_faults ≡ old.counts.read_faults

  all_same : (names : List (List ℕ)) → ReadsAll names 0 0 old mid → new ≡ mid → SameReads
  all_same names r same = let q = r.read in let c = q.counted in ap (λ (k : Counts). k.read_faults) (counts_same mid new same) ∙ c.1

  ended_same : ReadsFor command l Ended old mid → WritesFor Ended meant told mid new → SameReads
  ended_same r w = let s = w.written in let q = r.read in let c = q.counted in s.read_faults ∙ c.1

  -- a file can't be read, or is too long
  last_failed : (n : ℕ) → ReadsFor command l (ReadFault n) old mid → new ≡ mid → IsLastRead (names_of command l) n old.counts new.counts × Rose old.counts.read_faults new.counts.read_faults
  last_failed n r same =
      let i = r.is_count in
      let c = r.counted in
      let e : r.count ≡ suc n = omega (arith, i.1) in
      subst (λ (k : Counts). IsLastRead (names_of command l) n old.counts k × Rose old.counts.read_faults k.read_faults) (sym (counts_same mid new same))
      ((omega (arith, i.2, e), c.0 ∙ ap (λ k. ups k old.counts.reads) e), c.1)

  last_long : (n : ℕ) → ReadsFor command l (TooLong n) old mid → new ≡ mid
      → IsLastRead (names_of command l) n old.counts new.counts × (Rose old.counts.long_reads new.counts.long_reads × SameReads)
  last_long n r same =
      let i = r.is_count in
      let c = r.counted in
      let e : r.count ≡ suc n = omega (arith, i.1) in
      subst
      (λ (k : Counts). IsLastRead (names_of command l) n old.counts k × (Rose old.counts.long_reads k.long_reads × (k.read_faults ≡ old.counts.read_faults))) (sym (counts_same mid new same))
      ((omega (arith, i.2, e), c.0 ∙ ap (λ k. ups k old.counts.reads) e), (c.2, c.1))

-- the file of a sheet is none
last_sheet : (command : Option Command) (l : Named) (sheet : ℕ) (fault : BookFault) (old mid new : FilesAt) → (command ≡ None → UnlessUnwritten (BadBook sheet fault) Usage)
    → ReadsFor command l (BadBook sheet fault) old mid → new ≡ mid → IsLastRead (names_of command l) (length l.modules + sheet) old.counts new.counts
last_sheet None l sheet fault old mid new usage r same = let no = usage refl in absurd cc
last_sheet (Some command) l sheet fault old mid new usage r same =
    let a = r.2 in
    let q = a.read in
    let c = q.counted in
    let names = sheet_names (Some command) l in
    let base = source_names (Some command) l in
    let count : q.count ≡ suc (length l.modules + sheet) = omega (arith, q.is_count, length-append base (take sheet names), length-take-le sheet names r.1) in
    let few : length l.modules + sheet < length (base ++ names) = omega (arith, r.1, length-append base names) in
    subst (λ (k : Counts). IsLastRead (names_of (Some command) l) (length l.modules + sheet) old.counts k) (sym (counts_same mid new same))
    (few, c.0 ∙ ap (λ k. ups k old.counts.reads) count)

-- ---- the promise

module _ (words : List (List ℕ)) (l : Named) (performed : Status) (old new : World) (p : Performs (command_in words) l performed old new) where
  abbrev told_so : Status → Type 0
  told_so result = Tells (command_in words) l performed result old.err new.err old.err_faults new.err_faults

  -- the bytes of `out` are a prefix of the answer's, whatever came
  part : IfSome old.told (λ told. AddsPrefix old.out new.out (answer p.left words told.files).out)
  part = map_told old.told (λ told m. meets_part (shown_of_command p.left told.files (command_in words)) performed old.out new.out m) p.meets

  -- what holds of the status that was performed holds of the one that is told, if it does of failed writing and want of
  -- memory
  carried : (P : Status → Type 0) → P performed → (P performed → P WriteFault) → (P performed → P NoMemory) → (result : Status) → told_so result → P result
  carried P h f m Ended t = subst P (sym t.0) h
  carried P h f m (Faulted number place) t = subst P (sym t.0) h
  carried P h f m Usage t = subst P (sym t.0) h
  carried P h f m Going t = subst P (sym t.0) h
  carried P h f m (ReadFault number) t = subst P (sym t.0) h
  carried P h f m WriteFault t = f h
  carried P h f m (BadList line) t = subst P (sym t.0) h
  carried P h f m (TooLong number) t = subst P (sym t.0) h
  carried P h f m (BadBook sheet fault) t = subst P (sym t.0) h
  carried P h f m (Refused refusal) t = subst P (sym t.0) h
  carried P h f m (Stopped why place) t = subst P (sym t.0) h
  carried P h f m (NotBuilt place) t = subst P (sym t.0) h
  carried P h f m NoMemory t = m h

  -- what the files tell
  saves_meant : Told → List Save
  saves_meant told = (shown_of_command p.left told.files (command_in words)).saves

  touched_first : (told : Option Told) → old.told ≡ told → WritesFor performed (λ t. (shown_of_command p.left t.files (command_in words)).saves) told p.mid (files_in new)
      → IfSome told (λ before. IsSomeAnd new.told (λ after. Touches (command_in words) l (shown_of_command p.left before.files (command_in words)).saves performed before after))
  touched_first None is w = tt
  touched_first (Some before) is w =
      touched (command_in words) l before p.mid (files_in new) (λ t. (shown_of_command p.left t.files (command_in words)).saves) performed
      (mid_told (command_in words) l performed before (files_in old) p.mid is p.read) w

  touches : IfSome old.told (λ before. IsSomeAnd new.told (λ after. Touches (command_in words) l (shown_of_command p.left before.files (command_in words)).saves performed before after))
  touches = touched_first old.told refl p.written

  touches_part : (saves : List Save) (result : Status) (before after : Told) → (NamesRead (command_in words) l performed before.names_read after.names_read → NamesRead (command_in words) l result before.names_read after.names_read)
      → (FilesWritten saves performed before after → FilesWritten saves result before after) → Touches (command_in words) l saves performed before after → Touches (command_in words) l saves result before after
  touches_part saves result before after f g h = record { read = f h.read; written = g h.written }

  touches_as : (result : Status) → told_so result
      → IfSome old.told (λ before. IsSomeAnd new.told (λ after. Touches (command_in words) l (shown_of_command p.left before.files (command_in words)).saves result before after))
  touches_as result t =
      map_told old.told
      (λ before h.
      map_is new.told
      (λ after k.
      let saves = (shown_of_command p.left before.files (command_in words)).saves in
      carried (λ s. Touches (command_in words) l saves s before after) k
      (λ q. record { read = names_part (command_in words) l performed before.names_read after.names_read q.read; written = written_part saves performed before after q.written })
      (λ q. record { read = names_part (command_in words) l performed before.names_read after.names_read q.read; written = written_part saves performed before after q.written })
      result t)
      h)
      touches

  named_so : (result : Status) → told_so result → IfSome old.told (λ told. IsNamed result l (what_is_named told.files (command_in words)))
  named_so result t =
      map_told old.told (λ told is. let all = what_is_named told.files (command_in words) in
      carried (λ s. IsNamed s l all) is (λ h. named_part performed l all h) (λ h. named_part performed l all h) result t) p.listed

  unless_of : (result : Status) (meant : Status) → UnlessFault performed meant → told_so result → UnlessFault result meant
  unless_of result meant u t = carried (λ s. UnlessFault s meant) u (λ h. tt) (λ h. tt) result t

  usage_of : (result : Status) → UnlessUnwritten performed Usage → told_so result → UnlessUnwritten result Usage
  usage_of result u t = carried (λ s. UnlessUnwritten s Usage) u (λ h. tt) (λ h. tt) result t

  -- what reading, writing and `out` say of a status that was performed
  reads_as : (result : Status) → result ≡ performed → ReadsFor (command_in words) l result (files_in old) p.mid
  reads_as result is = subst (λ s. ReadsFor (command_in words) l s (files_in old) p.mid) (sym is) p.read

  writes_so : (result : Status) → result ≡ performed → WritesFor result (λ t. (shown_of_command p.left t.files (command_in words)).saves) old.told p.mid (files_in new)
  writes_so result is = subst (λ s. WritesFor s (λ t. (shown_of_command p.left t.files (command_in words)).saves) old.told p.mid (files_in new)) (sym is) p.written

  leaves_as : (result : Status) → result ≡ performed → Leaves result old new
  leaves_as result is = subst (λ s. Leaves s old new) (sym is) p.leaves

  usage_as : (result : Status) → result ≡ performed → command_in words ≡ None → UnlessUnwritten result Usage
  usage_as result is = λ none. subst (λ s. UnlessUnwritten s Usage) (sym is) (p.usage none)

  cause_of : (result : Status) → told_so result → Cause words l old new result
  cause_of Ended t = tt
  cause_of (Faulted number place) t = tt
  cause_of Usage t = let r = reads_as Usage t.0 in r.0
  cause_of Going t = tt
  cause_of (ReadFault n) t =
      last_failed (command_in words) l (λ b. []) old.told (files_in old) p.mid (files_in new) n (reads_as (ReadFault n) t.0) (writes_so (ReadFault n) t.0)
  cause_of WriteFault t =
      elim t [
        | inl own ↦ elim (leaves_as WriteFault (sym own.0)) [ inl put ↦ inl put | inr written ↦ inr (inr written) ]
        | inr failed ↦ inr (inl failed.0)
      ]
  cause_of (BadList line) t = tt
  cause_of (TooLong n) t =
      let r = last_long (command_in words) l (λ b. []) old.told (files_in old) p.mid (files_in new) n (reads_as (TooLong n) t.0) (writes_so (TooLong n) t.0) in
      let c = r.1 in (r.0, c.0)
  cause_of (BadBook sheet fault) t =
      last_sheet (command_in words) l sheet fault (files_in old) p.mid (files_in new) (usage_as (BadBook sheet fault) t.0) (reads_as (BadBook sheet fault) t.0) (writes_so (BadBook sheet fault) t.0)
  cause_of (Refused refusal) t = tt
  cause_of (Stopped why place) t = tt
  cause_of (NotBuilt place) t = tt
  cause_of NoMemory t = tt

  -- no read failed, of a status behind which all names to it were read
  none_failed : (names : List (List ℕ)) → ReadsAll names 0 0 (files_in old) p.mid → files_in new ≡ p.mid → new.counts.read_faults ≡ old.counts.read_faults
  none_failed names r same = all_same (command_in words) l (λ b. []) old.told (files_in old) p.mid (files_in new) names r same

  noticed_of : (result : Status) → told_so result → Noticed old new result
  noticed_of Ended t =
      let m = leaves_as Ended t.0 in
      record {
        read_faults =
            ended_same (command_in words) l (λ b. (shown_of_command p.left b.files (command_in words)).saves) old.told (files_in old) p.mid (files_in new) (reads_as Ended t.0) (writes_so Ended t.0);
        write_faults = m.write_faults;
        out_faults = m.out_faults;
        err_faults = t.1;
      }
  noticed_of (Faulted number place) t =
      let m = leaves_as (Faulted number place) t.0 in
      record { read_faults = none_failed (names_of (command_in words) l) (reads_as (Faulted number place) t.0) (writes_so (Faulted number place) t.0); write_faults = m.write_faults; out_faults = m.out_faults; err_faults = t.1 }
  noticed_of Usage t =
      let m = leaves_as Usage t.0 in let u = m.unspoilt in let r = reads_as Usage t.0 in
      let w : files_in new ≡ p.mid = writes_so Usage t.0 in
      record { read_faults = ap (λ (f : FilesAt). let c = f.counts in c.read_faults) (w ∙ r.1); write_faults = u.write_faults; out_faults = u.out_faults; err_faults = t.1 }
  noticed_of Going t =
      let m = leaves_as Going t.0 in
      record { read_faults = none_failed (names_of (command_in words) l) (reads_as Going t.0) (writes_so Going t.0); write_faults = m.write_faults; out_faults = m.out_faults; err_faults = t.1 }
  noticed_of (ReadFault n) t =
      let m = leaves_as (ReadFault n) t.0 in let u = m.unspoilt in record { write_faults = u.write_faults; out_faults = u.out_faults; err_faults = t.1 }
  noticed_of WriteFault t = tt
  noticed_of (BadList line) t =
      let m = leaves_as (BadList line) t.0 in let u = m.unspoilt in
      record { read_faults = none_failed (names_of (command_in words) l) (reads_as (BadList line) t.0) (writes_so (BadList line) t.0); write_faults = u.write_faults; out_faults = u.out_faults; err_faults = t.1 }
  noticed_of (TooLong n) t =
      let m = leaves_as (TooLong n) t.0 in let u = m.unspoilt in
      let r = last_long (command_in words) l (λ b. []) old.told (files_in old) p.mid (files_in new) n (reads_as (TooLong n) t.0) (writes_so (TooLong n) t.0) in
      let c = r.1 in
      record { read_faults = c.1; write_faults = u.write_faults; out_faults = u.out_faults; err_faults = t.1 }
  noticed_of (BadBook sheet fault) t =
      let m = leaves_as (BadBook sheet fault) t.0 in let u = m.unspoilt in
      let r = reads_as (BadBook sheet fault) t.0 in
      record { read_faults = none_failed (names_to (command_in words) l (BadBook sheet fault)) r.2 (writes_so (BadBook sheet fault) t.0); write_faults = u.write_faults; out_faults = u.out_faults; err_faults = t.1 }
  noticed_of (Refused refusal) t =
      let m = leaves_as (Refused refusal) t.0 in let u = m.unspoilt in
      record { read_faults = none_failed (source_names (command_in words) l) (reads_as (Refused refusal) t.0) (writes_so (Refused refusal) t.0); write_faults = u.write_faults; out_faults = u.out_faults; err_faults = t.1 }
  noticed_of (Stopped why place) t =
      let m = leaves_as (Stopped why place) t.0 in
      record { read_faults = none_failed (names_of (command_in words) l) (reads_as (Stopped why place) t.0) (writes_so (Stopped why place) t.0); write_faults = m.write_faults; out_faults = m.out_faults; err_faults = t.1 }
  noticed_of (NotBuilt place) t =
      let m = leaves_as (NotBuilt place) t.0 in let u = m.unspoilt in
      record { read_faults = none_failed (source_names (command_in words) l) (reads_as (NotBuilt place) t.0) (writes_so (NotBuilt place) t.0); write_faults = u.write_faults; out_faults = u.out_faults; err_faults = t.1 }
  noticed_of NoMemory t = tt

  quiet_of : (result : Status) → told_so result → Quiet old new result
  quiet_of Ended t = tt
  quiet_of (Faulted number place) t = tt
  quiet_of Usage t = let m = leaves_as Usage t.0 in m.out
  quiet_of Going t = tt
  quiet_of (ReadFault number) t = let m = leaves_as (ReadFault number) t.0 in m.out
  quiet_of WriteFault t = tt
  quiet_of (BadList line) t = let m = leaves_as (BadList line) t.0 in m.out
  quiet_of (TooLong number) t = let m = leaves_as (TooLong number) t.0 in m.out
  quiet_of (BadBook sheet fault) t = let m = leaves_as (BadBook sheet fault) t.0 in m.out
  quiet_of (Refused refusal) t = let m = leaves_as (Refused refusal) t.0 in m.out
  quiet_of (Stopped why place) t = tt
  quiet_of (NotBuilt place) t = let m = leaves_as (NotBuilt place) t.0 in m.out
  quiet_of NoMemory t = tt

  says_of : (result : Status) → told_so result → Says (command_in words) l old new result
  says_of Ended t = t.2
  says_of (Faulted number place) t = t.2
  says_of Usage t = t.2
  says_of Going t = t.2
  says_of (ReadFault number) t = t.2
  says_of WriteFault t = elim t [ inl own ↦ inl own.2 | inr failed ↦ inr failed ]
  says_of (BadList line) t = t.2
  says_of (TooLong number) t = t.2
  says_of (BadBook sheet fault) t = t.2
  says_of (Refused refusal) t = t.2
  says_of (Stopped why place) t = t.2
  says_of (NotBuilt place) t = t.2
  says_of NoMemory t = t.1

  -- nothing was written, as often as before
  all_unwritten : (names : List (List ℕ)) → ReadsAll names 0 0 (files_in old) p.mid → files_in new ≡ p.mid → new.counts.writes ≡ old.counts.writes
  all_unwritten names r same = let q = r.read in ap (λ (f : FilesAt). let c = f.counts in c.writes) same ∙ q.writes

  stop_unwritten : (names : List (List ℕ)) (reason : ReadStop) → ReadInOrder names 0 0 (Err reason) (files_in old) p.mid → files_in new ≡ p.mid → new.counts.writes ≡ old.counts.writes
  stop_unwritten names reason q same = ap (λ (f : FilesAt). let c = f.counts in c.writes) same ∙ q.writes

  counts_of : (result : Status) → told_so result → CountsWrites result old.counts new.counts
  counts_of Ended t = tt
  counts_of (Faulted number place) t = all_unwritten (names_of (command_in words) l) (reads_as (Faulted number place) t.0) (writes_so (Faulted number place) t.0)
  counts_of Usage t =
      let r = reads_as Usage t.0 in
      let w : files_in new ≡ p.mid = writes_so Usage t.0 in
      ap (λ (f : FilesAt). let c = f.counts in c.writes) (w ∙ r.1)
  counts_of Going t = all_unwritten (names_of (command_in words) l) (reads_as Going t.0) (writes_so Going t.0)
  counts_of (ReadFault n) t = stop_unwritten (names_of (command_in words) l) (read.Failed n) (reads_as (ReadFault n) t.0) (writes_so (ReadFault n) t.0)
  counts_of WriteFault t = tt
  counts_of (BadList line) t = all_unwritten (names_of (command_in words) l) (reads_as (BadList line) t.0) (writes_so (BadList line) t.0)
  counts_of (TooLong n) t = stop_unwritten (names_of (command_in words) l) (read.TooLong n) (reads_as (TooLong n) t.0) (writes_so (TooLong n) t.0)
  counts_of (BadBook sheet fault) t =
      let r = reads_as (BadBook sheet fault) t.0 in all_unwritten (names_to (command_in words) l (BadBook sheet fault)) r.2 (writes_so (BadBook sheet fault) t.0)
  counts_of (Refused refusal) t = all_unwritten (source_names (command_in words) l) (reads_as (Refused refusal) t.0) (writes_so (Refused refusal) t.0)
  counts_of (Stopped why place) t = all_unwritten (names_of (command_in words) l) (reads_as (Stopped why place) t.0) (writes_so (Stopped why place) t.0)
  counts_of (NotBuilt place) t = all_unwritten (source_names (command_in words) l) (reads_as (NotBuilt place) t.0) (writes_so (NotBuilt place) t.0)
  counts_of NoMemory t = tt

  -- the files hold what the answer says
  files_as : (told : Told) (result : Status) (new_told : Option Told)
      → ((after : Told) → FilesWritten (shown_of_command p.left told.files (command_in words)).saves result told after → after.files ≡ with_saves told.files (shown_of_command p.left told.files (command_in words)).saves)
      → IsSomeAnd new_told (λ after. Touches (command_in words) l (shown_of_command p.left told.files (command_in words)).saves result told after)
      → IsSomeAnd new_told (λ after. after.files ≡ (answer p.left words told.files).files)
  files_as told result None f h = h
  files_as told result (Some after) f h = f after h.written

  -- a status that was shown and told is the answer's, with its bytes and files
  answers_as : (result : Status) → told_so result → ((shown : Shown) → Meets shown result old.out new.out → (result ≡ shown.status) × Adds old.out new.out shown.out)
      → ((all : Named) → IsNamed result l all → l ≡ all) → result ≡ performed → Adds old.err new.err (err_of (command_in words) l result)
      → ((shown : Shown) (before after : Told) → result ≡ shown.status → Silent shown → FilesWritten shown.saves result before after → after.files ≡ with_saves before.files shown.saves)
      → IfSome old.told (λ told. IsAnswer (answer p.left words told.files) result old new)
  answers_as result t shows lists is err holds =
      map_three old.told
      (λ told meets touch named.
      let shown = shown_of_command p.left told.files (command_in words) in
      let all = what_is_named told.files (command_in words) in
      let m = shows shown (subst (λ s. Meets shown s old.out new.out) (sym is) meets) in
      let same = lists all (subst (λ s. IsNamed s l all) (sym is) named) in
      record {
        status = m.0;
        out = m.1;
        err = subst (λ s. Adds old.err new.err (err_of (command_in words) all s)) m.0 (subst (λ k. Adds old.err new.err (err_of (command_in words) k result)) same err);
        files = files_as told result new.told (λ after w. holds shown told after m.0 (command_silent p.left told.files (command_in words)) w) touch;
      })
      p.meets (touches_as result t) p.listed
    where
      map_three : {P Q R S : Told → Type 0} (told : Option Told) → ((k : Told) → P k → Q k → R k → S k) → IfSome told P → IfSome told Q → IfSome told R → IfSome told S
      map_three None f h k j = tt
      map_three (Some k) f h i j = f k h i j

  -- a status of which nothing is saved
  silent : (result : Status) → (result ≡ Ended → ⊥) → (shown : Shown) (before after : Told) → result ≡ shown.status → Silent shown → WritesNone before after → after.files ≡ with_saves before.files shown.saves
  silent result other shown before after is quiet w =
      elim quiet [
        | inl none ↦ w.files ∙ ap (with_saves before.files) (sym none)
        | inr ended ↦ absurd (other (is ∙ ended))
      ]

  answers_of : (result : Status) → told_so result → NoneRose old new → ¬ (result ≡ NoMemory) → IfSome old.told (λ told. IsAnswer (answer p.left words told.files) result old new)
  answers_of Ended t none memory = answers_as Ended t (λ shown m. m) (λ all is. is) t.0 t.2 (λ shown before after is quiet w. w.files)
  answers_of (Faulted number place) t none memory =
      answers_as (Faulted number place) t (λ shown m. m) (λ all is. is) t.0 t.2 (λ shown before after is quiet w. silent (Faulted number place) (λ e. cc) shown before after is quiet w)
  answers_of Usage t none memory = answers_as Usage t (λ shown m. m) (λ all is. is) t.0 t.2 (λ shown before after is quiet w. silent Usage (λ e. cc) shown before after is quiet w)
  answers_of Going t none memory = answers_as Going t (λ shown m. m) (λ all is. is) t.0 t.2 (λ shown before after is quiet w. silent Going (λ e. cc) shown before after is quiet w)
  answers_of (ReadFault n) t none memory = let c = cause_of (ReadFault n) t in absurd (none.read_faults c.1)
  answers_of WriteFault t none memory =
      absurd (elim (cause_of WriteFault t) [
        | inl put ↦ none.out_faults put
        | inr other ↦ elim other [ inl told ↦ none.err_faults told | inr written ↦ none.write_faults written ]
      ])
  answers_of (BadList line) t none memory =
      answers_as (BadList line) t (λ shown m. m) (λ all is. is) t.0 t.2 (λ shown before after is quiet w. silent (BadList line) (λ e. cc) shown before after is quiet w)
  answers_of (TooLong n) t none memory =
      answers_as (TooLong n) t (λ shown m. m) (λ all is. is) t.0 t.2 (λ shown before after is quiet w. silent (TooLong n) (λ e. cc) shown before after is quiet w)
  answers_of (BadBook sheet fault) t none memory =
      answers_as (BadBook sheet fault) t (λ shown m. m) (λ all is. is) t.0 t.2 (λ shown before after is quiet w. silent (BadBook sheet fault) (λ e. cc) shown before after is quiet w)
  answers_of (Refused refusal) t none memory =
      answers_as (Refused refusal) t (λ shown m. m) (λ all is. is) t.0 t.2 (λ shown before after is quiet w. silent (Refused refusal) (λ e. cc) shown before after is quiet w)
  answers_of (Stopped why place) t none memory =
      answers_as (Stopped why place) t (λ shown m. m) (λ all is. is) t.0 t.2 (λ shown before after is quiet w. silent (Stopped why place) (λ e. cc) shown before after is quiet w)
  answers_of (NotBuilt place) t none memory =
      answers_as (NotBuilt place) t (λ shown m. m) (λ all is. is) t.0 t.2 (λ shown before after is quiet w. silent (NotBuilt place) (λ e. cc) shown before after is quiet w)
  answers_of NoMemory t none memory = absurd (memory refl)

  pub promised : (result : Status) → told_so result → Commands words result old new
  promised result t = record {
    left = p.left;
    named = l;
    alone = p.alone;
    listed = named_so result t;
    answers = answers_of result t;
    has_status = map_told old.told (λ told m. unless_of result (answer p.left words told.files).status (meets_status (shown_of_command p.left told.files (command_in words)) performed old.out new.out m) t) p.meets;
    part = part;
    usage = λ none. usage_of result (p.usage none) t;
    cause = cause_of result t;
    noticed = noticed_of result t;
    quiet = quiet_of result t;
    says = says_of result t;
    writes = counts_of result t;
    touches = touches_as result t;
  }

-- a world of which nothing is said of `err`
abbrev bare : World → World
bare w = record { told = w.told; counts = w.counts; out = w.out; out_faults = w.out_faults; err = None; err_faults = 0 }

leaves_bare : (status : Status) (old new : World) → Leaves status (bare old) (bare new) → Leaves status old new
leaves_bare Ended old new h = record { out_faults = h.out_faults; write_faults = h.write_faults }
leaves_bare (Faulted number place) old new h = record { out_faults = h.out_faults; write_faults = h.write_faults }
leaves_bare Usage old new h = let u = h.unspoilt in record { unspoilt = record { out_faults = u.out_faults; write_faults = u.write_faults }; out = h.out }
leaves_bare Going old new h = record { out_faults = h.out_faults; write_faults = h.write_faults }
leaves_bare (ReadFault number) old new h = let u = h.unspoilt in record { unspoilt = record { out_faults = u.out_faults; write_faults = u.write_faults }; out = h.out }
leaves_bare WriteFault old new h = h
leaves_bare (BadList line) old new h = let u = h.unspoilt in record { unspoilt = record { out_faults = u.out_faults; write_faults = u.write_faults }; out = h.out }
leaves_bare (TooLong number) old new h = let u = h.unspoilt in record { unspoilt = record { out_faults = u.out_faults; write_faults = u.write_faults }; out = h.out }
leaves_bare (BadBook sheet fault) old new h = let u = h.unspoilt in record { unspoilt = record { out_faults = u.out_faults; write_faults = u.write_faults }; out = h.out }
leaves_bare (Refused refusal) old new h = let u = h.unspoilt in record { unspoilt = record { out_faults = u.out_faults; write_faults = u.write_faults }; out = h.out }
leaves_bare (Stopped why place) old new h = record { out_faults = h.out_faults; write_faults = h.write_faults }
leaves_bare (NotBuilt place) old new h = let u = h.unspoilt in record { unspoilt = record { out_faults = u.out_faults; write_faults = u.write_faults }; out = h.out }
leaves_bare NoMemory old new h = record { out_faults = h.out_faults; write_faults = h.write_faults }

-- performing says nothing of `err`
with_err : (command : Option Command) (l : Named) (performed : Status) (old new : World) → Performs command l performed (bare old) (bare new) → Performs command l performed old new
with_err command l performed old new p = record {
  left = p.left;
  leaves = leaves_bare performed old new p.leaves;
  meets = p.meets;
  alone = p.alone;
  listed = p.listed;
  mid = p.mid;
  read = p.read;
  written = p.written;
  usage = p.usage;
}

-- the command, or none, was performed and told
pub commanded : (words : List (List ℕ)) (command : Option Command) (l : Named) (performed result : Status) (old new : World)
    → command ≡ command_in words → Performs command l performed (bare old) (bare new)
    → Tells command l performed result old.err new.err old.err_faults new.err_faults → Commands words result old new
commanded words command l performed result old new named p t =
    promised words l performed old new (subst (λ c. Performs c l performed old new) named (with_err command l performed old new p)) result
    (subst (λ c. Tells c l performed result old.err new.err old.err_faults new.err_faults) named t)

-- no command, or none of which a list was read
none_listed : (command : Option Command) → IsAlone command nothing_named
none_listed None = refl
none_listed (Some command) = λ bas. refl

-- memory ran out before the command was known: nothing was read and nothing put on `out`
pub wanted : (words : List (List ℕ)) (result : Status) (old : World) (new_err : Option (List ℕ)) (new_faults : ℕ)
    → ((command : Option Command) → Tells command nothing_named NoMemory result old.err new_err old.err_faults new_faults)
    → Commands words result old (record { told = old.told; counts = old.counts; out = old.out; out_faults = old.out_faults; err = new_err; err_faults = new_faults })
wanted words result old new_err new_faults t =
    promised words nothing_named NoMemory old (record { told = old.told; counts = old.counts; out = old.out; out_faults = old.out_faults; err = new_err; err_faults = new_faults })
    (record {
      left = None;
      leaves = record { out_faults = refl; write_faults = refl };
      meets = map_any old.told (λ told. none_prefix old.out old.out (shown_of_command None told.files (command_in words)).out refl);
      alone = none_listed (command_in words);
      listed = map_any old.told (λ told. inl refl);
      mid = files_in old;
      read = wants_none (names_of (command_in words) nothing_named) 0 0 (files_in old);
      written = inl refl;
      usage = λ none. tt;
    })
    result (t (command_in words))

-- words that name no command
pub no_command : (old : World) → Performs None nothing_named Usage old old
no_command old = record {
  left = None;
  leaves = record { unspoilt = record { out_faults = refl; write_faults = refl }; out = refl };
  meets = map_any old.told (λ told. (refl, adds_none old.out));
  alone = refl;
  listed = map_any old.told (λ told. refl);
  mid = files_in old;
  read = (refl, refl);
  written = refl;
  usage = λ none. refl;
}
