-- What reading and writing the files of a command does to what its steps promise.
use Rattle.std.proofs.Common.{◌≡◌, ◌∙◌, ℕ, List, [], refl, sym, ap, subst, arith, inl, inr}
use Rattle.std.specs.Prelude.{Bool, Result, Ok, Err, Option, Some, None, IfSome}
use Rattle.std.proofs.lemmas.List.{append-nil}
use Rattle.vba_base.specs.Causes.{Rose, Adds}
use Rattle.vba_base.proofs.Causes.{adds_none, adds_prefix_none, adds_prefix_whole}
use Rattle.vba_base.specs.Map.{FileMap}
use Rattle.vba_base.specs.Outside.{Told}
use Rattle.vba_base.specs.declared.outside.WriteAnswer.TheVariants as write
use Rattle.vba_base.specs.declared.place.Place.{Place}
use Rattle.vba_base.specs.declared.place.Refusal.{Refusal}
use Rattle.sheet_host.specs.Books.{Sheets}
use Rattle.bound_project.specs.Project.{Project}
use Rattle.bound_forms.specs.Bind as bind
use Rattle.project_run.specs.declared.outcome.Outcome.{Outcome}
use Rattle.project_run.specs.declared.outcome.Outcome.TheVariants as outcome
use Rattle.command_words.specs.Words.{Command, run}
use Rattle.list_file.specs.declared.files.ReadStop.{ReadStop}
use Rattle.list_file.specs.declared.files.ReadStop.TheVariants as read
use Rattle.list_file.specs.Files.{FilesAt, FilesTold, ReadInOrder}
use Rattle.list_file.specs.Lists.{SheetAt}
use Rattle.list_file.proofs.FilesRead.{none_told, wanted}
use Rattle.book_files.specs.declared.stop.BookStop.{BookStop}
use Rattle.book_files.specs.declared.stop.BookStop.TheVariants as stop
use Rattle.book_files.specs.Book.{ReadsAll, ReadsBook, book_of, sheet_paths}
use Rattle.book_files.specs.Saves.{Save, Written}
use Rattle.book_files.proofs.BooksSaved.{none_written}
use Rattle.vba_cli.specs.declared.status.Status.{Status}
use Rattle.vba_cli.specs.declared.status.Status.TheVariants.{Ended, Faulted, Usage, Refused, Stopped, Going, ReadFault, WriteFault, BadList, TooLong, BadBook, NotBuilt, NoMemory}
use Rattle.vba_cli.specs.Answer.{Shown, no_book, refused, shown_of_book, shown_of_program, saved_by, shown_of_source, shows_of, status_of}
use Rattle.vba_cli.specs.Contract.{World, book_paths}
use Rattle.vba_cli.specs.Programs.{IsRefused}
use Rattle.vba_cli.specs.Steps.{Does, EndsSaved, IsOfRun, Leaves, LeavesOut, Meets, RanAlone, RanOver, RanProject, RanSources, ReadsTo, Stores, WritesFor, files_in, with_files}
use Rattle.vba_cli.proofs.Shown.{shown_bound, shown_left, shown_refused}

-- ---- files that were read

-- nothing was read
pub reads_none : (number taken : ℕ) (at : FilesAt) → ReadsAll [] number taken at at
reads_none number taken at = record {
  files = [];
  read = record { count = 0; is_count = refl; counted = (refl, refl, refl); told = none_told number taken at.told; writes = refl; write_faults = refl };
}

want_told : (names : List (List ℕ)) (number taken : ℕ) (told : Option Told) → FilesTold names number taken (Err read.NoMemory) 0 told told
want_told names number taken None = refl
want_told names number taken (Some told) = (ap (λ ns. Some (record told { names_read = ns })) (sym (append-nil told.names_read)), tt)

-- memory ran out before anything was read
pub wants_none : (names : List (List ℕ)) (number taken : ℕ) (at : FilesAt) → ReadInOrder names number taken (Err read.NoMemory) at at
wants_none names number taken at = record { count = 0; is_count = omega arith; counted = refl; told = want_told names number taken at.told; writes = refl; write_faults = refl }

-- what is told behind files that were read was told before, as far as it speaks of the map
pub told_back : (P : FileMap → Type 0) (names : List (List ℕ)) (number taken count : ℕ) (r : Result (List (List ℕ)) ReadStop) (old new : Option Told) → FilesTold names number taken r count old new
    → IfSome new (λ (t : Told). P t.files) → IfSome old (λ (t : Told). P t.files)
told_back P names number taken count r None new p h = tt
told_back P names number taken count r (Some told) new p h = subst (λ m. IfSome m (λ (t : Told). P t.files)) p.0 h

pub map_told : {P Q : Told → Type 0} (told : Option Told) → ((t : Told) → P t → Q t) → IfSome told P → IfSome told Q
map_told None f h = tt
map_told (Some t) f h = f t h

pub map_any : {P : Told → Type 0} (told : Option Told) → ((t : Told) → P t) → IfSome told P
map_any None f = tt
map_any (Some t) f = f t

pub map_both : {P Q R : Told → Type 0} (told : Option Told) → ((t : Told) → P t → Q t → R t) → IfSome told P → IfSome told Q → IfSome told R
map_both None f h k = tt
map_both (Some t) f h k = f t h k

-- ---- statuses and what they leave

-- a world with files of which no write failed leaves the same
pub leaves_before : (result : Status) (old : World) (mid : FilesAt) (new : World) → mid.counts.write_faults ≡ old.counts.write_faults → Leaves result (with_files old mid) new → Leaves result old new
leaves_before Ended old mid new same l = record { out_faults = l.out_faults; write_faults = l.write_faults ∙ same }
leaves_before (Faulted number place) old mid new same l = record { out_faults = l.out_faults; write_faults = l.write_faults ∙ same }
leaves_before Usage old mid new same l = let u = l.unspoilt in record { unspoilt = record { out_faults = u.out_faults; write_faults = u.write_faults ∙ same }; out = l.out }
leaves_before (Refused refusal) old mid new same l = let u = l.unspoilt in record { unspoilt = record { out_faults = u.out_faults; write_faults = u.write_faults ∙ same }; out = l.out }
leaves_before (Stopped why place) old mid new same l = record { out_faults = l.out_faults; write_faults = l.write_faults ∙ same }
leaves_before Going old mid new same l = record { out_faults = l.out_faults; write_faults = l.write_faults ∙ same }
leaves_before (ReadFault number) old mid new same l = let u = l.unspoilt in record { unspoilt = record { out_faults = u.out_faults; write_faults = u.write_faults ∙ same }; out = l.out }
leaves_before WriteFault old mid new same l = elim l [ inl put ↦ inl put | inr written ↦ inr (subst (λ k. Rose k new.counts.write_faults) same written) ]
leaves_before (BadList line) old mid new same l = let u = l.unspoilt in record { unspoilt = record { out_faults = u.out_faults; write_faults = u.write_faults ∙ same }; out = l.out }
leaves_before (TooLong number) old mid new same l = let u = l.unspoilt in record { unspoilt = record { out_faults = u.out_faults; write_faults = u.write_faults ∙ same }; out = l.out }
leaves_before (BadBook sheet fault) old mid new same l = let u = l.unspoilt in record { unspoilt = record { out_faults = u.out_faults; write_faults = u.write_faults ∙ same }; out = l.out }
leaves_before (NotBuilt place) old mid new same l = let u = l.unspoilt in record { unspoilt = record { out_faults = u.out_faults; write_faults = u.write_faults ∙ same }; out = l.out }
leaves_before NoMemory old mid new same l = record { out_faults = l.out_faults; write_faults = l.write_faults ∙ same }

-- what was stored by what is meant otherwise
stores_as : (meant other : Told → List Save) (told told_other : Option Told) (outcome : Written) (old new : FilesAt)
    → ((saves : List Save) → IfSome told (λ t. saves ≡ meant t) → IfSome told_other (λ t. saves ≡ other t)) → Stores meant told outcome old new → Stores other told_other outcome old new
stores_as meant other told told_other outcome old new f s = record { saves = s.saves; are_meant = f s.saves s.are_meant; written = s.written }

pub writes_as : (result : Status) (meant other : Told → List Save) (told told_other : Option Told) (old new : FilesAt)
    → ((saves : List Save) → IfSome told (λ t. saves ≡ meant t) → IfSome told_other (λ t. saves ≡ other t)) → WritesFor result meant told old new → WritesFor result other told_other old new
writes_as Ended meant other told told_other old new f w = stores_as meant other told told_other (Ok tt) old new f w
writes_as (Faulted number place) meant other told told_other old new f w = w
writes_as Usage meant other told told_other old new f w = w
writes_as (Refused refusal) meant other told told_other old new f w = w
writes_as (Stopped why place) meant other told told_other old new f w = w
writes_as Going meant other told told_other old new f w = w
writes_as (ReadFault number) meant other told told_other old new f w = w
writes_as WriteFault meant other told told_other old new f w =
    elim w [ inl none ↦ inl none | inr some ↦ inr (stores_as meant other told told_other (Err write.Failed) old new f some) ]
writes_as (BadList line) meant other told told_other old new f w = w
writes_as (TooLong number) meant other told told_other old new f w = w
writes_as (BadBook sheet fault) meant other told told_other old new f w = w
writes_as (NotBuilt place) meant other told told_other old new f w = w
writes_as NoMemory meant other told told_other old new f w =
    elim w [ inl none ↦ inl none | inr some ↦ inr (stores_as meant other told told_other (Err write.NoMemory) old new f some) ]

-- ---- running behind the reading of sources

-- what is to be shown, told otherwise
does_as : (meant other : Told → Shown) (names : List (List ℕ)) (number taken : ℕ) (result : Status) (old new : World) → ((told : Told) → meant told ≡ other told)
    → Does meant names number taken result old new → Does other names number taken result old new
does_as meant other names number taken result old new same d = record {
  leaves = d.leaves;
  meets = map_told old.told (λ told m. subst (λ s. Meets s result old.out new.out) (same told) m) d.meets;
  mid = d.mid;
  read = d.read;
  written =
      writes_as result (λ told. (meant told).saves) (λ told. (other told).saves) old.told old.told d.mid (files_in new)
      (λ saves h. map_told old.told (λ told is. is ∙ ap (λ (s : Shown). s.saves) (same told)) h) d.written;
}

-- nothing was done, and memory ran out
pub does_wanting : (meant : Told → Shown) (names : List (List ℕ)) (number taken : ℕ) (old : World) → Does meant names number taken NoMemory old old
does_wanting meant names number taken old = record {
  leaves = record { out_faults = refl; write_faults = refl };
  meets = map_any old.told (λ told. adds_prefix_none old.out (meant told).out);
  mid = files_in old;
  read = wants_none names number taken (files_in old);
  written = inl refl;
}

-- a program breaks a rule, and nothing was done
does_refused : (meant : Told → Shown) (names : List (List ℕ)) (number taken : ℕ) (refusal : Refusal) (old : World) → ((told : Told) → refused (Refused refusal) ≡ meant told)
    → Does meant names number taken (Refused refusal) old old
does_refused meant names number taken refusal old is = record {
  leaves = record { unspoilt = record { out_faults = refl; write_faults = refl }; out = refl };
  meets = map_any old.told (λ told. subst (λ s. Meets s (Refused refusal) old.out old.out) (is told) (refl, adds_none old.out));
  mid = files_in old;
  read = reads_none number taken (files_in old);
  written = refl;
}

-- or it has a part that isn't built
does_left : (meant : Told → Shown) (names : List (List ℕ)) (number taken : ℕ) (place : Place) (old : World) → ((told : Told) → refused (NotBuilt place) ≡ meant told)
    → Does meant names number taken (NotBuilt place) old old
does_left meant names number taken place old is = record {
  leaves = record { unspoilt = record { out_faults = refl; write_faults = refl }; out = refl };
  meets = map_any old.told (λ told. subst (λ s. Meets s (NotBuilt place) old.out old.out) (is told) (refl, adds_none old.out));
  mid = files_in old;
  read = reads_none number taken (files_in old);
  written = refl;
}

-- ---- a project over its sheets

reads_run : (result : Status) (names : List (List ℕ)) (number taken : ℕ) (old new : FilesAt) → IsOfRun result → ReadsAll names number taken old new → ReadsTo result names number taken old new
reads_run Ended names number taken old new is r = r
reads_run (Faulted n place) names number taken old new is r = r
reads_run Usage names number taken old new is r = absurd is
reads_run (Refused refusal) names number taken old new is r = absurd is
reads_run (Stopped why place) names number taken old new is r = r
reads_run Going names number taken old new is r = r
reads_run (ReadFault n) names number taken old new is r = absurd is
reads_run WriteFault names number taken old new is r = r
reads_run (BadList line) names number taken old new is r = absurd is
reads_run (TooLong n) names number taken old new is r = absurd is
reads_run (BadBook sheet fault) names number taken old new is r = absurd is
reads_run (NotBuilt place) names number taken old new is r = absurd is
reads_run NoMemory names number taken old new is r = wanted names number taken r.files old new r.read

-- what comes of reading the sheets shows this
module _ (f : Result Sheets BookStop → Shown) (sheets : List SheetAt) (number taken : ℕ) where
  abbrev shown_over : Told → Shown
  shown_over told = f (book_of told.files number taken sheets)

  -- the sheets were read, and a project ran over them
  pub ran_over : (book : Sheets) (shown : Shown) (result : Status) (old : World) (mid : FilesAt) (new : World) → f (Ok book) ≡ shown → ReadsBook sheets number taken (Ok book) (files_in old) mid
      → RanOver shown result (with_files old mid) new → Does shown_over (sheet_paths sheets) number taken result old new
  ran_over book shown result old mid new shows r ran =
      let all = r.read in
      let told = all.read in
      record {
        leaves = leaves_before result old mid new told.write_faults ran.leaves;
        meets = map_told old.told (λ t is. subst (λ s. Meets s result old.out new.out) (sym (ap f is ∙ shows)) ran.meets) r.meant;
        mid = mid;
        read = reads_run result (sheet_paths sheets) number taken (files_in old) mid ran.of_run all;
        written =
            writes_as result (λ t. shown.saves) (λ t. (shown_over t).saves) mid.told old.told mid (files_in new)
            (λ saves h.
            map_both old.told (λ t is same. same ∙ sym (ap (λ (s : Shown). s.saves) (ap f is ∙ shows))) r.meant
            (told_back (λ m. saves ≡ shown.saves) (sheet_paths sheets) number taken told.count (Ok all.files) old.told mid.told told.told h))
            ran.written;
      }

  -- one of the sheets can't be read, or is none
  pub ran_no_book : ((reason : BookStop) → f (Err reason) ≡ refused (no_book reason)) → (reason : BookStop) (old : World) (mid : FilesAt) → ReadsBook sheets number taken (Err reason) (files_in old) mid
      → Does shown_over (sheet_paths sheets) number taken (no_book reason) old (with_files old mid)
  ran_no_book shows (stop.Unread (read.Failed n)) old mid r =
      let told = r.read in
      record {
        leaves = record { unspoilt = record { out_faults = refl; write_faults = told.write_faults }; out = refl };
        meets = map_any old.told (λ t. refl);
        mid = mid;
        read = r.read;
        written = refl;
      }
  ran_no_book shows (stop.Unread (read.TooLong n)) old mid r =
      let told = r.read in
      let reason = stop.Unread (read.TooLong n) in
      record {
        leaves = record { unspoilt = record { out_faults = refl; write_faults = told.write_faults }; out = refl };
        meets = map_told old.told (λ t is. subst (λ s. Meets s (TooLong n) old.out old.out) (sym (ap f is ∙ shows reason)) (refl, adds_none old.out)) r.meant;
        mid = mid;
        read = r.read;
        written = refl;
      }
  ran_no_book shows (stop.Unread read.NoMemory) old mid r =
      let told = r.read in
      record {
        leaves = record { out_faults = refl; write_faults = told.write_faults };
        meets = map_any old.told (λ t. adds_prefix_none old.out (shown_over t).out);
        mid = mid;
        read = r.read;
        written = inl refl;
      }
  ran_no_book shows (stop.BadSheet sheet fault) old mid r =
      let all = r.read in
      let some = all.2 in
      let told = some.read in
      let reason = stop.BadSheet sheet fault in
      record {
        leaves = record { unspoilt = record { out_faults = refl; write_faults = told.write_faults }; out = refl };
        meets = map_told old.told (λ t is. subst (λ s. Meets s (BadBook sheet fault) old.out old.out) (sym (ap f is ∙ shows reason)) (refl, adds_none old.out)) r.meant;
        mid = mid;
        read = r.read;
        written = refl;
      }

-- a run that came to its end as is meant, and saved its sheets
pub ran_saved : (save : Option (List ℕ)) (sheets : List SheetAt) (o : Outcome) (left meant_left : Sheets) (text : List ℕ) (result : Status) (old new : World) → outcome.Ended ≡ o → left ≡ meant_left
    → Adds old.out new.out text → new.out_faults ≡ old.out_faults → EndsSaved (saved_by save outcome.Ended sheets left) result (files_in old) (files_in new)
    → RanOver (record { status = status_of o; out = text; saves = saved_by save o sheets meant_left }) result old new
ran_saved save sheets o left meant_left text Ended old new ends is added faults w = record {
  of_run = tt;
  leaves = record { out_faults = faults; write_faults = let c = w.counted in c.1 };
  meets = (ap status_of ends, added);
  written = record {
    saves = saved_by save outcome.Ended sheets left;
    are_meant = map_any old.told (λ t. ap (λ k. saved_by save k sheets left) ends ∙ ap (λ b. saved_by save o sheets b) is);
    written = w;
  };
}
ran_saved save sheets o left meant_left text WriteFault old new ends is added faults w = record {
  of_run = tt;
  leaves = inr (let c = w.counted in c.1);
  meets = adds_prefix_whole old.out new.out text added;
  written = inr (record {
    saves = saved_by save outcome.Ended sheets left;
    are_meant = map_any old.told (λ t. ap (λ k. saved_by save k sheets left) ends ∙ ap (λ b. saved_by save o sheets b) is);
    written = w;
  });
}
ran_saved save sheets o left meant_left text NoMemory old new ends is added faults w = record {
  of_run = tt;
  leaves = record { out_faults = faults; write_faults = w.counted };
  meets = adds_prefix_whole old.out new.out text added;
  written = inr (record {
    saves = saved_by save outcome.Ended sheets left;
    are_meant = map_any old.told (λ t. ap (λ k. saved_by save k sheets left) ends ∙ ap (λ b. saved_by save o sheets b) is);
    written = w;
  });
}
ran_saved save sheets o left meant_left text (Faulted n place) old new ends is added faults w = absurd w
ran_saved save sheets o left meant_left text Usage old new ends is added faults w = absurd w
ran_saved save sheets o left meant_left text (Refused refusal) old new ends is added faults w = absurd w
ran_saved save sheets o left meant_left text (Stopped why place) old new ends is added faults w = absurd w
ran_saved save sheets o left meant_left text Going old new ends is added faults w = absurd w
ran_saved save sheets o left meant_left text (ReadFault n) old new ends is added faults w = absurd w
ran_saved save sheets o left meant_left text (BadList line) old new ends is added faults w = absurd w
ran_saved save sheets o left meant_left text (TooLong n) old new ends is added faults w = absurd w
ran_saved save sheets o left meant_left text (BadBook sheet fault) old new ends is added faults w = absurd w
ran_saved save sheets o left meant_left text (NotBuilt place) old new ends is added faults w = absurd w

-- ---- sources

module _ (shown : Told → Project → Shown) (answer : bind.Answer) (names : List (List ℕ)) (number taken : ℕ) where
  bound_does : (pr : Project) (result : Status) (old new : World) → answer ≡ bind.bound_as pr → Does (λ told. shown told pr) names number taken result old new
      → Does (λ told. shown_of_program (shown told) answer) names number taken result old new
  bound_does pr result old new is d =
      does_as (λ told. shown told pr) (λ told. shown_of_program (shown told) answer) names number taken result old new (λ told. sym (shown_bound (shown told) answer pr is)) d

  left_does : (place : Place) (old : World) → answer ≡ bind.not_built_at place → Does (λ told. shown_of_program (shown told) answer) names number taken (NotBuilt place) old old
  left_does place old is =
      does_left (λ told. shown_of_program (shown told) answer) names number taken place old (λ told. sym (shown_left (shown told) answer place is))

  refused_does : (refusal : Refusal) (old : World) → answer ≡ bind.refused refusal → Does (λ told. shown_of_program (shown told) answer) names number taken (Refused refusal) old old
  refused_does refusal old is =
      does_refused (λ told. shown_of_program (shown told) answer) names number taken refusal old (λ told. sym (shown_refused (shown told) answer refusal is))

module _ (path : List ℕ) (turns : ℕ) (trace : Bool) (save : Option (List ℕ)) (sheets : List SheetAt) (number taken : ℕ) (answer : (left : Option Place) → bind.Answer) where
  abbrev shown_by : Told → Project → Shown
  shown_by told pr = shown_of_book turns (shows_of trace) save sheets (book_of told.files number taken sheets) pr

  -- a project that the sources are was run
  pub sources_ran : (pr : Project) (result : Status) (old new : World) → answer None ≡ bind.bound_as pr → RanProject turns (shows_of trace) save sheets number taken pr result old new
      → RanSources (run path turns trace save) sheets number taken answer result old new
  sources_ran pr result old new is d = record {
    left = None;
    does = bound_does shown_by (answer None) (sheet_paths sheets) number taken pr result old new is d;
  }

  pub sources_left : (place : Place) (old : World) → answer (Some place) ≡ bind.not_built_at place → RanSources (run path turns trace save) sheets number taken answer (NotBuilt place) old old
  sources_left place old is = record {
    left = Some place;
    does = left_does shown_by (answer (Some place)) (sheet_paths sheets) number taken place old is;
  }

  pub sources_refused : (refusal : Refusal) (old : World) → IsRefused answer refusal → RanSources (run path turns trace save) sheets number taken answer (Refused refusal) old old
  sources_refused refusal old h = record {
    left = h.told;
    does = refused_does shown_by (answer h.told) (sheet_paths sheets) number taken refusal old h.is;
  }

  pub sources_wanting : (old : World) → RanSources (run path turns trace save) sheets number taken answer NoMemory old old
  sources_wanting old = record {
    left = None;
    does = does_wanting (λ told. shown_of_program (shown_by told) (answer None)) (sheet_paths sheets) number taken old;
  }

-- a world whose `out` changed
abbrev pub put_on : World → Option (List ℕ) → ℕ → World
put_on w out out_faults = record w { out = out; out_faults = out_faults }

module _ (command : Command) (sheets : List SheetAt) (number taken : ℕ) (answer : (left : Option Place) → bind.Answer) (old : World) (out : Option (List ℕ)) (out_faults : ℕ) where
  abbrev meant_alone : Option Place → Told → Shown
  meant_alone left told = shown_of_source command sheets (book_of told.files number taken sheets) (answer left)

  none_stored : (left : Option Place) (shown : Shown) → ((book : Result Sheets BookStop) → shown_of_source command sheets book (answer left) ≡ shown) → shown.saves ≡ []
      → Stores (λ told. (meant_alone left told).saves) old.told (Ok tt) (files_in old) (files_in old)
  none_stored left shown is none = record {
    saves = [];
    are_meant = map_any old.told (λ told. sym (ap (λ (s : Shown). s.saves) (is (book_of told.files number taken sheets)) ∙ none));
    written = none_written tt (files_in old);
  }

  alone_by : (result : Status) (left : Option Place) (shown : Shown) → ((book : Result Sheets BookStop) → shown_of_source command sheets book (answer left) ≡ shown) → shown.saves ≡ []
      → book_paths command sheets ≡ [] → LeavesOut result old.out out old.out_faults out_faults → Meets shown result old.out out
      → Does (meant_alone left) (book_paths command sheets) number taken result old (put_on old out out_faults)
  alone_by Ended left shown is none names l m = record {
    leaves = record { out_faults = l; write_faults = refl };
    meets = map_any old.told (λ told. subst (λ s. Meets s Ended old.out out) (sym (is (book_of told.files number taken sheets))) m);
    mid = files_in old;
    read = subst (λ ns. ReadsAll ns number taken (files_in old) (files_in old)) (sym names) (reads_none number taken (files_in old));
    written = none_stored left shown is none;
  }
  alone_by WriteFault left shown is none names l m = record {
    leaves = inl l;
    meets = map_any old.told (λ told. subst (λ s. Meets s WriteFault old.out out) (sym (is (book_of told.files number taken sheets))) m);
    mid = files_in old;
    read = subst (λ ns. ReadsAll ns number taken (files_in old) (files_in old)) (sym names) (reads_none number taken (files_in old));
    written = inl refl;
  }
  alone_by NoMemory left shown is none names l m = record {
    leaves = record { out_faults = l; write_faults = refl };
    meets = map_any old.told (λ told. subst (λ s. Meets s NoMemory old.out out) (sym (is (book_of told.files number taken sheets))) m);
    mid = files_in old;
    read = wants_none (book_paths command sheets) number taken (files_in old);
    written = inl refl;
  }
  alone_by (Refused refusal) left shown is none names l m = record {
    leaves = record { unspoilt = record { out_faults = l.0; write_faults = refl }; out = l.1 };
    meets = map_any old.told (λ told. subst (λ s. Meets s (Refused refusal) old.out out) (sym (is (book_of told.files number taken sheets))) m);
    mid = files_in old;
    read = reads_none number taken (files_in old);
    written = refl;
  }
  alone_by (NotBuilt place) left shown is none names l m = record {
    leaves = record { unspoilt = record { out_faults = l.0; write_faults = refl }; out = l.1 };
    meets = map_any old.told (λ told. subst (λ s. Meets s (NotBuilt place) old.out out) (sym (is (book_of told.files number taken sheets))) m);
    mid = files_in old;
    read = reads_none number taken (files_in old);
    written = refl;
  }
  alone_by (Faulted n place) left shown is none names l m = absurd l
  alone_by Usage left shown is none names l m = absurd l
  alone_by (Stopped why place) left shown is none names l m = absurd l
  alone_by Going left shown is none names l m = absurd l
  alone_by (ReadFault n) left shown is none names l m = absurd l
  alone_by (BadList line) left shown is none names l m = absurd l
  alone_by (TooLong n) left shown is none names l m = absurd l
  alone_by (BadBook sheet fault) left shown is none names l m = absurd l

  -- a command that touches no file
  pub sources_alone : (result : Status) → RanAlone command answer result old.out out old.out_faults out_faults → RanSources command sheets number taken answer result old (put_on old out out_faults)
  sources_alone result a = record {
    left = a.left;
    does = let r = a.ran in alone_by result a.left a.shown (λ book. a.is_shown sheets book) a.saves (a.none_read sheets) r.leaves r.meets;
  }
