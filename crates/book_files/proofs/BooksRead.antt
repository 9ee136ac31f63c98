-- Sheets that are read one after another.
use Rattle.std.proofs.Common.{◌≡◌, ◌∙◌, ℕ, suc, ◌+◌, ◌≤◌, true, false, List, [], ◌∷◌, ◌++◌, length, take, map, refl, sym, ap, subst, append_assoc, arith, length-append}
use Rattle.std.specs.Prelude.{Result, Ok, Err, Option, Some, None, IfSome, bytes_eq, cond}
use Rattle.std.specs.List.{position_from}
use Rattle.std.specs.Result.{IsErrAnd}
use Rattle.std.proofs.lemmas.Iterator.Adapters.{position_from-zero}
use Rattle.std.proofs.lemmas.Bool.{or_parts}
use Rattle.std.proofs.lemmas.List.{append-nil, map-append, length-map}
use Rattle.std.proofs.lemmas.Slice.Eq.{bytes_eq-Decides}
use Rattle.std.proofs.Math.Seq.{take-append-add}
use Rattle.vba_base.specs.Answer.{◌>>=◌}
use Rattle.vba_base.specs.Fold.{folded}
use Rattle.vba_base.specs.Map.{FileMap, bytes_of}
use Rattle.vba_base.specs.Outside.{Told}
use Rattle.sheet_host.specs.Books.{NamedSheet, Sheets, IsNewName}
use Rattle.sheet_host.specs.Sheets.{SheetContent}
use Rattle.csv_book.specs.declared.fault.BookFault.{BookFault}
use Rattle.csv_book.specs.Reading.{sheet_of}
use Rattle.list_file.specs.declared.files.ReadStop.{ReadStop}
use Rattle.list_file.specs.declared.files.ReadStop.TheVariants as read
use Rattle.list_file.specs.Files.{FilesAt, FilesTold, ReadInOrder, call_limit, file_of, followed_by, onto, room, total}
use Rattle.list_file.specs.Lists.{SheetAt, HaveNewNames, is_listed}
use Rattle.list_file.proofs.FilesRead.{joined, none_told, stopped, total-append, wanted}
use Rattle.book_files.specs.declared.stop.BookStop.{BookStop}
use Rattle.book_files.specs.declared.stop.BookStop.TheVariants as stop
use Rattle.book_files.specs.Book.{ReadsBook, book_from, book_of, or_bad, or_unread, sheet_paths}
use Rattle.book_files.specs.One.{ReadsBytes, ReadsOne}

-- ---- names

-- a text is the same as another where that is the same as it
same_both_ways : (a b : List ℕ) → bytes_eq a b ≡ false → bytes_eq b a ≡ false
same_both_ways a b differ =
    elim (bytes_eq b a) as (λ t. bytes_eq b a ≡ t → t ≡ false) [
      | false ↦ λ is. refl
      | true ↦ λ is. let e = bytes_eq-Decides b a in let d = bytes_eq-Decides a b in absurd cc (sym differ ∙ d.1 (sym (e.0 is)))
    ] refl

-- the names of sheets, in a book and in a list
abbrev pub book_names : Sheets → List (List ℕ)
book_names book = map (λ (n : NamedSheet). n.name) book

-- sheets of which none has a name that is listed
none_at : (name : List ℕ) (number : ℕ) (book : Sheets) (sheets : List SheetAt) → book_names book ≡ map (λ (s : SheetAt). s.name) sheets → is_listed name sheets ≡ false
    → position_from (λ (n : NamedSheet). bytes_eq (folded n.name) (folded name)) number book ≡ None
none_at name number [] sheets named none = refl
none_at name number (n ∷ book) [] named none = cc
none_at name number (n ∷ book) (s ∷ sheets) named none =
    let first : n.name ≡ s.name = cc in
    let rest : book_names book ≡ map (λ (t : SheetAt). t.name) sheets = cc in
    let parts = or_parts (bytes_eq (folded name) (folded s.name)) (is_listed name sheets) none in
    let differs : bytes_eq (folded n.name) (folded name) ≡ false =
    same_both_ways (folded name) (folded n.name) (ap (λ t. bytes_eq (folded name) (folded t)) first ∙ parts.0) in
    ap (λ b. cond b (Some number) (position_from (λ (k : NamedSheet). bytes_eq (folded k.name) (folded name)) (number + 1) book)) differs
    ∙ none_at name (number + 1) book sheets rest parts.1

pub new_in_book : (name : List ℕ) (book : Sheets) (sheets : List SheetAt) → book_names book ≡ map (λ (s : SheetAt). s.name) sheets → is_listed name sheets ≡ false → IsNewName book name
new_in_book name book sheets named none =
    position_from-zero (λ (n : NamedSheet). bytes_eq (folded n.name) (folded name)) book ∙ none_at name 0 book sheets named none

-- ---- the book that the files mean

-- a book behind sheets that were read before it
abbrev behind : Sheets → Result Sheets BookStop → Result Sheets BookStop
behind book (Ok others) = Ok (book ++ others)
behind book (Err reason) = Err reason

behind_none : (r : Result Sheets BookStop) → behind [] r ≡ r
behind_none (Ok others) = refl
behind_none (Err reason) = refl

behind_more : (book : Sheets) (n : NamedSheet) (r : Result Sheets BookStop) → behind book (r >>= λ others. Ok (n ∷ others)) ≡ behind (book ++ n ∷ []) r
behind_more book n (Ok others) = ap Ok (sym (append_assoc book (n ∷ []) others))
behind_more book n (Err reason) = refl

module _ (files : FileMap) (number sheet taken : ℕ) (s : SheetAt) (others : List SheetAt) where
  -- what comes of the bytes of a file, and of the sheet that they are
  abbrev with_sheet : (bytes : List ℕ) → SheetContent → Result Sheets BookStop
  with_sheet bytes content = book_from files (suc number) (suc sheet) (taken + length bytes) others >>= λ more. Ok (record { name = s.name; content = content } ∷ more)

  abbrev with_file : List ℕ → Result Sheets BookStop
  with_file bytes = or_bad sheet (sheet_of bytes) >>= λ content. with_sheet bytes content

  first_there : (bytes : List ℕ) → file_of number taken (bytes_of files s.path) ≡ Ok bytes → book_from files number sheet taken (s ∷ others) ≡ with_file bytes
  first_there bytes is = ap (λ r. or_unread r >>= λ b. with_file b) is

  pub first_read : (bytes : List ℕ) (content : SheetContent) → file_of number taken (bytes_of files s.path) ≡ Ok bytes → sheet_of bytes ≡ Ok content
      → book_from files number sheet taken (s ∷ others) ≡ with_sheet bytes content
  first_read bytes content is made = first_there bytes is ∙ ap (λ r. or_bad sheet r >>= λ c. with_sheet bytes c) made

  pub first_bad : (bytes : List ℕ) (fault : BookFault) → file_of number taken (bytes_of files s.path) ≡ Ok bytes → sheet_of bytes ≡ Err fault
      → book_from files number sheet taken (s ∷ others) ≡ Err (stop.BadSheet sheet fault)
  first_bad bytes fault is made = first_there bytes is ∙ ap (λ r. or_bad sheet r >>= λ c. with_sheet bytes c) made

  pub first_unread : (reason : ReadStop) → file_of number taken (bytes_of files s.path) ≡ Err reason → book_from files number sheet taken (s ∷ others) ≡ Err (stop.Unread reason)
  first_unread reason is = ap (λ r. or_unread r >>= λ b. with_file b) is

-- ---- what is told of a file

map_told : {P Q : Told → Type 0} (told : Option Told) → ((t : Told) → P t → Q t) → IfSome told P → IfSome told Q
map_told None f h = tt
map_told (Some t) f h = f t h

map_any : {P : Told → Type 0} (told : Option Told) → ((t : Told) → P t) → IfSome told P
map_any None f = tt
map_any (Some t) f = f t

map_both : {P Q R : Told → Type 0} (told : Option Told) → ((t : Told) → P t → Q t → R t) → IfSome told P → IfSome told Q → IfSome told R
map_both None f h k = tt
map_both (Some t) f h k = f t h k

file_there : (bytes : List ℕ) (r : Result (List ℕ) ReadStop) → followed_by r (λ b. Ok []) ≡ Ok (bytes ∷ []) → r ≡ Ok bytes
file_there bytes (Ok other) is = cc
file_there bytes (Err reason) is = cc

file_stopped : (reason : ReadStop) (r : Result (List ℕ) ReadStop) → followed_by r (λ b. Ok []) ≡ Err reason → r ≡ Err reason
file_stopped reason (Ok other) is = cc
file_stopped reason (Err other) is = cc

module _ (names xs : List (List ℕ)) (path : List ℕ) (first_number first_taken number taken ca cb : ℕ) where
  -- behind files that were read, a file has these bytes
  there_told : (bytes : List ℕ) (old mid new : Option Told) → FilesTold names first_number first_taken (Ok xs) ca old mid → FilesTold (path ∷ []) number taken (Ok (bytes ∷ [])) cb mid new
      → IfSome old (λ told. file_of number taken (bytes_of told.files path) ≡ Ok bytes)
  there_told bytes None mid new p q = tt
  there_told bytes (Some told) mid new p q =
      let there = subst (λ m. FilesTold (path ∷ []) number taken (Ok (bytes ∷ [])) cb m new) p.0 q in file_there bytes (file_of number taken (bytes_of told.files path)) there.1

  -- or it is too long
  long_told : (n : ℕ) (old mid new : Option Told) → FilesTold names first_number first_taken (Ok xs) ca old mid → FilesTold (path ∷ []) number taken (Err (read.TooLong n)) cb mid new
      → IfSome old (λ told. file_of number taken (bytes_of told.files path) ≡ Err (read.TooLong n))
  long_told n None mid new p q = tt
  long_told n (Some told) mid new p q =
      let there = subst (λ m. FilesTold (path ∷ []) number taken (Err (read.TooLong n)) cb m new) p.0 q in file_stopped (read.TooLong n) (file_of number taken (bytes_of told.files path)) there.1

-- ---- a walk through the sheets

-- the book that the files mean begins with the sheets that were read
abbrev GoesOn : (done : List SheetAt) (first_number first_taken : ℕ) → Sheets → (number taken : ℕ) → Told → Type 0
GoesOn done first_number first_taken book number taken told =
    (others : List SheetAt) → book_from told.files first_number 1 first_taken (done ++ others) ≡ behind book (book_from told.files number (suc (length book)) taken others)

-- the sheets that are left, behind those that were read into a book
pub record BookGoesOn (all left : List SheetAt) (first_number first_taken : ℕ) (book : Sheets) (number taken : ℕ) (old now : FilesAt) : Type 0 where
  pub done : List SheetAt
  pub files : List (List ℕ)
  pub whole : done ++ left ≡ all
  pub number_is : number ≡ first_number + length done
  pub taken_is : taken ≡ first_taken + total files
  pub count : length book ≡ length done
  pub fits : number + length left ≡ first_number + length all
  pub placed : length book + length left ≡ length all
  pub within : taken ≤ call_limit
  pub named : book_names book ≡ map (λ (s : SheetAt). s.name) done
  pub new_names : HaveNewNames done left
  pub read : ReadInOrder (sheet_paths done) first_number first_taken (Ok files) old now
  pub meant : IfSome old.told (GoesOn done first_number first_taken book number taken)

-- nothing was read
pub book_begins : (all : List SheetAt) (number taken : ℕ) (at : FilesAt) → taken ≤ call_limit → HaveNewNames [] all → BookGoesOn all all number taken [] number taken at at
book_begins all number taken at within new_names = record {
  done = [];
  files = [];
  whole = refl;
  number_is = omega arith;
  taken_is = omega arith;
  count = refl;
  fits = refl;
  placed = omega arith;
  within = within;
  named = refl;
  new_names = new_names;
  read = record { count = 0; is_count = refl; counted = (refl, refl, refl); told = none_told number taken at.told; writes = refl; write_faults = refl };
  meant = map_any at.told (λ told others. sym (behind_none (book_from told.files number 1 taken others)));
}

module _ (all left : List SheetAt) (s : SheetAt) (first_number first_taken : ℕ) (book : Sheets) (number taken : ℕ) (old now new : FilesAt)
    (on : BookGoesOn all (s ∷ left) first_number first_taken book number taken old now) where
  paths_more : sheet_paths (on.done ++ s ∷ []) ≡ sheet_paths on.done ++ s.path ∷ []
  paths_more = map-append (λ (t : SheetAt). t.path) on.done (s ∷ [])

  paths_all : sheet_paths (on.done ++ s ∷ []) ++ sheet_paths left ≡ sheet_paths all
  paths_all =
      sym (map-append (λ (t : SheetAt). t.path) (on.done ++ s ∷ []) left)
      ∙ ap sheet_paths (append_assoc on.done (s ∷ []) left ∙ on.whole)

  -- the name of the next sheet is new
  pub next_is_new : IsNewName book s.name
  next_is_new = let n = on.new_names in new_in_book s.name book on.done on.named n.0

  -- the files so far and the next one
  both : (r : Result (List (List ℕ)) ReadStop) → ReadInOrder (s.path ∷ []) number taken r now new
      → ReadInOrder (sheet_paths (on.done ++ s ∷ [])) first_number first_taken (onto on.files r) old new
  both r one =
      let count : length (sheet_paths on.done) ≡ length on.done = length-map on.done (λ (t : SheetAt). t.path) in
      let number_now : number ≡ first_number + length (sheet_paths on.done) = on.number_is ∙ ap (λ k. first_number + k) (sym count) in
      subst (λ names. ReadInOrder names first_number first_taken (onto on.files r) old new) (sym paths_more)
      (joined (sheet_paths on.done) (s.path ∷ []) first_number first_taken on.files r old now new on.read
      (subst (λ k. ReadInOrder (s.path ∷ []) (first_number + length (sheet_paths on.done)) k r now new) on.taken_is (subst (λ k. ReadInOrder (s.path ∷ []) k taken r now new) number_now one)))

  -- the files so far and one that stopped the reading
  unread_all : (reason : ReadStop) → ReadInOrder (s.path ∷ []) number taken (Err reason) now new → ReadInOrder (sheet_paths all) first_number first_taken (Err reason) old new
  unread_all reason one =
      subst (λ names. ReadInOrder names first_number first_taken (Err reason) old new) paths_all
      (stopped (sheet_paths (on.done ++ s ∷ [])) (sheet_paths left) first_number first_taken reason old new (both (Err reason) one))

  wanted_all : (bytes : List ℕ) → ReadInOrder (s.path ∷ []) number taken (Ok (bytes ∷ [])) now new → ReadInOrder (sheet_paths all) first_number first_taken (Err read.NoMemory) old new
  wanted_all bytes one =
      subst (λ names. ReadInOrder names first_number first_taken (Err read.NoMemory) old new) paths_all
      (stopped (sheet_paths (on.done ++ s ∷ [])) (sheet_paths left) first_number first_taken read.NoMemory old new
      (wanted (sheet_paths (on.done ++ s ∷ [])) first_number first_taken (on.files ++ bytes ∷ []) old new (both (Ok (bytes ∷ [])) one)))

  -- what the files mean, from the next sheet on
  meant_next : (r : Result Sheets BookStop) (told : Told) → GoesOn on.done first_number first_taken book number taken told
      → book_from told.files number (suc (length book)) taken (s ∷ left) ≡ r → book_of told.files first_number first_taken all ≡ behind book r
  meant_next r told goes is =
      subst (λ ss. book_from told.files first_number 1 first_taken ss ≡ behind book r) on.whole (goes (s ∷ left) ∙ ap (behind book) is)

  -- the next file has these bytes, where the files tell it
  bytes_told : (bytes : List ℕ) → ReadInOrder (s.path ∷ []) number taken (Ok (bytes ∷ [])) now new → IfSome old.told (λ told. file_of number taken (bytes_of told.files s.path) ≡ Ok bytes)
  bytes_told bytes one =
      let r = on.read in there_told (sheet_paths on.done) on.files s.path first_number first_taken number taken r.count one.count bytes old.told now.told new.told r.told one.told

  -- one sheet more was read
  pub sheet_added : (size : ℕ) (content : SheetContent) → ReadsBytes s.path number (length book + 1) taken (Ok (size, content)) now new → size ≤ room taken
      → BookGoesOn all left first_number first_taken (book ++ record { name = s.name; content = content } ∷ []) (number + 1) (taken + size) old new
  sheet_added size content one small =
      let is = one.sheet in
      let n : NamedSheet = record { name = s.name; content = content } in
      let count_now : length (book ++ n ∷ []) ≡ length book + 1 = length-append book (n ∷ []) in
      let done_now : length (on.done ++ s ∷ []) ≡ length on.done + 1 = length-append on.done (s ∷ []) in
      record {
        done = on.done ++ s ∷ [];
        files = on.files ++ one.bytes ∷ [];
        whole = append_assoc on.done (s ∷ []) left ∙ on.whole;
        number_is = let h = on.number_is in omega (arith, h, done_now);
        taken_is = let h = on.taken_is in omega (arith, h, is.0, total-append on.files (one.bytes ∷ []));
        count = let h = on.count in omega (arith, h, count_now, done_now);
        fits = let h = on.fits in omega (arith, h);
        placed = let h = on.placed in omega (arith, h, count_now);
        within = let h = on.within in omega (arith, h, small);
        named =
            map-append (λ (k : NamedSheet). k.name) book (n ∷ [])
            ∙ ap (λ ks. ks ++ s.name ∷ []) on.named
            ∙ sym (map-append (λ (t : SheetAt). t.name) on.done (s ∷ []));
        new_names = let h = on.new_names in h.1;
        read = both (Ok (one.bytes ∷ [])) one.read;
        meant =
            map_both old.told
            (λ told (goes : GoesOn on.done first_number first_taken book number taken told) there others.
            let next : book_from told.files number (suc (length book)) taken (s ∷ others) ≡ (book_from told.files (suc number) (suc (suc (length book))) (taken + length one.bytes) others >>= λ more. Ok (n ∷ more)) =
            first_read told.files number (suc (length book)) taken s others one.bytes content there is.1 in
            let number_now : suc number ≡ number + 1 = omega arith in
            let sheet_now : suc (suc (length book)) ≡ suc (length (book ++ n ∷ [])) = omega (arith, count_now) in
            ap (λ ss. book_from told.files first_number 1 first_taken ss) (append_assoc on.done (s ∷ []) others)
            ∙ goes (s ∷ others)
            ∙ ap (behind book) next
            ∙ behind_more book n (book_from told.files (suc number) (suc (suc (length book))) (taken + length one.bytes) others)
            ∙ ap (λ k. behind (book ++ n ∷ []) (book_from told.files k (suc (suc (length book))) (taken + length one.bytes) others)) number_now
            ∙ ap (λ k. behind (book ++ n ∷ []) (book_from told.files (number + 1) k (taken + length one.bytes) others)) sheet_now
            ∙ ap (λ k. behind (book ++ n ∷ []) (book_from told.files (number + 1) (suc (length (book ++ n ∷ []))) (taken + k) others)) (sym is.0))
            on.meant (bytes_told one.bytes one.read);
      }

  -- the next file can't be read
  pub sheet_unread : (reason : ReadStop) → ReadInOrder (s.path ∷ []) number taken (Err reason) now new → ReadsBook all first_number first_taken (Err (stop.Unread reason)) old new
  sheet_unread (read.Failed n) one = record { read = unread_all (read.Failed n) one; meant = map_any old.told (λ told. tt) }
  sheet_unread (read.TooLong n) one = record {
    read = unread_all (read.TooLong n) one;
    meant =
        let r = on.read in
        map_both old.told (λ told goes there. meant_next (Err (stop.Unread (read.TooLong n))) told goes (first_unread told.files number (suc (length book)) taken s left (read.TooLong n) there)) on.meant
        (long_told (sheet_paths on.done) on.files s.path first_number first_taken number taken r.count one.count n old.told now.told new.told r.told one.told);
  }
  sheet_unread read.NoMemory one = record { read = unread_all read.NoMemory one; meant = map_any old.told (λ told. tt) }

  -- memory ran out behind it
  pub sheet_wanted : (bytes : List ℕ) → ReadInOrder (s.path ∷ []) number taken (Ok (bytes ∷ [])) now new → ReadsBook all first_number first_taken (Err (stop.Unread read.NoMemory)) old new
  sheet_wanted bytes one = record { read = wanted_all bytes one; meant = map_any old.told (λ told. tt) }

  -- it is no sheet
  pub sheet_bad : (sheet : ℕ) (fault : BookFault) → ReadsBytes s.path number (length book + 1) taken (Err (stop.BadSheet sheet fault)) now new
      → ReadsBook all first_number first_taken (Err (stop.BadSheet sheet fault)) old new
  sheet_bad sheet fault one =
      let is = one.sheet in
      let count : length (sheet_paths on.done) ≡ length on.done = length-map on.done (λ (t : SheetAt). t.path) in
      let place : sheet ≡ length (sheet_paths on.done) + 1 = let h = on.count in omega (arith, is.0, h, count) in
      let number_of : sheet ≡ suc (length book) = omega (arith, is.0) in
      let split : sheet_paths all ≡ sheet_paths on.done ++ s.path ∷ sheet_paths left =
      sym paths_all ∙ ap (λ ps. ps ++ sheet_paths left) paths_more ∙ append_assoc (sheet_paths on.done) (s.path ∷ []) (sheet_paths left) in
      let taken_paths : take sheet (sheet_paths all) ≡ sheet_paths (on.done ++ s ∷ []) =
      ap (take sheet) split
      ∙ ap (λ k. take k (sheet_paths on.done ++ s.path ∷ sheet_paths left)) place
      ∙ take-append-add (sheet_paths on.done) (s.path ∷ sheet_paths left) 1
      ∙ sym paths_more in
      record {
        read = (
          omega (arith, number_of),
          omega (arith, place, ap length split, length-append (sheet_paths on.done) (s.path ∷ sheet_paths left)),
          record { files = on.files ++ one.bytes ∷ []; read = subst (λ names. ReadInOrder names first_number first_taken (Ok (on.files ++ one.bytes ∷ [])) old new) (sym taken_paths) (both (Ok (one.bytes ∷ [])) one.read) },
        );
        meant =
            map_both old.told
            (λ told goes there.
            meant_next (Err (stop.BadSheet sheet fault)) told goes
            (first_bad told.files number (suc (length book)) taken s left one.bytes fault there is.1 ∙ ap (λ k. Err (stop.BadSheet k fault)) (sym number_of)))
            on.meant (bytes_told one.bytes one.read);
      }

  -- it can't be read, or is no sheet
  pub sheet_stopped : (reason : BookStop) → ReadsOne s.path number (length book + 1) taken (Err reason) now new → ReadsBook all first_number first_taken (Err reason) old new
  sheet_stopped (stop.Unread reason) one = sheet_unread reason one
  sheet_stopped (stop.BadSheet sheet fault) one = sheet_bad sheet fault one

-- all sheets were read
pub book_read : (all : List SheetAt) (first_number first_taken : ℕ) (book : Sheets) (number taken : ℕ) (old now : FilesAt) → BookGoesOn all [] first_number first_taken book number taken old now
    → ReadsBook all first_number first_taken (Ok book) old now
book_read all first_number first_taken book number taken old now on =
    let done_is : on.done ≡ all = sym (append-nil on.done) ∙ on.whole in
    record {
      read = record { files = on.files; read = subst (λ ss. ReadInOrder (sheet_paths ss) first_number first_taken (Ok on.files) old now) done_is on.read };
      meant =
          map_told old.told
          (λ told (goes : GoesOn on.done first_number first_taken book number taken told).
          subst (λ ss. book_from told.files first_number 1 first_taken ss ≡ Ok book) on.whole (goes [] ∙ ap Ok (append-nil book)))
          on.meant;
    }

-- the reason is the one that was given
pub stops_by : {B : Type 0} (r : Result B BookStop) (reason : BookStop) → IsErrAnd r (λ e. e ≡ reason) → (P : Result B BookStop → Type 0) → P (Err reason) → P r
stops_by (Ok book) reason is P h = absurd is
stops_by (Err e) reason is P h = subst (λ x. P (Err x)) (sym is) h
