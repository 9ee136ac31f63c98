-- Files read in order, part behind part.
use Rattle.std.proofs.Common.{◌≡◌, ◌∙◌, ℕ, zero, suc, ◌+◌, ◌≤◌, List, [], ◌∷◌, ◌++◌, length, take, refl, sym, ap, subst, append_assoc, arith, length-append}
use Rattle.std.specs.Prelude.{Result, Ok, Err, Option, Some, None, Vec}
use Rattle.std.specs.Result.{IsErrAnd}
use Rattle.std.specs.declared.alloc.Global.{Global}
use Rattle.std.proofs.Math.Seq.{take-append-add, take-append_seam}
use Rattle.std.proofs.lemmas.List.{append-nil, take-append-le}
use Rattle.vba_base.specs.Causes.{up, Rose}
use Rattle.vba_base.specs.Map.{FileMap, bytes_of}
use Rattle.vba_base.specs.Outside.{Told, Counts}
use Rattle.list_file.specs.declared.files.ReadStop.{ReadStop}
use Rattle.list_file.specs.declared.files.ReadStop.TheVariants as stop
use Rattle.list_file.specs.declared.bytes.ModuleBytes.{ModuleBytes}
use Rattle.list_file.specs.Sources.{outcome}
use Rattle.list_file.specs.Files.{room, file_of, onto, followed_by, files_of, total, call_limit, FilesAt, ups, IsCount, Counted, IsMeant, FilesTold, ReadInOrder}

-- ---- what the names hold

onto_none : (r : Result (List (List ℕ)) ReadStop) → onto [] r ≡ r
onto_none (Ok files) = refl
onto_none (Err reason) = refl

onto_onto : (bytes : List ℕ) (ys : List (List ℕ)) (r : Result (List (List ℕ)) ReadStop) → onto (bytes ∷ []) (onto ys r) ≡ onto (bytes ∷ ys) r
onto_onto bytes ys (Ok files) = refl
onto_onto bytes ys (Err reason) = refl

-- names of files behind names of which each is there
abbrev Joins : FileMap → (a b : List (List ℕ)) → Type 0
Joins files a b = (number taken : ℕ) (xs : List (List ℕ)) → files_of files number taken a ≡ Ok xs
    → files_of files number taken (a ++ b) ≡ onto xs (files_of files (number + length a) (taken + total xs) b)

joined_rest : (files : FileMap) (number taken : ℕ) (bytes : List ℕ) (a b xs : List (List ℕ)) (q : Result (List (List ℕ)) ReadStop) → Joins files a b
    → files_of files (suc number) (taken + length bytes) a ≡ q → onto (bytes ∷ []) q ≡ Ok xs
    → onto (bytes ∷ []) (files_of files (suc number) (taken + length bytes) (a ++ b)) ≡ onto xs (files_of files (number + suc (length a)) (taken + total xs) b)
joined_rest files number taken bytes a b xs (Err reason) rest is all = cc
joined_rest files number taken bytes a b xs (Ok ys) rest is all =
    let same : (bytes ∷ ys) ≡ xs = cc in
    let n : suc number + length a ≡ number + suc (length a) = omega arith in
    let t : taken + length bytes + total ys ≡ taken + (length bytes + total ys) = omega arith in
    ap (onto (bytes ∷ [])) (rest (suc number) (taken + length bytes) ys is)
    ∙ onto_onto bytes ys (files_of files (suc number + length a) (taken + length bytes + total ys) b)
    ∙ ap (λ k. onto (bytes ∷ ys) (files_of files k (taken + length bytes + total ys) b)) n
    ∙ ap (λ k. onto (bytes ∷ ys) (files_of files (number + suc (length a)) k b)) t
    ∙ ap (λ zs. onto zs (files_of files (number + suc (length a)) (taken + total zs) b)) same

joined_first : (files : FileMap) (number taken : ℕ) (a b xs : List (List ℕ)) (r : Result (List ℕ) ReadStop) → Joins files a b
    → followed_by r (λ bytes. files_of files (suc number) (taken + length bytes) a) ≡ Ok xs
    → followed_by r (λ bytes. files_of files (suc number) (taken + length bytes) (a ++ b)) ≡ onto xs (files_of files (number + suc (length a)) (taken + total xs) b)
joined_first files number taken a b xs (Err reason) rest all = cc
joined_first files number taken a b xs (Ok bytes) rest all = joined_rest files number taken bytes a b xs (files_of files (suc number) (taken + length bytes) a) rest refl all

-- files behind others that are there
pub files_joined : (files : FileMap) (a b : List (List ℕ)) → Joins files a b
files_joined files [] b = λ number taken xs all.
    let none : [] ≡ xs = cc in
    let n : number ≡ number + 0 = omega arith in
    let t : taken ≡ taken + 0 = omega arith in
    sym (onto_none (files_of files number taken b))
    ∙ ap (λ k. onto [] (files_of files k taken b)) n
    ∙ ap (λ k. onto [] (files_of files (number + 0) k b)) t
    ∙ ap (λ zs. onto zs (files_of files (number + 0) (taken + total zs) b)) none
files_joined files (name ∷ a) b = λ number taken xs all.
    joined_first files number taken a b xs (file_of number taken (bytes_of files name)) (files_joined files a b) all

-- names behind a name that can't be read
abbrev Stops : FileMap → (a b : List (List ℕ)) → Type 0
Stops files a b = (number taken : ℕ) (reason : ReadStop) → files_of files number taken a ≡ Err reason → files_of files number taken (a ++ b) ≡ Err reason

stopped_rest : (files : FileMap) (number taken : ℕ) (bytes : List ℕ) (a b : List (List ℕ)) (reason : ReadStop) (q : Result (List (List ℕ)) ReadStop) → Stops files a b
    → files_of files (suc number) (taken + length bytes) a ≡ q → onto (bytes ∷ []) q ≡ Err reason
    → onto (bytes ∷ []) (files_of files (suc number) (taken + length bytes) (a ++ b)) ≡ Err reason
stopped_rest files number taken bytes a b reason (Ok ys) rest is stops = cc
stopped_rest files number taken bytes a b reason (Err other) rest is stops = ap (onto (bytes ∷ [])) (rest (suc number) (taken + length bytes) other is) ∙ stops

stopped_first : (files : FileMap) (number taken : ℕ) (a b : List (List ℕ)) (reason : ReadStop) (r : Result (List ℕ) ReadStop) → Stops files a b
    → followed_by r (λ bytes. files_of files (suc number) (taken + length bytes) a) ≡ Err reason
    → followed_by r (λ bytes. files_of files (suc number) (taken + length bytes) (a ++ b)) ≡ Err reason
stopped_first files number taken a b reason (Err other) rest stops = stops
stopped_first files number taken a b reason (Ok bytes) rest stops =
    stopped_rest files number taken bytes a b reason (files_of files (suc number) (taken + length bytes) a) rest refl stops

-- a file that is too long, whatever names come behind
pub files_stopped : (files : FileMap) (a b : List (List ℕ)) → Stops files a b
files_stopped files [] b = λ number taken reason stops. cc
files_stopped files (name ∷ a) b = λ number taken reason stops.
    stopped_first files number taken a b reason (file_of number taken (bytes_of files name)) (files_stopped files a b) stops

-- ---- what was read

-- so many calls, and so many more
pub ups_more : (a b n : ℕ) → ups (a + b) n ≡ ups b (ups a n)
ups_more a zero n = let e : a + zero ≡ a = omega arith in ap (λ k. ups k n) e
ups_more a (suc b) n = let e : a + suc b ≡ suc (a + b) = omega arith in ap (λ k. ups k n) e ∙ ap up (ups_more a b n)

count_joined : (number ca cb : ℕ) (a b xs : List (List ℕ)) (r : Result (List (List ℕ)) ReadStop) → ca ≡ length a → IsCount (number + length a) (length b) r cb
    → IsCount number (length (a ++ b)) (onto xs r) (ca + cb)
count_joined number ca cb a b xs (Ok ys) all more = omega (arith, length-append a b, all, more)
count_joined number ca cb a b xs (Err (stop.Failed n)) all more =
    (omega (arith, more.0), omega (arith, more.1, all), omega (arith, length-append a b, all, more.2))
count_joined number ca cb a b xs (Err (stop.TooLong n)) all more =
    (omega (arith, more.0), omega (arith, more.1, all), omega (arith, length-append a b, all, more.2))
count_joined number ca cb a b xs (Err stop.NoMemory) all more = omega (arith, length-append a b, all, more)

counted_joined : (ca cb : ℕ) (xs : List (List ℕ)) (r : Result (List (List ℕ)) ReadStop) (old mid new : Counts) → Counted (Ok xs) ca old mid → Counted r cb mid new
    → Counted (onto xs r) (ca + cb) old new
counted_joined ca cb xs (Ok ys) old mid new p q =
    (q.0 ∙ ap (ups cb) p.0 ∙ sym (ups_more ca cb old.reads), q.1 ∙ p.1, q.2 ∙ p.2)
counted_joined ca cb xs (Err (stop.Failed n)) old mid new p q =
    (q.0 ∙ ap (ups cb) p.0 ∙ sym (ups_more ca cb old.reads), subst (λ k. Rose k new.read_faults) p.1 q.1)
counted_joined ca cb xs (Err (stop.TooLong n)) old mid new p q =
    (q.0 ∙ ap (ups cb) p.0 ∙ sym (ups_more ca cb old.reads), q.1 ∙ p.1, subst (λ k. Rose k new.long_reads) p.2 q.2)
counted_joined ca cb xs (Err stop.NoMemory) old mid new p q = q ∙ p.1

pub names_joined : (names a b : List (List ℕ)) (ca cb : ℕ) → ca ≡ length a → (names ++ take ca a) ++ take cb b ≡ names ++ take (ca + cb) (a ++ b)
names_joined names a b ca cb all =
    let whole : take (length a) a ≡ a = ap (take (length a)) (sym (append-nil a)) ∙ take-append_seam a [] in
    ap (λ k. (names ++ take k a) ++ take cb b) all
    ∙ ap (λ ns. (names ++ ns) ++ take cb b) whole
    ∙ append_assoc names a (take cb b)
    ∙ ap (λ ns. names ++ ns) (sym (take-append-add a b cb))
    ∙ ap (λ k. names ++ take (k + cb) (a ++ b)) (sym all)

meant_joined : (files : FileMap) (number taken : ℕ) (a b xs : List (List ℕ)) (r : Result (List (List ℕ)) ReadStop) → files_of files number taken a ≡ Ok xs
    → IsMeant r (files_of files (number + length a) (taken + total xs) b) → IsMeant (onto xs r) (files_of files number taken (a ++ b))
meant_joined files number taken a b xs (Ok ys) first more = files_joined files a b number taken xs first ∙ ap (onto xs) more
meant_joined files number taken a b xs (Err (stop.Failed n)) first more = tt
meant_joined files number taken a b xs (Err (stop.TooLong n)) first more = files_joined files a b number taken xs first ∙ ap (onto xs) more
meant_joined files number taken a b xs (Err stop.NoMemory) first more = tt

told_joined : (a b : List (List ℕ)) (number taken ca cb : ℕ) (xs : List (List ℕ)) (r : Result (List (List ℕ)) ReadStop) (old mid new : Option Told) → ca ≡ length a
    → FilesTold a number taken (Ok xs) ca old mid → FilesTold b (number + length a) (taken + total xs) r cb mid new → FilesTold (a ++ b) number taken (onto xs r) (ca + cb) old new
told_joined a b number taken ca cb xs r None mid new all p q = subst (λ m. FilesTold b (number + length a) (taken + total xs) r cb m new) p q
told_joined a b number taken ca cb xs r (Some told) mid new all p q =
    let there = subst (λ m. FilesTold b (number + length a) (taken + total xs) r cb m new) p.0 q in (
      there.0 ∙ ap (λ ns. Some (record told { names_read = ns })) (names_joined told.names_read a b ca cb all),
      meant_joined told.files number taken a b xs r p.1 there.1,
    )

-- files that were read, and others behind them
pub joined : (a b : List (List ℕ)) (number taken : ℕ) (xs : List (List ℕ)) (r : Result (List (List ℕ)) ReadStop) (old mid new : FilesAt)
    → ReadInOrder a number taken (Ok xs) old mid → ReadInOrder b (number + length a) (taken + total xs) r mid new → ReadInOrder (a ++ b) number taken (onto xs r) old new
joined a b number taken xs r old mid new p q = record {
  count = p.count + q.count;
  is_count = count_joined number p.count q.count a b xs r p.is_count q.is_count;
  counted = counted_joined p.count q.count xs r old.counts mid.counts new.counts p.counted q.counted;
  told = told_joined a b number taken p.count q.count xs r old.told mid.told new.told p.is_count p.told q.told;
  writes = q.writes ∙ p.writes;
  write_faults = q.write_faults ∙ p.write_faults;
}

within_more : (count : ℕ) (a b : List (List ℕ)) → count ≤ length a → count ≤ length (a ++ b)
within_more count a b within = omega (arith, length-append a b, within)

told_more : (a b : List (List ℕ)) (number taken count : ℕ) (reason : ReadStop) (old new : Option Told) → count ≤ length a
    → FilesTold a number taken (Err reason) count old new → FilesTold (a ++ b) number taken (Err reason) count old new
told_more a b number taken count reason None new within p = p
told_more a b number taken count reason (Some told) new within p = (
  p.0 ∙ ap (λ ns. Some (record told { names_read = told.names_read ++ ns })) (sym (take-append-le count a b within)),
  at reason p.1,
)
  where
    at : (why : ReadStop) → IsMeant (Err why) (files_of told.files number taken a) → IsMeant (Err why) (files_of told.files number taken (a ++ b))
    at (stop.Failed n) meant = tt
    at (stop.TooLong n) meant = files_stopped told.files a b number taken (stop.TooLong n) meant
    at stop.NoMemory meant = tt

-- what stopped the reading of files stops that of more
pub stopped : (a b : List (List ℕ)) (number taken : ℕ) (reason : ReadStop) (old new : FilesAt)
    → ReadInOrder a number taken (Err reason) old new → ReadInOrder (a ++ b) number taken (Err reason) old new
stopped a b number taken (stop.Failed n) old new p = record {
  count = p.count;
  is_count = let i = p.is_count in (i.0, i.1, within_more p.count a b i.2);
  counted = p.counted;
  told = let i = p.is_count in told_more a b number taken p.count (stop.Failed n) old.told new.told i.2 p.told;
  writes = p.writes;
  write_faults = p.write_faults;
}
stopped a b number taken (stop.TooLong n) old new p = record {
  count = p.count;
  is_count = let i = p.is_count in (i.0, i.1, within_more p.count a b i.2);
  counted = p.counted;
  told = let i = p.is_count in told_more a b number taken p.count (stop.TooLong n) old.told new.told i.2 p.told;
  writes = p.writes;
  write_faults = p.write_faults;
}
stopped a b number taken stop.NoMemory old new p = record {
  count = p.count;
  is_count = within_more p.count a b p.is_count;
  counted = p.counted;
  told = told_more a b number taken p.count stop.NoMemory old.told new.told p.is_count p.told;
  writes = p.writes;
  write_faults = p.write_faults;
}

told_wanted : (a : List (List ℕ)) (number taken count : ℕ) (xs : List (List ℕ)) (old new : Option Told)
    → FilesTold a number taken (Ok xs) count old new → FilesTold a number taken (Err stop.NoMemory) count old new
told_wanted a number taken count xs None new p = p
told_wanted a number taken count xs (Some told) new p = (p.0, tt)

-- files that were read, and then memory ran out
pub wanted : (a : List (List ℕ)) (number taken : ℕ) (xs : List (List ℕ)) (old new : FilesAt)
    → ReadInOrder a number taken (Ok xs) old new → ReadInOrder a number taken (Err stop.NoMemory) old new
wanted a number taken xs old new p = record {
  count = p.count;
  is_count = let i = p.is_count in omega (arith, i);
  counted = let i = p.counted in i.1;
  told = told_wanted a number taken p.count xs old.told new.told p.told;
  writes = p.writes;
  write_faults = p.write_faults;
}

-- ---- a walk through the names

-- the names that are left, behind those whose files were read
pub record FilesGoOn (all left : List (List ℕ)) (taken_first : ℕ) (xs : List (List ℕ)) (number taken : ℕ) (old now : FilesAt) : Type 0 where
  pub done : List (List ℕ)
  pub whole : done ++ left ≡ all
  pub number_is : number ≡ 1 + length done
  pub taken_is : taken ≡ taken_first + total xs
  pub same : length xs ≡ length done
  pub within : taken ≤ call_limit
  pub read : ReadInOrder done 1 taken_first (Ok xs) old now

-- nothing was read
pub none_told : (number taken : ℕ) (told : Option Told) → FilesTold [] number taken (Ok []) 0 told told
none_told number taken None = refl
none_told number taken (Some told) = (ap (λ ns. Some (record told { names_read = ns })) (sym (append-nil told.names_read)), refl)

pub none_read : (all : List (List ℕ)) (taken : ℕ) (at : FilesAt) → taken ≤ call_limit → FilesGoOn all all taken [] 1 taken at at
none_read all taken at within = record {
  done = [];
  whole = refl;
  number_is = refl;
  taken_is = omega arith;
  same = refl;
  within = within;
  read = record { count = 0; is_count = refl; counted = (refl, refl, refl); told = none_told 1 taken at.told; writes = refl; write_faults = refl };
}

pub total-append : (xs ys : List (List ℕ)) → total (xs ++ ys) ≡ total xs + total ys
total-append [] ys = omega arith
total-append (bytes ∷ xs) ys = let h = total-append xs ys in omega (arith, h)

module _ (all left : List (List ℕ)) (name : List ℕ) (taken_first : ℕ) (xs : List (List ℕ)) (number taken : ℕ) (old now new : FilesAt) (on : FilesGoOn all (name ∷ left) taken_first xs number taken old now) where
  both : (r : Result (List (List ℕ)) ReadStop) → ReadInOrder (name ∷ []) number taken r now new → ReadInOrder (on.done ++ name ∷ []) 1 taken_first (onto xs r) old new
  both r one =
      joined on.done (name ∷ []) 1 taken_first xs r old now new on.read
      (subst (λ k. ReadInOrder (name ∷ []) (1 + length on.done) k r now new) on.taken_is (subst (λ k. ReadInOrder (name ∷ []) k taken r now new) on.number_is one))

  left_whole : (on.done ++ name ∷ []) ++ left ≡ all
  left_whole = append_assoc on.done (name ∷ []) left ∙ on.whole

  -- one file more was read
  pub one_read : (bytes : List ℕ) → length bytes ≤ room taken → ReadInOrder (name ∷ []) number taken (Ok (bytes ∷ [])) now new
      → FilesGoOn all left taken_first (xs ++ bytes ∷ []) (number + 1) (taken + length bytes) old new
  one_read bytes within one = record {
    done = on.done ++ name ∷ [];
    whole = left_whole;
    number_is = let n = on.number_is in omega (arith, n, length-append on.done (name ∷ []));
    taken_is = let t = on.taken_is in omega (arith, t, total-append xs (bytes ∷ []));
    same = let e = on.same in omega (arith, e, length-append xs (bytes ∷ []), length-append on.done (name ∷ []));
    within = let w = on.within in omega (arith, w, within);
    read = both (Ok (bytes ∷ [])) one;
  }

  -- one file more couldn't be read
  pub one_stopped : (reason : ReadStop) → ReadInOrder (name ∷ []) number taken (Err reason) now new → ReadInOrder all 1 taken_first (Err reason) old new
  one_stopped reason one =
      subst (λ names. ReadInOrder names 1 taken_first (Err reason) old new) left_whole
      (stopped (on.done ++ name ∷ []) left 1 taken_first reason old new (both (Err reason) one))

  -- one file more was read, and then memory ran out
  pub one_wanted : (bytes : List ℕ) → ReadInOrder (name ∷ []) number taken (Ok (bytes ∷ [])) now new → ReadInOrder all 1 taken_first (Err stop.NoMemory) old new
  one_wanted bytes one =
      subst (λ names. ReadInOrder names 1 taken_first (Err stop.NoMemory) old new) left_whole
      (stopped (on.done ++ name ∷ []) left 1 taken_first stop.NoMemory old new (wanted (on.done ++ name ∷ []) 1 taken_first (xs ++ bytes ∷ []) old new (both (Ok (bytes ∷ [])) one)))

-- all files were read
pub all_read : (all : List (List ℕ)) (taken_first : ℕ) (xs : List (List ℕ)) (number taken : ℕ) (old now : FilesAt) → FilesGoOn all [] taken_first xs number taken old now
    → ReadInOrder all 1 taken_first (Ok xs) old now
all_read all taken_first xs number taken old now on =
    subst (λ names. ReadInOrder names 1 taken_first (Ok xs) old now) (sym (append-nil on.done) ∙ on.whole) on.read

-- the reason is the one that was given
pub stops_by : (r : Result (Vec ModuleBytes Global) ReadStop) (reason : ReadStop) → IsErrAnd r (λ e. e ≡ reason) → outcome r ≡ Err reason
stops_by (Ok files) reason is = absurd is
stops_by (Err e) reason is = ap Err is
