-- The stored lock counts that follow a row of changes are those that looking finds.
use Rattle.std.proofs.Common.{◌≡◌, ℕ, ◌+◌, ◌≤◌, Bool, true, false, not, List, [], ◌∷◌, ◌++◌, map, refl, sym, ap, ◌∙◌, arith}
use Rattle.std.specs.Prelude.{◌==◌, ◌||◌, nat_lt, if◌then◌else◌}
use Rattle.std.proofs.lemmas.Bool.{eqb-true}
use Rattle.vba_values.specs.Val.{Val}
use Rattle.sheet_host.specs.Books.{Sheets}
use Rattle.bound_project.specs.Project.{Declarations, Project, procedure_at, first_values}
use Rattle.vba_meaning.specs.Paths.{Path, is_below, any_below}
use Rattle.vba_meaning.specs.Memory.{Slot, value, path, Kept, only, at_path, walk, Frame, Memory, first_or, rest, top, received, put, without, paths_in_slots, paths_kept, paths_held, without_paths, calling}
use Rattle.vba_meaning.specs.References.{without_values, but_result, emptied}
use Rattle.vba_meaning.specs.Meaning.{meaning}
use Rattle.memory_changes.specs.Changes.{Change, aside, takes, connects, disconnects, has_items, makes, has_told, goes, lends, lends_none, lends_again, raise_ends, enters, empties, leaves, keeps, drops, Row, none, first}
use Rattle.memory_changes.proofs.Steps.{meant_row}
use Rattle.array_locks.specs.Stored.{how_many_below, locked, place_of, Locks, lock_count, returned_paths, taken, path_in, replaced_path, dropped_paths, frame_paths, locks_after, locks_along, AreFound, AreMeant}
use Rattle.array_locks.proofs.Counts.{lent_count, returned_count, below_append}

-- ---- paths of a frame

-- so many of four lists of paths lead through an array at a place
below_four : (ps ss ks rs : List Path) (q : Path) → how_many_below (ps ++ ss ++ ks ++ rs) q ≡ how_many_below ps q + how_many_below ss q + how_many_below ks q + how_many_below rs q
below_four ps ss ks rs q = omega (arith, below_append ((ps ++ ss) ++ ks) rs q, below_append (ps ++ ss) ks q, below_append ps ss q)

below_top : (fs : List Frame) (q : Path) → how_many_below (paths_held (first_or fs ∷ rest fs)) q ≡ how_many_below (paths_held fs) q
below_top [] q = refl
below_top (f ∷ fs) q = refl

-- of those of the running frame and of the others
below_parts : (m : Memory) (q : Path)
    → how_many_below (top m).pending q + how_many_below (paths_in_slots (top m).slots) q + how_many_below (paths_kept (top m).keeps) q + how_many_below (paths_held (rest m.frames)) q ≡ locked m q
below_parts m q = sym (below_four (top m).pending (paths_in_slots (top m).slots) (paths_kept (top m).keeps) (paths_held (rest m.frames)) q) ∙ below_top m.frames q

-- arguments take as many as they have
below_taken : (xs : List Slot) (ps : List Path) (q : Path) → how_many_below (without_paths xs ps) q + how_many_below (taken xs ps) q ≡ how_many_below ps q
below_taken [] ps q = omega arith
below_taken (value v ∷ xs) ps q = below_taken xs ps q
below_taken (path p ∷ xs) [] q = nothing xs where
  nothing : (ys : List Slot) → how_many_below (without_paths ys []) q + 0 ≡ 0
  nothing [] = refl
  nothing (value v ∷ ys) = nothing ys
  nothing (path p ∷ ys) = nothing ys
below_taken (path p ∷ xs) (r ∷ ps) q = omega (arith, below_taken xs ps q)

-- of a caller
calling_first : (xs : List Slot) (ps ss ks rs : List Path) (q : Path) → how_many_below (without_paths xs ps ++ ss ++ ks ++ rs) q + how_many_below (taken xs ps) q ≡ how_many_below (ps ++ ss ++ ks ++ rs) q
calling_first xs ps ss ks rs q = omega (arith, below_four ps ss ks rs q, below_four (without_paths xs ps) ss ks rs q, below_taken xs ps q)

none_taken : (ys : List Slot) (q : Path) → 0 + how_many_below (taken ys []) q ≡ 0
none_taken [] q = refl
none_taken (value v ∷ ys) q = none_taken ys q
none_taken (path p ∷ ys) q = refl

below_calling : (xs : List Slot) (fs : List Frame) (q : Path) → how_many_below (paths_held (calling xs fs)) q + how_many_below (taken xs (first_or fs).pending) q ≡ how_many_below (paths_held fs) q
below_calling xs [] q = none_taken xs q
below_calling xs (f ∷ fs) q = calling_first xs f.pending (paths_in_slots f.slots) (paths_kept f.keeps) (paths_held fs) q

-- variables of a procedure are no places of others
own_paths : (vs : List Val) (xs : List Slot) → paths_in_slots (map value vs ++ xs) ≡ paths_in_slots xs
own_paths [] xs = refl
own_paths (v ∷ vs) xs = own_paths vs xs

-- a frame that is emptied keeps the places of its parameters
paths_without : (xs : List Slot) → paths_in_slots (without_values xs) ≡ paths_in_slots xs
paths_without [] = refl
paths_without (value v ∷ xs) = paths_without xs
paths_without (path p ∷ xs) = ap (λ ps. p ∷ ps) (paths_without xs)

paths_but : (xs : List Slot) → paths_in_slots (but_result xs) ≡ paths_in_slots xs
paths_but [] = refl
paths_but (value v ∷ xs) = paths_without xs
paths_but (path p ∷ xs) = ap (λ ps. p ∷ ps) (paths_without xs)

paths_emptied : (f : Frame) → paths_in_slots (emptied f).slots ≡ paths_in_slots f.slots
paths_emptied f = by_test f.called where
  by_test : (b : Bool) → paths_in_slots (if b then but_result f.slots else without_values f.slots) ≡ paths_in_slots f.slots
  by_test true = paths_but f.slots
  by_test false = paths_without f.slots

-- what blocks keep
below_kept : (i : ℕ) (k : Kept) (es : List (ℕ × Kept)) (q : Path) → how_many_below (paths_kept ((i, k) ∷ es)) q ≡ how_many_below (path_in k) q + how_many_below (paths_kept es) q
below_kept i (only v) es q = omega arith
below_kept i (at_path p) es q = omega arith
below_kept i (walk begun v n) es q = omega arith

below_put : (i : ℕ) (k : Kept) (es : List (ℕ × Kept)) (q : Path) → how_many_below (paths_kept (put i k es)) q + how_many_below (replaced_path i es) q ≡ how_many_below (paths_kept es) q + how_many_below (path_in k) q
below_put i k [] q = omega (arith, below_kept i k [] q)
below_put i k ((j, l) ∷ es) q = by_tests (j == i) (nat_lt i j) (below_put i k es q) where
  by_tests : (b c : Bool) → how_many_below (paths_kept (put i k es)) q + how_many_below (replaced_path i es) q ≡ how_many_below (paths_kept es) q + how_many_below (path_in k) q
      → how_many_below (paths_kept (if b then (i, k) ∷ es else if c then (i, k) ∷ (j, l) ∷ es else (j, l) ∷ put i k es)) q + how_many_below (if b then path_in l else if c then [] else replaced_path i es) q
      ≡ how_many_below (paths_kept ((j, l) ∷ es)) q + how_many_below (path_in k) q
  by_tests true c more = omega (arith, below_kept i k es q, below_kept j l es q)
  by_tests false true more = omega (arith, below_kept i k ((j, l) ∷ es) q)
  by_tests false false more = omega (arith, below_kept j l (put i k es) q, below_kept j l es q, more)

-- no more than there are is replaced
below_replaced : (i : ℕ) (es : List (ℕ × Kept)) (q : Path) → how_many_below (replaced_path i es) q ≤ how_many_below (paths_kept es) q
below_replaced i [] q = omega arith
below_replaced i ((j, l) ∷ es) q = by_tests (j == i) (nat_lt i j) (below_replaced i es q) where
  by_tests : (b c : Bool) → how_many_below (replaced_path i es) q ≤ how_many_below (paths_kept es) q → how_many_below (if b then path_in l else if c then [] else replaced_path i es) q ≤ how_many_below (paths_kept ((j, l) ∷ es)) q
  by_tests true c more = omega (arith, below_kept j l es q)
  by_tests false true more = omega arith
  by_tests false false more = omega (arith, below_kept j l es q, more)

below_without : (i : ℕ) (es : List (ℕ × Kept)) (q : Path) → how_many_below (paths_kept (without es i)) q + how_many_below (dropped_paths i es) q ≡ how_many_below (paths_kept es) q
below_without i [] q = refl
below_without i ((j, l) ∷ es) q = by_test (j == i) (below_without i es q) where
  by_test : (b : Bool) → how_many_below (paths_kept (without es i)) q + how_many_below (dropped_paths i es) q ≡ how_many_below (paths_kept es) q
      → how_many_below (paths_kept (if b then without es i else (j, l) ∷ without es i)) q + how_many_below (if b then path_in l ++ dropped_paths i es else dropped_paths i es) q ≡ how_many_below (paths_kept ((j, l) ∷ es)) q
  by_test true more = omega (arith, below_append (path_in l) (dropped_paths i es) q, below_kept j l es q, more)
  by_test false more = omega (arith, below_kept j l (without es i) q, below_kept j l es q, more)

-- ---- one change

-- the counts are those of a memory's paths
pub record Right (locks : Locks) (m : Memory) : Type 0 where
  pub each : (q : Path) → lock_count locks (place_of q) ≡ locked m q

-- a count and what looking finds, each by what it is the sum of
between : {a b c e : ℕ} → a ≡ b → e ≡ c → b ≡ c → a ≡ e
between x y z = x ∙ z ∙ sym y

-- a call's frame has the places of its arguments alone
entered_below : (vs : List Val) (xs : List Slot) (fs : List Frame) (q : Path)
    → how_many_below ((paths_in_slots (map value vs ++ map received xs) ++ []) ++ paths_held (calling xs fs)) q ≡ how_many_below (paths_in_slots (map received xs)) q + how_many_below (paths_held (calling xs fs)) q
entered_below vs xs fs q =
    let own : how_many_below (paths_in_slots (map value vs ++ map received xs)) q ≡ how_many_below (paths_in_slots (map received xs)) q = ap (λ ps. how_many_below ps q) (own_paths vs (map received xs)) in
    omega (arith, below_append (paths_in_slots (map value vs ++ map received xs) ++ []) (paths_held (calling xs fs)) q, below_append (paths_in_slots (map value vs ++ map received xs)) [] q, own)

below_emptied : (f : Frame) (q : Path) → how_many_below (paths_in_slots (emptied f).slots) q ≡ how_many_below (paths_in_slots f.slots) q
below_emptied f q = ap (λ ps. how_many_below ps q) (paths_emptied f)

-- the frames are the same
same_frames : {locks : Locks} {m m1 : Memory} → paths_held m1.frames ≡ paths_held m.frames → Right locks m → Right locks m1
same_frames e r = record { each = λ q. r.each q ∙ sym (ap (λ ps. how_many_below ps q) e) }

pub change_right : (d : Declarations) (m m1 : Memory) (c : Change d m m1) (locks : Locks) → Right locks m → Right (locks_after m c locks) m1
change_right d m _ (aside m1 a) locks r = same_frames a.paths r
change_right d m _ (takes o i old v e) locks r = same_frames refl r
change_right d m _ (connects o i e) locks r = same_frames refl r
change_right d m _ (disconnects o i e) locks r = same_frames refl r
change_right d m _ (has_items o vs ks e) locks r = same_frames refl r
change_right d m _ (makes c) locks r = same_frames refl r
change_right d m _ (has_told o) locks r = same_frames refl r
change_right d m _ (goes o) locks r = same_frames refl r
change_right d m _ (lends p) locks r = record {
  each = λ q. between (lent_count locks (p ∷ []) q) (below_four (p ∷ (top m).pending) (paths_in_slots (top m).slots) (paths_kept (top m).keeps) (paths_held (rest m.frames)) q) (omega (arith, r.each q, below_parts m q));
}
change_right d m _ lends_none locks r = record {
  each = λ q. between (returned_count locks (top m).pending q) (below_four [] (paths_in_slots (top m).slots) (paths_kept (top m).keeps) (paths_held (rest m.frames)) q) (omega (arith, r.each q, below_parts m q));
}
change_right d m _ (lends_again xs) locks r = record {
  each = λ q. between (lent_count locks (paths_in_slots xs) q) (below_four (paths_in_slots xs ++ (top m).pending) (paths_in_slots (top m).slots) (paths_kept (top m).keeps) (paths_held (rest m.frames)) q)
      (omega (arith, r.each q, below_append (paths_in_slots xs) (top m).pending q, below_parts m q));
}
change_right d m _ (raise_ends xs) locks r = record {
  each = λ q. between (returned_count locks (taken xs (top m).pending) q) (below_four (without_paths xs (top m).pending) (paths_in_slots (top m).slots) (paths_kept (top m).keeps) (paths_held (rest m.frames)) q)
      (omega (arith, r.each q, below_taken xs (top m).pending q, below_parts m q));
}
change_right d m _ (enters called p me xs) locks r = record {
  each = λ q. between (lent_count (returned_paths locks (taken xs (top m).pending)) (paths_in_slots (map received xs)) q)
      (entered_below (first_values d (procedure_at d p).locals) xs m.frames q)
      (omega (arith, returned_count locks (taken xs (top m).pending) q, r.each q, below_calling xs m.frames q));
}
change_right d m _ empties locks r = record {
  each = λ q. between (returned_count locks (paths_kept (top m).keeps) q) (below_four (top m).pending (paths_in_slots (emptied (top m)).slots) [] (paths_held (rest m.frames)) q)
      (omega (arith, r.each q, below_emptied (top m) q, below_parts m q));
}
change_right d m _ leaves locks r = record {
  each = λ q. returned_count locks (frame_paths (top m)) q
      ∙ (omega (arith, r.each q, below_append ((top m).pending ++ paths_in_slots (top m).slots) (paths_kept (top m).keeps) q, below_append (top m).pending (paths_in_slots (top m).slots) q, below_parts m q));
}
change_right d m _ (keeps i k) locks r = record {
  each = λ q. between (lent_count (returned_paths locks (replaced_path i (top m).keeps)) (path_in k) q) (below_four (top m).pending (paths_in_slots (top m).slots) (paths_kept (put i k (top m).keeps)) (paths_held (rest m.frames)) q)
      (omega (arith, returned_count locks (replaced_path i (top m).keeps) q, r.each q, below_put i k (top m).keeps q, below_parts m q, below_replaced i (top m).keeps q));
}
change_right d m _ (drops i) locks r = record {
  each = λ q. between (returned_count locks (dropped_paths i (top m).keeps) q) (below_four (top m).pending (paths_in_slots (top m).slots) (paths_kept (without (top m).keeps i)) (paths_held (rest m.frames)) q)
      (omega (arith, r.each q, below_without i (top m).keeps q, below_parts m q));
}

-- ---- a row of changes

along : {d : Declarations} {m m1 : Memory} (row : Row d m m1) (locks : Locks) → Right locks m → Right (locks_along row locks) m1
along (none m) locks r = r
along {d = d} (first m m1 m2 c row) locks r = along row (locks_after m c locks) (change_right d m m1 c locks r)

pub found : (d : Declarations) (book : Sheets) → AreFound d book
found d book m row q = (along row [] (record { each = λ q. refl })).each q

pub meant : (pr : Project) (book : Sheets) (turns : ℕ) → AreMeant pr book turns
meant pr book turns = let row = meant_row pr book turns in (row, found pr.declared book (meaning pr book turns).state.memory row)

-- ---- what is asked

some : (n : ℕ) → (1 + n == 0) ≡ false
some n = by_test (1 + n == 0) refl where
  by_test : (b : Bool) → (1 + n == 0) ≡ b → b ≡ false
  by_test true e = absurd (omega (arith, eqb-true (1 + n) 0 e))
  by_test false e = refl

pub asked : (ps : List Path) (q : Path) → any_below ps q ≡ not (how_many_below ps q == 0)
asked [] q = refl
asked (p ∷ ps) q = by_test (is_below p q) (asked ps q) where
  by_test : (b : Bool) → any_below ps q ≡ not (how_many_below ps q == 0) → (b || any_below ps q) ≡ not ((if b then 1 else 0) + how_many_below ps q == 0)
  by_test true h = ap not (sym (some (how_many_below ps q)))
  by_test false h = let more : how_many_below ps q ≡ 0 + how_many_below ps q = omega arith in h ∙ ap (λ n. not (n == 0)) more
