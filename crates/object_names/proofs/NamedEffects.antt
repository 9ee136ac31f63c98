-- Effects on loops, blocks, printing, errors, objects and the library under other names.
use Rattle.std.proofs.Common.{◌≡◌, ℕ, ◌+◌, Bool, List, [], ◌∷◌, ◌++◌, length, Option, Some, None, refl, sym, ap, ◌∙◌, subst}
use Rattle.std.specs.Prelude.{if◌then◌else◌, option_map, replicate}
use Rattle.vba_values.specs.declared.types.Compare.{Compare}
use Rattle.vba_values.specs.declared.types.OpKind.TheVariants as op
use Rattle.vba_values.specs.Types.{Declared}
use Rattle.vba_values.specs.Val.{Val, text, object}
use Rattle.error_frames.specs.declared.frame.FrameErrors.{FrameErrors}
use Rattle.bound_project.specs.Expressions.{Variable}
use Rattle.vba_meaning.specs.Paths.{Path}
use Rattle.vba_meaning.specs.Memory.{Error, Slot, value, path, Loop, Kept, only, Frame, Memory, top, with_top, found, without, put, path_of}
use Rattle.vba_meaning.specs.References.{hold, displaced}
use Rattle.vba_meaning.specs.Effects.{Printed, read_path, assigned, lent, unlent, laid_out, to_zone, printed, loop_off, counted, loop_on, stepped, next_round, kept_at, keep, selected, gone_sub, returned_to, returned_sub, with_err}
use Rattle.object_names.specs.Names.{value_named, path_named, slots_named, kept_named, loop_named, frame_named, under}
use Rattle.object_names.specs.Renamed.{Same}
use Rattle.object_names.proofs.NamedMemory.{found_named, without_named, put_named, top_named, top_with, same_by, kept_at_named}
use Rattle.object_names.proofs.Named.{plainly, Names, fine, bad, telling, then_named}
use Rattle.object_names.proofs.NamedVariables.{path_of_same, hold_same, displaced_same, operated_names, plain_names, read_path_names, assigned_names, within_names}

module _ (r : ℕ → ℕ) where
  abbrev nv : Val → Val
  nv v = value_named r v

  abbrev np : Path → Path
  np p = path_named r p

  -- ---- the running frame

  pub top_same : {m n : Memory} → Same r m n → top n ≡ frame_named r (top m)
  top_same {m = m} k = ap (λ x. top x) k.is ∙ top_named r m k.objects

  -- it becomes what it becomes under the names
  pub top_by : {m n : Memory} (g h : Frame → Frame) → ((t : Frame) → h (frame_named r t) ≡ frame_named r (g t)) → Same r m n → Same r (with_top m (g (top m))) (with_top n (h (top n)))
  top_by {m = m} g h e k = same_by r (λ x. with_top x (g (top x))) (λ x. with_top x (h (top x))) (λ cs. top_with r m cs g h e) refl refl k

  pub hold_to : {m n : Memory} (v w : Val) → w ≡ nv v → Same r m n → Same r (hold v m) (hold w n)
  hold_to {m = m} {n = n} v w e k = subst (λ x. Same r (hold v m) (hold x n)) (sym e) (hold_same r v k)

  pub displaced_to : {m n : Memory} (v w : Val) → w ≡ nv v → Same r m n → Same r (displaced v m) (displaced w n)
  displaced_to {m = m} {n = n} v w e k = subst (λ x. Same r (displaced v m) (displaced x n)) (sym e) (displaced_same r v k)

  pub read_to : {m n : Memory} (p q : Path) → q ≡ np p → Same r m n → Names r nv (read_path p m) (read_path q n)
  read_to {m = m} {n = n} p q e k = subst (λ x. Names r nv (read_path p m) (read_path x n)) (sym e) (read_path_names r p k)

  assigned_to : {m n : Memory} (p q : Path) (v : Val) → q ≡ np p → Same r m n → Names r plainly (assigned p v m) (assigned q (nv v) n)
  assigned_to {m = m} {n = n} p q v e k = subst (λ x. Names r plainly (assigned p v m) (assigned x (nv v) n)) (sym e) (assigned_names r p v k)

  -- ---- For

  counted_names : {m n : Memory} (x : Variable) (v : Val) (l : Loop) → Same r m n → Names r plainly (counted x v l m) (counted x (nv v) (loop_named r l) n)
  counted_names {m = m} {n = n} x v l k =
      then_named r _ (assigned_to (path_of m x) (path_of n x) v (path_of_same r x k) k) (λ u m1 n1 k1.
      then_named r _ (read_to (path_of m1 x) (path_of n1 x) (path_of_same r x k1) k1) (λ w m2 n2 k2. within_names r x.of w l k2))

  pub loop_on_names : {m n : Memory} (x : Variable) (i : ℕ) (compare : Compare) (t u : Declared) (start end by : Val) → Same r m n
      → Names r plainly (loop_on x i compare t u start end by m) (loop_on x i compare t u (nv start) (nv end) (nv by) n)
  loop_on_names x i compare t u start end by k =
      let l : Loop = record { last = record { value = end; of = t }; step = record { value = by; of = u }; compare = compare } in
      then_named r _ (counted_names x start l k) (λ on m1 n1 k1. fine r refl (top_by (λ f. record f { loops = (i, l) ∷ f.loops }) (λ f. record f { loops = (i, loop_named r l) ∷ f.loops }) (λ f. refl) k1))

  stepped_by : {m n : Memory} (l : Option Loop) (x : Variable) → Same r m n → Names r plainly (stepped l x m) (stepped (option_map (λ y. loop_named r y) l) x n)
  stepped_by None x k = bad r 92 k
  stepped_by {m = m} {n = n} (Some l) x k =
      then_named r _ (read_to (path_of m x) (path_of n x) (path_of_same r x k) k) (λ v m1 n1 k1.
      then_named r _ (plain_names r v k1) (λ a m2 n2 k2.
      then_named r _ (operated_names r op.Add l.compare x.of l.step.of a l.step.value k2) (λ w m3 n3 k3. counted_names x w l k3)))

  pub next_round_names : {m n : Memory} (x : Variable) (i : ℕ) → Same r m n → Names r plainly (next_round x i m) (next_round x i n)
  next_round_names {m = m} {n = n} x i k =
      let loops : found (top n).loops i ≡ option_map (λ y. loop_named r y) (found (top m).loops i) = ap (λ f. found f.loops i) (top_same k) ∙ found_named (λ y. loop_named r y) (top m).loops i in
      subst (λ l. Names r plainly (next_round x i m) (stepped l x n)) (sym loops) (stepped_by (found (top m).loops i) x k)

  pub loop_off_names : {m n : Memory} (i : ℕ) → Same r m n → Names r plainly (loop_off i m) (loop_off i n)
  loop_off_names i k = fine r refl (top_by (λ f. record f { loops = without f.loops i }) (λ f. record f { loops = without f.loops i }) (λ f. ap (λ ls. record (frame_named r f) { loops = ls }) (without_named (λ y. loop_named r y) f.loops i)) k)

  -- ---- blocks

  pub kept_at_same : {m n : Memory} (i : ℕ) → Same r m n → kept_at i n ≡ nv (kept_at i m)
  kept_at_same {m = m} i k = ap (λ x. kept_at i x) k.is ∙ kept_at_named r m k.objects i

  pub keeps_same : {m n : Memory} (i : ℕ) (x : Kept) → Same r m n → Same r (with_top m (record (top m) { keeps = put i x (top m).keeps })) (with_top n (record (top n) { keeps = put i (kept_named r x) (top n).keeps }))
  keeps_same i x k = top_by (λ f. record f { keeps = put i x f.keeps }) (λ f. record f { keeps = put i (kept_named r x) f.keeps }) (λ f. ap (λ es. record (frame_named r f) { keeps = es }) (put_named (λ y. kept_named r y) i x f.keeps)) k

  pub drops_same : {m n : Memory} (i : ℕ) → Same r m n → Same r (with_top m (record (top m) { keeps = without (top m).keeps i })) (with_top n (record (top n) { keeps = without (top n).keeps i }))
  drops_same i k = top_by (λ f. record f { keeps = without f.keeps i }) (λ f. record f { keeps = without f.keeps i }) (λ f. ap (λ es. record (frame_named r f) { keeps = es }) (without_named (λ y. kept_named r y) f.keeps i)) k

  pub keep_names : {m n : Memory} (i : ℕ) (v : Val) → Same r m n → Names r plainly (keep i v m) (keep i (nv v) n)
  keep_names {m = m} {n = n} i v k = fine r refl (displaced_to (kept_at i m) (kept_at i n) (kept_at_same i k) (keeps_same i (only v) k))

  pub selected_names : {m n : Memory} (i : ℕ) → Same r m n → Names r nv (selected i m) (selected i n)
  selected_names {m = m} {n = n} i k = fine r (kept_at_same i k) (hold_to (kept_at i m) (kept_at i n) (kept_at_same i k) k)

  -- ---- calls, printing, GoSub, errors

  pub lent_names : {m n : Memory} (p : Path) → Same r m n → Names r plainly (lent p m) (lent (np p) n)
  lent_names p k = fine r refl (top_by (λ f. record f { pending = p ∷ f.pending }) (λ f. record f { pending = np p ∷ f.pending }) (λ f. refl) k)

  pub unlent_same : {m n : Memory} → Same r m n → Same r (unlent m) (unlent n)
  unlent_same k = top_by (λ f. record f { pending = [] }) (λ f. record f { pending = [] }) (λ f. refl) k

  line_blind : (column : ℕ) (xs : List Slot) → laid_out column (slots_named r xs) ≡ laid_out column xs
  line_blind column [] = refl
  line_blind column (value (text units) ∷ xs) = ap (λ us. units ++ us) (line_blind (column + length units) xs)
  line_blind column (value (object o) ∷ xs) = ap (λ us. replicate (to_zone column) 32 ++ us) (line_blind (column + to_zone column) xs)
  line_blind column (value v ∷ xs) = ap (λ us. replicate (to_zone column) 32 ++ us) (line_blind (column + to_zone column) xs)
  line_blind column (path p ∷ xs) = ap (λ us. replicate (to_zone column) 32 ++ us) (line_blind (column + to_zone column) xs)

  column_same : {m n : Memory} → Same r m n → n.column ≡ m.column
  column_same k = ap (λ x. x.column) k.is

  pub printed_names : {m n : Memory} (ends : Bool) (xs : List Slot) → Same r m n → Names r plainly (printed ends xs m) (printed ends (slots_named r xs) n)
  printed_names {m = m} {n = n} ends xs k =
      let line : laid_out n.column (slots_named r xs) ≡ laid_out m.column xs = ap (λ c. laid_out c (slots_named r xs)) (column_same k) ∙ line_blind m.column xs in
      telling r (ap (λ us. Printed us ends ∷ []) line)
      (fine r refl (same_by r (λ x. record x { column = if ends then 0 else x.column + length (laid_out x.column xs) }) (λ x. record x { column = if ends then 0 else x.column + length (laid_out x.column (slots_named r xs)) })
      (λ cs. ap (λ us. record (under r m cs) { column = if ends then 0 else m.column + length us }) (line_blind m.column xs)) refl refl k))

  pub gone_sub_names : {m n : Memory} (i : ℕ) → Same r m n → Names r plainly (gone_sub i m) (gone_sub i n)
  gone_sub_names i k = fine r refl (top_by (λ f. record f { returns = i ∷ f.returns }) (λ f. record f { returns = i ∷ f.returns }) (λ f. refl) k)

  returned_by : {m n : Memory} (is : List ℕ) → Same r m n → Names r plainly (returned_to is m) (returned_to is n)
  returned_by [] k = bad r 3 k
  returned_by (i ∷ is) k = fine r refl (top_by (λ f. record f { returns = is }) (λ f. record f { returns = is }) (λ f. refl) k)

  pub returned_sub_names : {m n : Memory} → Same r m n → Names r plainly (returned_sub m) (returned_sub n)
  returned_sub_names {m = m} {n = n} k =
      let returns : (top n).returns ≡ (top m).returns = ap (λ f. f.returns) (top_same k) in subst (λ is. Names r plainly (returned_sub m) (returned_to is n)) (sym returns) (returned_by (top m).returns k)

  pub err_same : {m n : Memory} (e : Error) → Same r m n → Same r (with_err e m) (with_err e n)
  err_same e k = same_by r (with_err e) (with_err e) (λ cs. refl) refl refl k

  pub errors_same : {m n : Memory} (e : Error) (b : FrameErrors) → Same r m n → Same r (with_err e (with_top m (record (top m) { errors = b }))) (with_err e (with_top n (record (top n) { errors = b })))
  errors_same e b k = err_same e (top_by (λ f. record f { errors = b }) (λ f. record f { errors = b }) (λ f. refl) k)
