-- Calls as deep as frames go.
use Rattle.std.specs.Fmt.{digits, decimal}
use Rattle.std.proofs.Common.{◌≡◌, ℕ, zero, suc, ◌+◌, ◌*◌, ◌<◌, ◌≤◌, nat_lt, pos, true, false, List, [], ◌∷◌, ◌++◌, length, codes, Option, Some, None, refl, sym, ap, ◌∙◌, subst, arith}
use Rattle.std.proofs.lemmas.Bool.{lt-ltb, le-ltb, eq-eqb}
use Rattle.vba_values.specs.declared.types.WholeKind.TheVariants as kind
use Rattle.vba_values.specs.Val.{Val, empty, whole}
use Rattle.bound_project.specs.Project.{Project}
use Rattle.vba_meaning.specs.Memory.{Ended, Faulted, Error, value, Frame, no_frame, opening}
use Rattle.vba_meaning.specs.References.{hold}
use Rattle.vba_meaning.specs.Effects.{Event, Printed, Raised, number_shown}
use Rattle.vba_meaning.specs.Meaning.{State, Res, Got, Failed, Over, Told, Turn, with_memory, catch, ◌>>=◌, Callee, exec, Doing, called_by, callees, given, settle, run_from, level, doing, meaning, Run, told_before, run_of}
use Rattle.meaning_rows.specs.Frames.{deep, asks, shows, calls_next, ends, told}

-- ---- the statements of R, with any frames below

abbrev state : List Frame → ℕ → State
state fs b = record { memory = record (opening (deep 0).declared []) { frames = fs }; begun = b }

-- the frame of R k
abbrev frame : Option ℕ → ℕ → Frame
frame at k = record no_frame { procedure = 1; statement = at; slots = value empty ∷ value (whole kind.Long (pos k)) ∷ [] }

abbrev said : ℕ → List Event
said k = Printed (number_shown (decimal k) ++ []) true ∷ []

abbrev too_many : Error
too_many = record { number = pos 28; source = None; description = None; procedure = 1; statement = Some 2 }

tests_other : (last : ℕ) (callee : Callee) (pr : Project) (k b : ℕ) (fs : List Frame) → k < last
    → exec (asks last) callee pr 1 0 1 (state (frame (Some 0) k ∷ fs) b) ≡ Got 2 (state (frame (Some 0) k ∷ fs) b)
tests_other last callee pr k b fs less = rw (eq-eqb (length fs) (length fs) refl, lt-ltb (k * 10000) (last * 10000) (omega arith))

tests_last : (last : ℕ) (callee : Callee) (pr : Project) (k b : ℕ) (fs : List Frame) → k ≡ last
    → exec (asks last) callee pr 1 0 1 (state (frame (Some 0) k ∷ fs) b) ≡ Got 1 (state (frame (Some 0) k ∷ fs) b)
tests_last last callee pr k b fs here = rw (here, eq-eqb (length fs) (length fs) refl, le-ltb (last * 10000) (last * 10000) (omega arith))

shows_last : (last : ℕ) (callee : Callee) (pr : Project) (k b : ℕ) (fs : List Frame) → k ≡ last
    → exec shows callee pr 1 1 3 (state (frame (Some 1) k ∷ fs) b) ≡ Told (said last) (Got 3 (state (frame (Some 1) k ∷ fs) b))
shows_last last callee pr k b fs here = rw (here, eq-eqb (length fs) (length fs) refl)

calls : (pr : Project) (d : Doing) (k b : ℕ) (fs : List Frame) → k < 2000
    → exec calls_next (callees pr d) pr 1 2 3 (state (frame (Some 2) k ∷ fs) b)
    ≡ (called_by pr d 1 empty (value (whole kind.Long (pos (k + 1))) ∷ []) (state (frame (Some 2) k ∷ fs) b) >>= λ r s. Got 3 s)
calls pr d k b fs less =
    let fits : nat_lt (k + 1) 2147483648 ≡ true = lt-ltb (k + 1) 2147483648 (omega arith) in
    rw (eq-eqb (length fs) (length fs) refl, fits, fits)

-- ---- runs

-- what follows a call in the statement that calls, and an error of it
abbrev back : {A : Type 0} → Project → Doing → (procedure following : ℕ) → (Val → State → Res A) → (Error → State → Res A) → Val → State → Res A
back pr d p to f g w s = catch (settle pr d p (given w s >>= λ r s1. Got to s1)) f g

abbrev fails : {A : Type 0} → Project → Doing → (procedure : ℕ) → (Val → State → Res A) → (Error → State → Res A) → Error → State → Res A
fails pr d p f g err s = catch (settle pr d p (Failed err s)) f g

-- what a call gives goes through the statement that calls
through : {A : Type 0} (pr : Project) (d : Doing) (p to : ℕ) (f : Val → State → Res A) (g : Error → State → Res A) (r : Res Val)
    → catch (settle pr d p ((r >>= λ w s. given w s) >>= λ x s. Got to s)) f g ≡ catch r (back pr d p to f g) (fails pr d p f g)
through pr d p to f g (Got w s) = refl
through pr d p to f g (Failed err s) = refl
through pr d p to f g (Over w s) = refl
through pr d p to f g (Told es r) = ap (Told es) (through pr d p to f g r)
through pr d p to f g (Turn s r) = ap (Turn s) (through pr d p to f g r)

three_turns : {A : Type 0} (bound b : ℕ) (x y z : List Frame) (r : Res A) → b + 3 ≤ bound → run_of bound (Turn (state x b) (Turn (state y (b + 1)) (Turn (state z (b + 1 + 1)) r))) ≡ run_of bound r
three_turns bound b x y z r good = rw (lt-ltb b bound (omega arith), lt-ltb (b + 1) bound (omega arith), lt-ltb (b + 1 + 1) bound (omega arith))

-- how deep statements are in which R is called, and how many turns were begun when the last R prints
abbrev within : (calls spare : ℕ) → ℕ
within zero spare = suc (suc spare)
within (suc j) spare = suc (suc (within j spare))

abbrev after : (calls begun : ℕ) → ℕ
after zero b = b + 1 + 1
after (suc j) b = after j (b + 1 + 1 + 1)

-- an error of a call is there, and the frames below hold nothing that it gave
abbrev below : List Frame → ℕ → State
below fs b = with_memory (state fs b) (hold empty (state fs b).memory)

module _ (last bound : ℕ) where
  abbrev pr : Project
  pr = deep last

  -- R k runs, and what follows
  abbrev r_runs : {A : Type 0} → Doing → (k begun : ℕ) → List Frame → (Val → State → Res A) → (Error → State → Res A) → Run
  r_runs d k b fs f g = run_of bound (catch (run_from pr d 1 0 (state (frame None k ∷ fs) b)) f g)

  -- R k calls R (k + 1) in its third turn
  deeper : {A : Type 0} (d : Doing) (k b : ℕ) (fs : List Frame) (f : Val → State → Res A) (g : Error → State → Res A) → k < last → length fs ≡ k → suc k < 2000 → b + 3 ≤ bound
      → r_runs (level pr (level pr d)) k b fs f g ≡ r_runs d (k + 1) (b + 1 + 1 + 1) (frame (Some 2) k ∷ fs) (back pr (level pr d) 1 3 f g) (fails pr (level pr d) 1 f g)
  deeper d k b fs f g less high room good =
      let inner = level pr d in
      let above = frame None (k + 1) ∷ frame (Some 2) k ∷ fs in
      let r = run_from pr d 1 0 (state above (b + 1 + 1 + 1)) in
      let called : exec calls_next (callees pr inner) pr 1 2 3 (state (frame (Some 2) k ∷ fs) (b + 1 + 1)) ≡ Turn (state above (b + 1 + 1)) ((r >>= λ w s. given w s) >>= λ x s. Got 3 s)
      = calls pr inner k (b + 1 + 1) fs (omega arith) ∙ rw (lt-ltb (suc (length fs)) 2000 (omega arith)) in
      ap (λ (x : Res ℕ). run_of bound (catch (Turn (state (frame None k ∷ fs) b) (settle pr (level pr inner) 1 x)) f g)) (tests_other last (callees pr (level pr inner)) pr k (b + 1) fs less) ∙
      ap (λ (x : Res ℕ). run_of bound (catch (Turn (state (frame None k ∷ fs) b) (Turn (state (frame (Some 0) k ∷ fs) (b + 1)) (settle pr inner 1 x))) f g)) called ∙
      three_turns bound b (frame None k ∷ fs) (frame (Some 0) k ∷ fs) above (catch (settle pr inner 1 ((r >>= λ w s. given w s) >>= λ x s. Got 3 s)) f g) good ∙
      ap (λ x. run_of bound x) (through pr inner 1 3 f g r)

  -- R k prints the last number, which is so many calls away, and ends
  prints : {A : Type 0} (spare j k b : ℕ) (fs : List Frame) (f : Val → State → Res A) (g : Error → State → Res A) → k + j ≡ last → length fs ≡ k → last < 2000 → b + 3 * j + 2 ≤ bound
      → r_runs (doing pr (within j spare)) k b fs f g ≡ told_before (said last) (run_of bound (f empty (state fs (after j b))))
  prints spare zero k b fs f g at high few good =
      let inner = level pr (doing pr spare) in
      let s0 = state (frame None k ∷ fs) b in
      let s1 = state (frame (Some 0) k ∷ fs) (b + 1) in
      let end = Told (said last) (f empty (state fs (b + 1 + 1))) in
      let two_turns : run_of bound (Turn s0 (Turn s1 end)) ≡ run_of bound end = rw (lt-ltb b bound (omega arith), lt-ltb (b + 1) bound (omega arith)) in
      ap (λ (x : Res ℕ). run_of bound (catch (Turn s0 (settle pr (level pr inner) 1 x)) f g)) (tests_last last (callees pr (level pr inner)) pr k (b + 1) fs (omega arith)) ∙
      ap (λ (x : Res ℕ). run_of bound (catch (Turn s0 (Turn s1 (settle pr inner 1 x))) f g)) (shows_last last (callees pr inner) pr k (b + 1 + 1) fs (omega arith)) ∙ two_turns
  prints spare (suc j) k b fs f g at high few good =
      let d = doing pr (within j spare) in
      deeper d k b fs f g (omega arith) high (omega arith) (omega arith) ∙
      prints spare j (k + 1) (b + 1 + 1 + 1) (frame (Some 2) k ∷ fs) (back pr (level pr d) 1 3 f g) (fails pr (level pr d) 1 f g) (omega arith) (omega arith) few (omega arith)

  -- R k fails where the last frame that there may be is so many calls away
  overflows : {A : Type 0} (spare j k b : ℕ) (fs : List Frame) (f : Val → State → Res A) (g : Error → State → Res A) → k + j ≡ 1999 → length fs ≡ k → 2000 ≤ last → b + 3 * j + 3 ≤ bound
      → r_runs (doing pr (within j spare)) k b fs f g ≡ told_before (Raised (pos 28) ∷ []) (run_of bound (g too_many (below fs (after j b + 1))))
  overflows spare zero k b fs f g at high many good =
      let inner = level pr (doing pr spare) in
      let here = frame (Some 2) k ∷ fs in
      let refused : exec calls_next (callees pr inner) pr 1 2 3 (state here (b + 1 + 1)) ≡ Turn (state here (b + 1 + 1)) (Told (Raised (pos 28) ∷ []) (Failed too_many (state here (b + 1 + 1 + 1))))
      = calls pr inner k (b + 1 + 1) fs (omega arith) ∙ rw (le-ltb (suc (length fs)) 2000 (omega arith)) in
      ap (λ (x : Res ℕ). run_of bound (catch (Turn (state (frame None k ∷ fs) b) (settle pr (level pr inner) 1 x)) f g)) (tests_other last (callees pr (level pr inner)) pr k (b + 1) fs (omega arith)) ∙
      ap (λ (x : Res ℕ). run_of bound (catch (Turn (state (frame None k ∷ fs) b) (Turn (state (frame (Some 0) k ∷ fs) (b + 1)) (settle pr inner 1 x))) f g)) refused ∙
      three_turns bound b (frame None k ∷ fs) (frame (Some 0) k ∷ fs) here (Told (Raised (pos 28) ∷ []) (g too_many (below fs (b + 1 + 1 + 1)))) (omega arith)
  overflows spare (suc j) k b fs f g at high many good =
      let d = doing pr (within j spare) in
      deeper d k b fs f g (omega arith) high (omega arith) (omega arith) ∙
      overflows spare j (k + 1) (b + 1 + 1 + 1) (frame (Some 2) k ∷ fs) (back pr (level pr d) 1 3 f g) (fails pr (level pr d) 1 f g) (omega arith) (omega arith) many (omega arith)

-- Main calls R 1, and the run ends
abbrev main_frame : Option ℕ → Frame
main_frame at = record no_frame { called = false; statement = at; slots = value empty ∷ [] }

abbrev main_back : ℕ → ℕ → Val → State → Res (Unit {0})
main_back last x = back (deep last) (level (deep last) (doing (deep last) x)) 0 1 (λ w s. Got tt s) (λ err s. Failed err s)

abbrev main_fails : ℕ → ℕ → Error → State → Res (Unit {0})
main_fails last x = fails (deep last) (level (deep last) (doing (deep last) x)) 0 (λ w s. Got tt s) (λ err s. Failed err s)

begins : (last x bound : ℕ) → bound ≡ suc (suc x) → 3 ≤ bound → meaning (deep last) [] bound ≡ r_runs last bound (doing (deep last) x) 1 3 (main_frame (Some 0) ∷ []) (main_back last x) (main_fails last x)
begins last x bound deep_in good =
    let inner = level (deep last) (doing (deep last) x) in
    let closes : Val → State → Res (Unit {0}) = λ w s. Got tt s in
    let passes : Error → State → Res (Unit {0}) = λ err s. Failed err s in
    let above = frame None 1 ∷ main_frame (Some 0) ∷ [] in
    let r = run_from (deep last) (doing (deep last) x) 1 0 (state above 3) in
    let called = catch (settle (deep last) inner 0 ((r >>= λ w s. given w s) >>= λ y s. Got 1 s)) closes passes in
    subst (λ (i : ℕ). meaning (deep last) [] i ≡ r_runs last i (doing (deep last) x) 1 3 (main_frame (Some 0) ∷ []) (main_back last x) (main_fails last x)) (sym deep_in)
    (three_turns (suc (suc x)) 0 (main_frame None ∷ []) (main_frame None ∷ []) above called (omega arith) ∙ ap (λ y. run_of (suc (suc x)) y) (through (deep last) inner 0 1 closes passes r))

-- a run that is long enough prints the last number where so many frames may stand
deep_prints : (last bound j spare : ℕ) → suc j ≡ last → last < 2000 → bound ≡ suc (suc (within j spare)) → 3 * last + 2 ≤ bound → told (deep last) bound ≡ (Ended, said last)
deep_prints last bound j spare at few deep_in enough =
    let x = within j spare in
    ap ends (begins last x bound deep_in (omega arith) ∙ prints last bound spare j 1 3 (main_frame (Some 0) ∷ []) (main_back last x) (main_fails last x) (omega arith) refl few (omega arith))

-- and raises 28 where they may not
deep_overflows : (last bound j spare : ℕ) → suc j ≡ 1999 → 2000 ≤ last → bound ≡ suc (suc (within j spare)) → 6000 ≤ bound → told (deep last) bound ≡ (Faulted too_many, Raised (pos 28) ∷ [])
deep_overflows last bound j spare at many deep_in enough =
    let x = within j spare in
    ap ends (begins last x bound deep_in (omega arith) ∙ overflows last bound spare j 1 3 (main_frame (Some 0) ∷ []) (main_back last x) (main_fails last x) (omega arith) refl many (omega arith))

pub deep_enough : told (deep 1999) 10000 ≡ (Ended, Printed (codes " 1999 ") true ∷ [])
unfolding digits
deep_enough = deep_prints 1999 10000 1998 6000 refl (omega arith) refl (omega arith)

-- With 2000 in place of 1999: one frame more than there may be, so 28 is raised at the statement that calls
pub too_deep : told (deep 2000) 10000 ≡ (Faulted too_many, Raised (pos 28) ∷ [])
too_deep = deep_overflows 2000 10000 1998 6000 refl (omega arith) refl (omega arith)
