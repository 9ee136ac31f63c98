-- A run tells of each object that it was made and that it ends at most once, and ends with references that lead to objects
-- that are there.
use Rattle.std.proofs.Common.{◌≡◌, ℕ, zero, suc, ◌+◌, ◌≤◌, Bool, true, false, List, [], ◌∷◌, ◌++◌, Option, Some, None, refl, sym, ap, subst, arith, append_assoc, append-nil}
use Rattle.std.specs.Prelude.{◌==◌, nat_lt, slice_get, if◌then◌else◌}
use Rattle.sheet_host.specs.Books.{Sheets}
use Rattle.vba_values.specs.Val.{Val, empty}
use Rattle.bound_project.specs.Project.{Project, procedure_at}
use Rattle.vba_meaning.specs.Paths.{Path}
use Rattle.vba_meaning.specs.Memory.{path, Object, Memory, opening}
use Rattle.vba_meaning.specs.References.{times}
use Rattle.vba_meaning.specs.Effects.{Event, startup_slots}
use Rattle.bound_project.specs.Parameters.{parameters_of}
use Rattle.vba_meaning.specs.Meaning.{State, meaning}
use Rattle.pcode.specs.Instructions.{Instr, Push, Leave, KeepPath, Code}
use Rattle.pcode.specs.Layout.{code_of}
use Rattle.pcode.specs.Machine.{Config, Fin, Done, Unfinished, Stuck, tells, Move, Goes, Ends, Sticks, Tells, Turns, step, follow, machine, first_move, run_code}
use Rattle.simulation.proofs.Whole.{ends}
use Rattle.object_lives.specs.Once.{times_made, any_class, ToldOnce}
use Rattle.object_lives.proofs.Values.{none_in, Refers}
use Rattle.object_lives.proofs.Marks.{ready, not_below, Marked, marked_then}
use Rattle.object_lives.proofs.Firmness.{flag, passed}
use Rattle.object_lives.proofs.Held.{World, FirmBy, under}
use Rattle.object_lives.proofs.Near.{Present, roots_of, block_reach, Stays, Ready, none_there}
use Rattle.object_lives.proofs.Variables.{first_free}
use Rattle.object_lives.proofs.Uses.{Bare, left_slots}
use Rattle.object_lives.proofs.Places.{Over, Kept}
use Rattle.object_lives.proofs.Moves.{Fares, enters_good}
use Rattle.object_lives.proofs.Steps.{step_good}

-- before the first step nothing is referred to
opening_ready : {asks : Bool} (code : Code) (book : Sheets) → Ready asks (opening code.declared book)
opening_ready code book = record { live = λ o lt. absurd (omega (arith, ap (times o) (first_free code.declared code.declared.shared), lt)); ordered = tt; bare = tt; lent = tt }

none_present : {X : Type 0} (o : ℕ) → Present (None ∷ []) o → X
none_present zero h = absurd h
none_present (suc o) h = absurd h

-- the macro is called
pub first_fares : (Sure : World) (code : Code) (bare : Sure.sure → (p : ℕ) → Bare (parameters_of code.declared p)) (book : Sheets) → Fares Sure (None ∷ []) [] (first_move code book)
first_fares Sure code bare book =
    let s : State = record { memory = opening code.declared book; begun = 0 } in
    (enters_good Sure code bare false code.startup empty (startup_slots code.declared code.startup) [] s (λ x. under Sure.asks [] 0) (λ x. opening_ready code book) (λ x. none_there (None ∷ [])) (λ x. none_there (None ∷ []))
    (λ x. left_slots (under Sure.asks [] 0) (procedure_at code.declared code.startup).parameters (bare x code.startup)) (λ x. refl) (λ x. (refl, none_in (roots_of []))) (λ x o h. none_present o h) (λ x. (refl, refl, refl))).law

module _ (Sure : World) (code : Code) (bare : Sure.sure → (p : ℕ) → Bare (parameters_of code.declared p)) (plain : Sure.sure → (pc : ℕ) (v : Val) → slice_get code.instrs pc ≡ Some (Push v) → Refers [] v)
    (leaves : Sure.sure → (pc : ℕ) → slice_get code.instrs pc ≡ Some Leave → pc ≡ 0)
    (typed : Sure.sure → (pc : ℕ) (i : Instr) → slice_get code.instrs pc ≡ Some i → Sure.firm (pc + 1) ≡ passed i (Sure.firm pc))
    (keeps : Sure.sure → (pc i : ℕ) → slice_get code.instrs pc ≡ Some (KeepPath i) → (m : Memory) (q : Path) → FirmBy (flag (Sure.firm pc)) (block_reach Sure.asks m) (path q) → Stays Sure.asks m q) (bound : ℕ) where
  -- where a run has ended, behind these events
  abbrev pub EndGood : List (Option Object) → List Event → Fin → Type 0
  EndGood bs es (Done e s hs) = Marked bs (es ++ hs) s.memory.objects × (Sure.sure → Over Sure.asks s.memory)
  EndGood bs es Unfinished = Unit {0}
  EndGood bs es Stuck = Unit {0}

  end_behind : {bs cs : List (Option Object)} {es : List Event} → Marked bs es cs → (fin : Fin) → EndGood cs [] fin → EndGood bs es fin
  end_behind a (Done e s hs) h = (marked_then a h.0, h.1)
  end_behind a Unfinished h = tt
  end_behind a Stuck h = tt

  end_told : (bs : List (Option Object)) (es hs : List Event) (fin : Fin) → EndGood bs (es ++ hs) fin → EndGood bs es (tells hs fin)
  end_told bs es hs (Done e s more) h = (subst (λ ks. Marked bs ks s.memory.objects) (append_assoc es hs more) h.0, h.1)
  end_told bs es hs Unfinished h = tt
  end_told bs es hs Stuck h = tt

  nothing_more : {bs cs : List (Option Object)} (es : List Event) → Marked bs es cs → Marked bs (es ++ []) cs
  nothing_more {bs = bs} {cs = cs} es a = subst (λ ks. Marked bs ks cs) (sym (let is : es ++ [] ≡ es = simp append-nil in is)) a

  if_turn : (bs : List (Option Object)) (es : List Event) (x y : Fin) (b : Bool) → EndGood bs es x → EndGood bs es y → EndGood bs es (if b then x else y)
  if_turn bs es x y true h k = h
  if_turn bs es x y false h k = k

  follow_good : (k : ℕ) → ((c : Config) → (Sure.sure → Kept Sure c) → EndGood c.state.memory.objects [] (machine code bound k c)) → (bs : List (Option Object)) (es : List Event) (v : Move) → Fares Sure bs es v
      → EndGood bs es (follow bound v (machine code bound k))
  follow_good k more bs es (Goes c) h = end_behind h.0 (machine code bound k c) (more c h.1)
  follow_good k more bs es (Ends e s) h = (nothing_more es h.0, h.1)
  follow_good k more bs es Sticks h = tt
  follow_good k more bs es (Tells hs v) h = end_told bs es hs (follow bound v (machine code bound k)) (follow_good k more bs (es ++ hs) v h)
  follow_good k more bs es (Turns s v) h = if_turn bs es _ _ (nat_lt s.begun bound) (follow_good k more bs es v h.1) (nothing_more es h.0.0, h.0.1)

  machine_good : (k : ℕ) (c : Config) → (Sure.sure → Kept Sure c) → EndGood c.state.memory.objects [] (machine code bound k c)
  machine_good zero c h = tt
  machine_good (suc k) c h =
      follow_good k (machine_good k) c.state.memory.objects [] (step code c) (step_good Sure code bare plain leaves typed keeps c h).law

  pub run_good : (book : Sheets) (k : ℕ) → EndGood (None ∷ []) [] (run_code code book bound k)
  run_good book k = follow_good k (machine_good k) (None ∷ []) [] (first_move code book) (first_fares Sure code bare book)

-- ---- what is told

none_ready : (f : ℕ → Bool) (o : ℕ) → ready f o (None ∷ []) ≡ 0
none_ready f zero = refl
none_ready f (suc zero) = refl
none_ready f (suc (suc o)) = refl

at_most_one : (b : Bool) → not_below b ≤ 1
at_most_one true = omega arith
at_most_one false = omega arith

marked_once : (o : ℕ) (es : List Event) (cs : List (Option Object)) → Marked (None ∷ []) es cs → ToldOnce o es
marked_once o es cs m =
    let once : times_made any_class o es ≤ 1 = omega (arith, m.makes o, at_most_one (nat_lt o 1)) in
    record {
      made_once = once;
      ended_once = omega (arith, m.ends any_class o, none_ready any_class o, once);
      ended_as_made = λ class. omega (arith, m.ends (λ c. c == class) o, none_ready (λ c. c == class) o);
    }

-- nothing is known of a code
abbrev nothing_sure : World
nothing_sure = record { sure = ⊥; asks = false; firm = λ pc. [] }

pub told_once : (pr : Project) (book : Sheets) (turns number : ℕ) → ToldOnce number (meaning pr book turns).events
told_once pr book turns number =
    let code = code_of pr in
    let e = ends pr book turns in
    let end = run_good nothing_sure code (λ x. absurd x) (λ x. absurd x) (λ x. absurd x) (λ x. absurd x) (λ x. absurd x) turns book e.0 in
    marked_once number (meaning pr book turns).events (meaning pr book turns).state.memory.objects
    (subst (λ fin. EndGood nothing_sure code (λ x. absurd x) (λ x. absurd x) (λ x. absurd x) (λ x. absurd x) (λ x. absurd x) turns (None ∷ []) [] fin) e.1 end).0
