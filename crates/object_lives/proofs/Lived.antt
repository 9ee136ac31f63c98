-- Each reference that a run's memory has leads to an object that is there, at each step and at every ending, and an object
-- that is there is referred to.
use Rattle.std.proofs.Common.{◌≡◌, ℕ, zero, suc, ◌<◌, Bool, true, false, List, [], ◌∷◌, ◌++◌, Option, Some, None, refl, sym, ◌∙◌, subst, arith}
use Rattle.std.specs.Prelude.{◌==◌, nat_lt, slice_get, slice_index, slice_index_or, if◌then◌else◌}
use Rattle.std.proofs.lemmas.Bool.{eqb-true, eq-eqb}
use Rattle.sheet_host.specs.Books.{Sheets}
use Rattle.vba_values.specs.Val.{empty}
use Rattle.bound_project.specs.Project.{Project}
use Rattle.bound_project.specs.Whole.{IsWhole}
use Rattle.vba_meaning.specs.Memory.{Going, path, Memory, Object, opening, entered}
use Rattle.vba_meaning.specs.Paths.{Root, in_frame, in_project, in_fields, in_block, in_object, in_item, Path}
use Rattle.vba_meaning.specs.References.{times}
use Rattle.vba_meaning.specs.Effects.{Event, startup_slots}
use Rattle.vba_meaning.specs.Meaning.{State, turned, meaning}
use Rattle.pcode.specs.Instructions.{KeepPath, Code}
use Rattle.pcode.specs.Layout.{code_of}
use Rattle.pcode.specs.WellFormed.{WellFormed}
use Rattle.pcode.proofs.Sounds.{well_formed}
use Rattle.pcode.specs.Machine.{Config, Move, Goes, Ends, Sticks, Tells, Turns, at, step, first_move}
use Rattle.object_counts.specs.Counts.{count_of}
use Rattle.object_counts.specs.Counting.{counted_after, Outcome, Running, Finished, Jammed, telling, follow_counted, counting_machine, first_counts, run_counted}
use Rattle.object_counts.specs.Balance.{Balanced, Leads, BalancedAt}
use Rattle.object_counts.proofs.Whole.{step_counts, run_counts}
use Rattle.object_lives.specs.Referred.{AllReferred, AllButOneReferred, ReferredAt}
use Rattle.object_lives.specs.Lives.{IsThere, Alive, AllAlive, AliveAt, HasPlainDefaults}
use Rattle.object_lives.proofs.Firmness.{flag, firm_at, firm_next}
use Rattle.object_lives.proofs.Held.{World, Reach, Asked, FirmBy, StaysIn}
use Rattle.object_lives.proofs.Near.{Has, Present, block_reach, Stays, Ready}
use Rattle.object_lives.proofs.Places.{Tight, Over, Kept}
use Rattle.object_lives.proofs.Moves.{Fares}
use Rattle.object_lives.proofs.Steps.{step_good}
use Rattle.object_lives.proofs.Told.{first_fares}
use Rattle.object_lives.proofs.Plain.{plain_code, leave_first, plain_defaults}
use Rattle.object_lives.proofs.Meant.{counts_mean}

is_there : (m : Memory) (o : ℕ) → Present m.objects o → IsThere m o
is_there m o h = by_object (slice_index_or m.objects o None) refl h where
  by_object : (x : Option Object) → slice_index_or m.objects o None ≡ x → Has x → IsThere m o
  by_object None e k = absurd k
  by_object (Some b) e k = (b, e)

alive_of : {asks : Bool} (m : Memory) → Ready asks m → Alive m
alive_of m r = record { leads = λ o lt. is_there m o (r.live o lt) }

all_alive : {asks : Bool} {counts : List ℕ} {m : Memory} → Balanced counts m → Ready asks m → AllAlive counts m
all_alive {m = m} b r = record { alive = alive_of m r; counted = λ o lt. is_there m o (r.live o (omega (arith, b.right o, lt))) }

-- the object of a number that is there is so in the list of objects
there_present : (m : Memory) (o : ℕ) → IsThere m o → Present m.objects o
there_present m o h = subst (λ x. Has x) (sym h.1) tt

all_referred : {counts : List ℕ} {m : Memory} → Balanced counts m → Tight m → AllReferred counts m
all_referred {m = m} b t = record { ended = λ o z h. absurd (omega (arith, b.right o, z, t.referred o (there_present m o h))) }

one_ends : {asks : Bool} {counts : List ℕ} {m : Memory} → Balanced counts m → Over asks m → AllButOneReferred counts m
one_ends {counts = counts} {m = m} b v = record { ending = v.lost; ended = λ o z h. by_test o z h (o == v.lost) refl } where
  by_test : (o : ℕ) → count_of counts o ≡ 0 → IsThere m o → (t : Bool) → (o == v.lost) ≡ t → o ≡ v.lost
  by_test o z h true e = eqb-true o v.lost e
  by_test o z h false e =
      absurd (omega (arith, b.right o, z, v.nearly.others o (there_present m o h) (λ same. absurd (let no : true ≡ false = sym (eq-eqb o v.lost same) ∙ e in cc))))

-- ---- at each step

-- what is known of a run of a code
abbrev pub world : Bool → Code → World
world asks code = record { sure = Unit {0}; asks = asks; firm = λ pc. firm_at code.instrs [] pc }

abbrev pub HoldsAt : Bool → Code → Outcome → Type 0
HoldsAt asks code (Running counts c) = Balanced counts c.state.memory × Kept (world asks code) c
HoldsAt asks code (Finished counts e s es) = Balanced counts s.memory × Over asks s.memory
HoldsAt asks code Jammed = Unit {0}

told_holds : (asks : Bool) (code : Code) (es : List Event) (r : Outcome) → HoldsAt asks code r → HoldsAt asks code (telling es r)
told_holds asks code es (Running counts c) h = h
told_holds asks code es (Finished counts e s more) h = h
told_holds asks code es Jammed h = h

-- the places that blocks keep stay as long as their frames, where that is asked
abbrev pub KeepsFirm : Bool → Code → Type 0
KeepsFirm asks code = (pc i : ℕ) → slice_get code.instrs pc ≡ Some (KeepPath i) → (m : Memory) (q : Path) → FirmBy (flag (firm_at code.instrs [] pc)) (block_reach asks m) (path q) → Stays asks m q

module _ (asks : Bool) (code : Code) (w : WellFormed code) (d : HasPlainDefaults code.declared) (keeps : KeepsFirm asks code) (bound : ℕ) where
  abbrev Follows : ℕ → Type 0
  Follows k = (counts : List ℕ) (c : Config) → Balanced counts c.state.memory → Kept (world asks code) c → HoldsAt asks code (counting_machine code bound k counts c)

  follow_holds : (k : ℕ) → Follows k → (counts : List ℕ) (bs : List (Option Object)) (es : List Event) (v : Move) → Leads bound (Balanced counts) v → Fares (world asks code) bs es v
      → HoldsAt asks code (follow_counted bound counts v (counting_machine code bound k))
  follow_holds k more counts bs es (Goes c) b h = more counts c b (h.1 tt)
  follow_holds k more counts bs es (Ends e s) b h = (b, h.1 tt)
  follow_holds k more counts bs es Sticks b h = tt
  follow_holds k more counts bs es (Tells hs v) b h = told_holds asks code hs (follow_counted bound counts v (counting_machine code bound k)) (follow_holds k more counts bs (es ++ hs) v b h)
  follow_holds k more counts bs es (Turns s v) b h = by_turn (nat_lt s.begun bound) refl (λ e. follow_holds k more counts bs es v (b.1 e) h.1) where
    by_turn : (t : Bool) → nat_lt s.begun bound ≡ t → (nat_lt s.begun bound ≡ true → HoldsAt asks code (follow_counted bound counts v (counting_machine code bound k)))
        → HoldsAt asks code (if t then follow_counted bound counts v (counting_machine code bound k) else Finished counts Going s [])
    by_turn true e goes = goes e
    by_turn false e goes = (b.0 e, h.0.1 tt)

  follows : (k : ℕ) → Follows k
  follows zero counts c b h = (b, h)
  follows (suc k) counts c b h =
      let counted = step_counts code bound counts c b in
      let after : List ℕ = counted_after code bound counts c in
      subst (λ v. HoldsAt asks code (follow_counted bound after v (counting_machine code bound k))) (sym counted.same)
      (follow_holds k (follows k) after c.state.memory.objects [] (step code c) counted.balanced
      (step_good (world asks code) code (λ x. plain_defaults code.declared d) (λ x. plain_code code w) (λ x. leave_first code w) (λ x. firm_next code.instrs []) (λ x. keeps) c (λ x. h)).law)

  -- the macro is called, and the counts are right then
  first_balanced : (book : Sheets) → Balanced (first_counts code) (entered code.declared false code.startup empty (startup_slots code.declared code.startup) (opening code.declared book))
  first_balanced book = by_turn (nat_lt 0 bound) (run_counts code bound book 0).balanced where
    s : State
    s = record { memory = entered code.declared false code.startup empty (startup_slots code.declared code.startup) (opening code.declared book); begun = 0 }

    by_turn : (t : Bool) → BalancedAt (if t then Running (first_counts code) (at (slice_index code.starts code.startup) [] [] (turned s)) else Finished (first_counts code) Going s []) → Balanced (first_counts code) s.memory
    by_turn true h = h
    by_turn false h = h

  pub run_holds : (book : Sheets) (k : ℕ) → HoldsAt asks code (run_counted code book bound k)
  run_holds book k =
      let b = first_balanced book in
      follow_holds k (follows k) (first_counts code) (None ∷ []) [] (first_move code book) (λ e. b, λ e. b)
      (first_fares (world asks code) code (λ x. plain_defaults code.declared d) book)

-- ---- references, wherever paths lead

stays_anyhow : (hs : Reach) (r : Root) → hs.asks ≡ false → StaysIn hs r
stays_anyhow hs (in_fields o i) e = subst (λ b. Asked b (0 < times o hs.roots)) (sym e) tt
stays_anyhow hs (in_frame k x) e = tt
stays_anyhow hs (in_project x) e = tt
stays_anyhow hs (in_block k i) e = tt
stays_anyhow hs (in_object o) e = tt
stays_anyhow hs (in_item v) e = tt

keeps_anyhow : (code : Code) → KeepsFirm false code
keeps_anyhow code pc i is m q f = stays_anyhow (block_reach false m) q.root refl

outcome_alive : (code : Code) (r : Outcome) → HoldsAt false code r → AliveAt r
outcome_alive code (Running counts c) h = all_alive h.0 h.1.ready
outcome_alive code (Finished counts e s es) h = all_alive h.0 h.1.ready
outcome_alive code Jammed h = tt

outcome_referred : (code : Code) (r : Outcome) → HoldsAt false code r → ReferredAt r
outcome_referred code (Running counts c) h = all_referred h.0 h.1.tight
outcome_referred code (Finished counts e s es) h = one_ends h.0 h.1
outcome_referred code Jammed h = tt

module _ (code : Code) (w : WellFormed code) (d : HasPlainDefaults code.declared) (bound : ℕ) where
  pub run_alive : (book : Sheets) (k : ℕ) → AliveAt (run_counted code book bound k)
  run_alive book k = outcome_alive code (run_counted code book bound k) (run_holds false code w d (keeps_anyhow code) bound book k)

  pub run_referred : (book : Sheets) (k : ℕ) → ReferredAt (run_counted code book bound k)
  run_referred book k = outcome_referred code (run_counted code book bound k) (run_holds false code w d (keeps_anyhow code) bound book k)

-- and so at the end of what a project means
pub meant_alive : (pr : Project) (book : Sheets) (turns : ℕ) → IsWhole pr → HasPlainDefaults pr.declared → Alive (meaning pr book turns).state.memory
meant_alive pr book turns whole d =
    let e = (counts_mean pr book turns).ends in
    let end = e.1 in
    (subst (λ r. AliveAt r) end.ended (run_alive (code_of pr) (well_formed pr whole) d turns book e.0)).alive
