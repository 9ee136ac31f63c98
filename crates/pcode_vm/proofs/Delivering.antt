-- A raise goes on to the next link that has a handler.
use Rattle.std.proofs.Common.{◌≡◌, ℕ, List, [], ◌∷◌, Bool, true, false, Option, Some, None, refl, sym, ap, ◌∙◌}
use Rattle.std.specs.Prelude.{if◌then◌else◌, length, nat_lt, option_map, reverse}
use Rattle.std.proofs.lemmas.List.{reverse-reverse}
use Rattle.vba_values.specs.declared.object.ObjId.{ObjId}
use Rattle.vba_values.specs.declared.object.ObjRef.TheVariants.{Heap}
use Rattle.vba_values.specs.Val.{Val, object}
use Rattle.vba_events.specs.declared.linked.Linked.{Linked}
use Rattle.sheet_host.specs.declared.area.Area.{Area}
use Rattle.vba_meaning.specs.Memory.{Slot, error_here}
use Rattle.vba_meaning.specs.Meaning.{State, with_memory}
use Rattle.vba_meaning.specs.Events.{due, lent_again, raise_over}
use Rattle.run_events.specs.Sought.{due_from, or_next}
use Rattle.pcode.specs.Instructions.{Code}
use Rattle.pcode.specs.Machine.{Back, Delivering, Move, Goes, at, calls_handler, delivers, enters, raised, tells_change}
use Rattle.pcode_vm.specs.Events.{handles}

-- what comes of the links
abbrev by_found : Code → (event : ℕ) → List Slot → Option ((ObjId × ℕ) × List Linked) → ℕ → List Slot → List Back → State → Move
by_found code e xs None pc st bs s = Goes (at pc st bs (with_memory s (raise_over xs s.memory)))
by_found code e xs (Some f) pc st bs s = handles code e xs f.0.0 f.1 f.0.1 pc st bs s

module _ (code : Code) (e : ℕ) (xs : List Slot) (pc : ℕ) (st : List Slot) (bs : List Back) (s : State) where
  delivers_by : (ls : List Linked) → delivers code e xs ls pc st bs s ≡ by_found code e xs (due_from code.declared e ls s.memory) pc st bs s
  delivers_by [] = refl
  delivers_by (l ∷ ls) = at_due (due code.declared e l s.memory) (delivers_by ls) where
    at_due : (o : Option ℕ) → delivers code e xs ls pc st bs s ≡ by_found code e xs (due_from code.declared e ls s.memory) pc st bs s
        → calls_handler code e xs l ls o pc st bs s (delivers code e xs ls pc st bs s)
        ≡ by_found code e xs (or_next (option_map (λ (p : ℕ). ((l.sink, p), ls)) o) (due_from code.declared e ls s.memory)) pc st bs s
    at_due None h = h
    at_due (Some p) h = refl

  -- none has one: the raise is over
  pub delivered : (ls : List Linked) → due_from code.declared e ls s.memory ≡ None → delivers code e xs ls pc st bs s ≡ Goes (at pc st bs (with_memory s (raise_over xs s.memory)))
  delivered ls h = delivers_by ls ∙ ap (λ o. by_found code e xs o pc st bs s) h

  -- its handler is called
  pub handled : (ls ks : List Linked) (o : ObjId) (p : ℕ) → due_from code.declared e ls s.memory ≡ Some ((o, p), ks) → delivers code e xs ls pc st bs s ≡ handles code e xs o ks p pc st bs s
  handled ls ks o p h = delivers_by ls ∙ ap (λ f. by_found code e xs f pc st bs s) h

module _ (code : Code) (e : ℕ) (xs : List Slot) (o : ObjId) (ls : List Linked) (p pc : ℕ) (st : List Slot) (bs : List Back) (s s1 : State) where
  -- there is no room for a handler
  pub handles_full : s1 ≡ with_memory s (lent_again xs s.memory) → nat_lt (length s1.memory.frames) 2000 ≡ false → handles code e xs o ls p pc st bs s ≡ raised (error_here 28 s1.memory) bs s1
  handles_full f h = by_state s1 f h where
    by_room : (r : Bool) (x y : Move) → r ≡ false → (if r then x else y) ≡ y
    by_room true x y e = absurd cc
    by_room false x y e = refl

    by_state : (t : State) → t ≡ with_memory s (lent_again xs s.memory) → nat_lt (length t.memory.frames) 2000 ≡ false → handles code e xs o ls p pc st bs s ≡ raised (error_here 28 t.memory) bs t
    by_state t g k =
        by_room (nat_lt (length (with_memory s (lent_again xs s.memory)).memory.frames) 2000) _ _ (ap (λ (u : State). nat_lt (length u.memory.frames) 2000) (sym g) ∙ k)
        ∙ ap (λ (u : State). raised (error_here 28 u.memory) bs u) (sym g)

  -- there is
  pub handles_entered : (b : Back) (bs' : List Back) (me : Val) (ys : List Slot) (s2 : State) → s1 ≡ with_memory s (lent_again xs s.memory) → nat_lt (length s1.memory.frames) 2000 ≡ true
      → me ≡ object (Heap o) → ys ≡ xs → b ≡ Delivering e xs ls pc st → bs' ≡ bs → s2 ≡ s1 → handles code e xs o ls p pc st bs s ≡ enters code true p me ys (b ∷ bs') s2
  handles_entered b bs' me ys s2 f h d g k i j = rw (d, g, k, i, j, f) (by_room (nat_lt (length (with_memory s (lent_again xs s.memory)).memory.frames) 2000) (ap (λ (t : State). nat_lt (length t.memory.frames) 2000) (sym f) ∙ h)) where
    by_room : (r : Bool) → r ≡ true
        → (if r then enters code true p (object (Heap o)) xs (Delivering e xs ls pc st ∷ bs) (with_memory s (lent_again xs s.memory)) else raised (error_here 28 (lent_again xs s.memory)) bs (with_memory s (lent_again xs s.memory)))
        ≡ enters code true p (object (Heap o)) xs (Delivering e xs ls pc st ∷ bs) (with_memory s (lent_again xs s.memory))
    by_room true e = refl
    by_room false e = absurd cc

-- nothing is to be told
pub none_changed : (code : Code) (a : Option Area) (pc : ℕ) (st : List Slot) (bs : List Back) (s : State) → a ≡ None → tells_change code a pc st bs s ≡ Goes (at pc st bs s)
none_changed code a pc st bs s h = rw h refl

-- links that were turned round
pub turned_round : (ls ks : List Linked) → ks ≡ reverse ls → reverse ks ≡ ls
turned_round ls ks h = ap (λ (l : List Linked). reverse l) h ∙ reverse-reverse ls
