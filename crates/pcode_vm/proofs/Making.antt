-- Objects that are made, told and initialized.
use Rattle.std.proofs.Common.{◌≡◌, ℕ, zero, suc, List, [], ◌∷◌, ◌++◌, refl, sym, ap, ◌∙◌, append-nil}
use Rattle.std.specs.Prelude.{Option, Some, None}
use Rattle.vba_values.specs.declared.object.ObjRef.{ObjRef}
use Rattle.vba_values.specs.declared.object.ObjRef.TheVariants.{Nothing, Heap, Host}
use Rattle.vba_values.specs.Val.{Val}
use Rattle.bound_project.specs.Project.{class_at}
use Rattle.vba_meaning.specs.Paths.{Path}
use Rattle.vba_meaning.specs.Memory.{Memory, Slot, value, value_at}
use Rattle.vba_meaning.specs.Meaning.{State, with_memory}
use Rattle.vba_meaning.specs.Effects.{Event, Init, Effect, Fine}
use Rattle.vba_meaning.specs.Objects.{initialize_of, made, made_for, told_made}
use Rattle.run_memory.specs.Looks.{object_here}
use Rattle.run_objects.specs.Made.{makes_there}
use Rattle.run_objects.proofs.Making.{made_for_is, made_or}
use Rattle.pcode.specs.Instructions.{Code}
use Rattle.pcode.specs.Machine.{Back, Move, Config, Fin, tells, follow, done_then, initializes, calls}
use Rattle.pcode_vm.specs.Made.{made_events, makes_if}
use Rattle.pcode_vm.proofs.Tellings.{tells_joined}

-- ---- what is told

pub none_told : (c n : ℕ) (es : List Event) → c ≡ 0 → es ++ made_events c n ≡ es
none_told c n es e = rw e (append-nil es)

pub one_told : (c n : ℕ) → (c ≡ 0 → ⊥) → made_events c n ≡ Init c n ∷ []
one_told zero n h = absurd (h refl)
one_told (suc c) n h = refl

-- an object is told before what comes behind
pub made_then : (bound c n : ℕ) (effect : Effect Val) (v : Val) (m : Memory) (bs : List Back) (s : State) (go : Val → State → Move) (old new : List Event) (more : Config → Fin)
    → effect ≡ told_made c n (Fine v m) → new ≡ old ++ made_events c n → tells old (follow bound (done_then effect bs s go) more) ≡ tells new (follow bound (go v (with_memory s m)) more)
made_then bound zero n effect v m bs s go old new more e f = rw (e, f) (ap (λ l. tells l (follow bound (go v (with_memory s m)) more)) (sym (append-nil old)))
made_then bound (suc c) n effect v m bs s go old new more e f = rw (e, f) (sym (tells_joined old (Init (suc c) n ∷ []) (follow bound (go v (with_memory s m)) more)))

-- ---- Class_Initialize

pub initialized_by : (code : Code) (o : Option ℕ) (p next : ℕ) (v me : Val) (xs st st' : List Slot) (bs bs' : List Back) (s s' : State)
    → o ≡ Some p → me ≡ v → xs ≡ [] → st' ≡ value v ∷ st → bs' ≡ bs → s' ≡ s → initializes code o v next st bs s ≡ calls code p me xs next st' bs' s'
initialized_by code o p next v me xs st st' bs bs' s s' e f g h i j = rw (e, f, g, h, i, j) refl

-- ---- places declared As New

made_by : (makes : Option ℕ) (o : Option ObjRef) (c : ℕ) → makes_there makes o ≡ Some c → makes ≡ Some c
made_by None o c e = absurd cc
made_by (Some d) None c e = absurd cc
made_by (Some d) (Some Nothing) c e = e
made_by (Some d) (Some (Heap id)) c e = absurd cc
made_by (Some d) (Some (Host r)) c e = absurd cc

-- what an object of a class is, whichever way its Class_Initialize is found
same_made : (code : Code) (q : Path) (c pc : ℕ) (st : List Slot) (bs : List Back) (s : State) → q.makes ≡ Some c
    → done_then (made code.declared c s.memory) bs s (λ v s1. initializes code (initialize_of code.declared q v) v pc st bs s1)
    ≡ done_then (made code.declared c s.memory) bs s (λ v s1. initializes code (class_at code.declared c).initialize v pc st bs s1)
same_made code q zero pc st bs s e = rw e refl
same_made code q (suc c) pc st bs s e = rw e refl

-- what a read makes first
pub made_where : (code : Code) (q : Path) (pc : ℕ) (st : List Slot) (bs : List Back) (s : State)
    → done_then (made_for code.declared q s.memory) bs s (λ v s1. initializes code (initialize_of code.declared q v) v pc st bs s1)
    ≡ makes_if code (makes_there q.makes (object_here (value_at s.memory q))) pc st bs s
made_where code q pc st bs s = by_class (makes_there q.makes (object_here (value_at s.memory q))) refl where
  by_class : (o : Option ℕ) → makes_there q.makes (object_here (value_at s.memory q)) ≡ o
      → done_then (made_for code.declared q s.memory) bs s (λ v s1. initializes code (initialize_of code.declared q v) v pc st bs s1) ≡ makes_if code o pc st bs s
  by_class None e =
      ap (λ (d : Effect Val). done_then d bs s (λ v s1. initializes code (initialize_of code.declared q v) v pc st bs s1))
      (made_for_is code.declared q s.memory ∙ ap (λ o. made_or code.declared o s.memory) e)
  by_class (Some c) e =
      ap (λ (d : Effect Val). done_then d bs s (λ v s1. initializes code (initialize_of code.declared q v) v pc st bs s1))
      (made_for_is code.declared q s.memory ∙ ap (λ o. made_or code.declared o s.memory) e)
      ∙ same_made code q c pc st bs s (made_by q.makes (object_here (value_at s.memory q)) c e)
