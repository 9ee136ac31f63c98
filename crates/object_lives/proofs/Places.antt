-- What frames that stand need: the operands that wait there, what is still to be done with what is called, and that nothing
-- is left in a frame that is left.
use Rattle.std.proofs.Common.{◌≡◌, ℕ, ◌<◌, Bool, true, false, List, [], ◌∷◌, length, refl, sym, ap, ◌∙◌, subst, arith}
use Rattle.std.specs.Prelude.{slice_get, if◌then◌else◌}
use Rattle.vba_values.specs.declared.object.ObjRef.TheVariants.{Heap}
use Rattle.vba_values.specs.Val.{Val, object}
use Rattle.vba_meaning.specs.Memory.{Slot, value_in, value_or_empty, Memory, Frame, first_or, rest, top, calling}
use Rattle.vba_meaning.specs.References.{objects_in, objects_in_values, times, looks}
use Rattle.pcode.specs.Machine.{After, Goes-on, Decide, Return, Back-to, Pass, Close, Mode, At, Failing, Letting, pushed, Back, Caller, EndOf, Within, Delivering, Config}
use Rattle.object_counts.proofs.Looks.{in_one}
use Rattle.object_lives.proofs.Firmness.{pads}
use Rattle.object_lives.proofs.Held.{World, Reach, FirmBy, Firm, SlotIn, Slots, Tasks, slots_more}
use Rattle.object_lives.proofs.Near.{Present, decided, calleds, floor_of, floor_frames, each_called, low_of, low, reach_of, reach, stay_reach, block_reach, like_stay, near_block, Like, like_same, like_reach, like_under, Near, near_ready, wider, top_live, Ready}

-- ---- frames that are left

-- what a call hands on
abbrev pub result_in : Frame → Val
result_in f = value_or_empty (value_in (slice_get f.slots 0))

abbrev pub kept_back : Frame → List ℕ
kept_back f = if f.called then objects_in (result_in f) else objects_in f.me

-- nothing is left in a frame but its result, or the object of a Class_Terminate
pub record Spent (f : Frame) : Type 0 where
  pub left : (o : ℕ) → in_one o f ≡ times o (kept_back f)

abbrev pub AfterSpent : After → Frame → Type 0
AfterSpent Return f = Spent f
AfterSpent (Pass e) f = Spent f
AfterSpent after f = Unit {0}

-- the operands that wait are held, some of them stay, and the statement goes on behind its beginning
abbrev pub AfterIn : World → (held stay : Reach) → After → Type 0
AfterIn Sure hs ks (Back-to pc st) = (0 < pc) × Slots hs st × Firm ks (Sure.firm pc) st
AfterIn Sure hs ks after = Unit {0}

-- what references are let go for: in the first frame, over the calls that stand there, or at the end of the run. A statement
-- that is over lends nothing
abbrev pub RestBy : World → After → (calls : Type 0) → List Frame → List Back → Type 0
RestBy Sure (Close vs g) c fs bs = (fs ≡ []) × (bs ≡ []) × (objects_in_values vs ≡ [])
RestBy Sure (Goes-on pc) c fs bs = c × ((first_or fs).pending ≡ [])
RestBy Sure (Decide e) c fs bs = c × ((first_or fs).pending ≡ [])
RestBy Sure after c fs bs = c × AfterSpent after (first_or fs) × AfterIn Sure (reach_of Sure.asks fs) (stay_reach Sure.asks fs) after

-- ---- calls

-- a frame returns to one that holds these, below what a call gives
abbrev pub BackIn : World → (held stay : Reach) → Back → Type 0
BackIn Sure hs ks (Caller ret st) = (0 < ret) × Slots hs st × Firm ks (rest (Sure.firm ret)) st
BackIn Sure hs ks (EndOf o k after) = Unit {0}
BackIn Sure hs ks (Within b k ts pc st) = (0 < pc) × Tasks hs ts × Slots hs st × Firm ks (rest (Sure.firm pc)) st
BackIn Sure hs ks (Delivering e xs ls ret st) = (0 < ret) × Slots hs xs × Slots hs st × Firm ks (Sure.firm ret) st

-- the first of these frames does
abbrev pub ReturnsIn : World → List Frame → Back → Type 0
ReturnsIn Sure fs b = BackIn Sure (reach_of Sure.asks fs) (stay_reach Sure.asks fs) b

-- it was called by code
abbrev pub IsCall : Back → Type 0
IsCall (Caller ret st) = Unit {0}
IsCall (EndOf o k after) = ⊥
IsCall (Within b k ts pc st) = Unit {0}
IsCall (Delivering e xs ls ret st) = Unit {0}

-- a frame over others, and what it returns to
abbrev pub CallBy : World → Frame → List Frame → List Back → Back → (calls : Type 0) → Type 0
CallBy Sure f fs bs (EndOf o k after) c = (f.called ≡ false) × (f.me ≡ object (Heap (record { 0 = o }))) × RestBy Sure after c fs bs
CallBy Sure f fs bs (Caller ret st) c = (f.called ≡ true) × ReturnsIn Sure fs (Caller ret st) × c
CallBy Sure f fs bs (Within b k ts pc st) c = (f.called ≡ true) × ReturnsIn Sure fs (Within b k ts pc st) × c
CallBy Sure f fs bs (Delivering e xs ls ret st) c = (f.called ≡ true) × ReturnsIn Sure fs (Delivering e xs ls ret st) × c

-- the frames that stand, the macro's below all
abbrev pub Calls : World → List Frame → List Back → Type 0
Calls Sure [] bs = ⊥
Calls Sure (f ∷ fs) [] = (f.called ≡ false) × (objects_in f.me ≡ []) × (fs ≡ [])
Calls Sure (f ∷ fs) (b ∷ bs) = CallBy Sure f fs bs b (Calls Sure fs bs)

abbrev pub Rest : World → After → List Frame → List Back → Type 0
Rest Sure after fs bs = RestBy Sure after (Calls Sure fs bs) fs bs

pub call_by : (Sure : World) (f : Frame) (fs : List Frame) (bs : List Back) (b : Back) (c : Type 0) → IsCall b → f.called ≡ true → ReturnsIn Sure fs b → c → CallBy Sure f fs bs b c
call_by Sure f fs bs (Caller ret st) c is e i k = (e, i, k)
call_by Sure f fs bs (EndOf o k after) c is e i x = absurd is
call_by Sure f fs bs (Within b k ts pc st) c is e i x = (e, i, x)
call_by Sure f fs bs (Delivering e xs ls ret st) c is t i k = (t, i, k)

pub alone : (Sure : World) (fs : List Frame) → Calls Sure fs [] → ((first_or fs).called ≡ false) × (objects_in (first_or fs).me ≡ []) × (rest fs ≡ [])
alone Sure [] h = absurd h
alone Sure (f ∷ fs) h = h

pub over_others : (Sure : World) (fs : List Frame) (b : Back) (bs : List Back) → Calls Sure fs (b ∷ bs) → CallBy Sure (first_or fs) (rest fs) bs b (Calls Sure (rest fs) bs)
over_others Sure [] b bs h = absurd h
over_others Sure (f ∷ fs) b bs h = h

-- ---- they stand as they did

like_none : (l : ℕ) (fs gs : List Frame) → Like l fs gs → fs ≡ [] → gs ≡ []
like_none l [] [] h e = refl
like_none l [] (g ∷ gs) h e = absurd h
like_none l (f ∷ fs) gs h e = absurd cc

-- from one number of frames to the next
abbrev Steady : World → ℕ → List Back → Type 0
Steady Sure l bs = (f g : Frame) (fs gs : List Frame) → l ≡ floor_of (f.called ∷ calleds fs) → f.called ≡ g.called → (f.called ≡ false → f.me ≡ g.me) → Like l fs gs → Calls Sure (f ∷ fs) bs → Calls Sure (g ∷ gs) bs

below_steady : (Sure : World) (l : ℕ) (bs : List Back) → Steady Sure l bs → (fs gs : List Frame) → l ≡ (low_of fs) → Like l fs gs → Calls Sure fs bs → Calls Sure gs bs
below_steady Sure l bs s [] gs e k h = absurd h
below_steady Sure l bs s (f ∷ fs) [] e k h = absurd k
below_steady Sure l bs s (f ∷ fs) (g ∷ gs) e k h = s f g fs gs e k.0 (λ x. k.1) k.5 h

like_back : (Sure : World) (l : ℕ) (fs gs : List Frame) → Like l fs gs → (b : Back) → ReturnsIn Sure fs b → ReturnsIn Sure gs b
like_back Sure l fs gs k b h =
    subst (λ r. BackIn Sure r (stay_reach Sure.asks gs) b) (sym (like_reach l fs gs k)) (subst (λ r. BackIn Sure (reach_of Sure.asks fs) r b) (sym (like_stay Sure.asks l fs gs k)) h)

called_steady : (Sure : World) (l : ℕ) (b : Back) (bs : List Back) → Steady Sure l bs → (f g : Frame) (fs gs : List Frame) → l ≡ floor_of (f.called ∷ calleds fs) → f.called ≡ g.called → Like l fs gs
    → (f.called ≡ true) × ReturnsIn Sure fs b × Calls Sure fs bs → (g.called ≡ true) × ReturnsIn Sure gs b × Calls Sure gs bs
called_steady Sure l b bs s f g fs gs e c k h =
    (sym c ∙ h.0, like_back Sure l fs gs k b h.1, below_steady Sure l bs s fs gs (e ∙ ap (λ t. floor_of (t ∷ calleds fs)) h.0 ∙ floor_frames fs) k h.2)

back_steady : (Sure : World) (l : ℕ) (b : Back) (bs : List Back) → Steady Sure l bs → Steady Sure l (b ∷ bs)
back_steady Sure l (EndOf o n after) bs s f g fs gs e c m k h =
    let same : gs ≡ fs = like_under l fs gs (omega (arith, e, ap (λ t. floor_of (t ∷ calleds fs)) h.0, each_called fs)) k in
    (sym c ∙ h.0, sym (m h.0) ∙ h.1, subst (λ ks. RestBy Sure after (Calls Sure ks bs) ks bs) (sym same) h.2)
back_steady Sure l (Caller ret st) bs s f g fs gs e c m k h = called_steady Sure l (Caller ret st) bs s f g fs gs e c k h
back_steady Sure l (Within b n ts pc st) bs s f g fs gs e c m k h = called_steady Sure l (Within b n ts pc st) bs s f g fs gs e c k h
back_steady Sure l (Delivering ev xs ls ret st) bs s f g fs gs e c m k h = called_steady Sure l (Delivering ev xs ls ret st) bs s f g fs gs e c k h

steady : (Sure : World) (l : ℕ) (bs : List Back) → Steady Sure l bs
steady Sure l [] f g fs gs e c m k h = (sym c ∙ h.0, ap (λ v. objects_in v) (sym (m h.0)) ∙ h.1, like_none l fs gs k h.2)
steady Sure l (b ∷ bs) f g fs gs e c m k h = back_steady Sure l b bs (steady Sure l bs) f g fs gs e c m k h

none_called : (Sure : World) (f : Frame) (fs : List Frame) (bs : List Back) → f.called ≡ true → fs ≡ [] → Calls Sure (f ∷ fs) bs → ⊥
none_called Sure f fs [] c e h = let x : true ≡ false = sym c ∙ h.0 in absurd cc
none_called Sure f fs (EndOf o k after ∷ bs) c e h = let x : true ≡ false = sym c ∙ h.0 in absurd cc
none_called Sure f fs (Caller ret st ∷ bs) c e h = subst (λ ks. Calls Sure ks bs) e h.2
none_called Sure f fs (Within b k ts pc st ∷ bs) c e h = subst (λ ks. Calls Sure ks bs) e h.2
none_called Sure f fs (Delivering ev xs ls ret st ∷ bs) c e h = subst (λ ks. Calls Sure ks bs) e h.2

none_like : (l : ℕ) (fs : List Frame) → Like l fs [] → fs ≡ []
none_like l [] h = refl
none_like l (f ∷ fs) h = absurd h

pub frames_calls : (Sure : World) (fs gs : List Frame) (bs : List Back) → (first_or fs).called ≡ (first_or gs).called → ((first_or fs).called ≡ false → (first_or fs).me ≡ (first_or gs).me) → Like (low_of fs) (rest fs) (rest gs) → Calls Sure fs bs → Calls Sure gs bs
frames_calls Sure [] gs bs c m k h = absurd h
frames_calls Sure (f ∷ fs) [] bs c m k h = absurd (none_called Sure f fs bs c (none_like (low_of (f ∷ fs)) fs k) h)
frames_calls Sure (f ∷ fs) (g ∷ gs) bs c m k h = steady Sure (low_of (f ∷ fs)) bs f g fs gs refl c m k h

-- under another first frame of the same kind
pub calls_top : (Sure : World) (m : Memory) (f : Frame) (bs : List Back) → (top m).called ≡ f.called → ((top m).called ≡ false → (top m).me ≡ f.me) → Calls Sure m.frames bs → Calls Sure (f ∷ rest m.frames) bs
calls_top Sure m f bs c e h = frames_calls Sure m.frames (f ∷ rest m.frames) bs c e (like_same (low m) (rest m.frames)) h

pub calls_calling : (Sure : World) (xs : List Slot) (fs : List Frame) (bs : List Back) → Calls Sure fs bs → Calls Sure (calling xs fs) bs
calls_calling Sure xs [] bs h = absurd h
calls_calling Sure xs (f ∷ fs) bs h = frames_calls Sure (f ∷ fs) (calling xs (f ∷ fs)) bs refl (λ e. refl) (like_same (low_of (f ∷ fs)) fs) h

-- ---- objects that have a reference

-- each that is there has one
pub record Tight (m : Memory) : Type 0 where
  pub referred : (o : ℕ) → Present m.objects o → 0 < looks m o

-- all but this one
pub record Nearly (lost : ℕ) (m : Memory) : Type 0 where
  pub others : (o : ℕ) → Present m.objects o → (o ≡ lost → ⊥) → 0 < looks m o

-- where a run may end
pub record Over (asks : Bool) (m : Memory) : Type 0 where
  pub ready : Ready asks m
  pub lost : ℕ
  pub nearly : Nearly lost m

pub over_ready : {asks : Bool} {m : Memory} → Ready asks m → Tight m → Over asks m
over_ready r t = record { ready = r; lost = 0; nearly = record { others = λ o h n. t.referred o h } }

pub near_tight : {asks : Bool} {m m1 : Memory} → Near asks m m1 → Ready asks m → Tight m → Tight m1
near_tight {m = m} {m1 = m1} n r t = record {
  referred = λ o h. decided m.objects o (λ k. omega (arith, n.grows.more r.ordered o, t.referred o k)) (λ k. omega (arith, top_live o m1, n.fresh o h k));
}

-- ---- a machine

-- inside a statement: the running frame's operands, some of which stay, and what waits below
pub record Here (Sure : World) (fl : List Bool) (m : Memory) (st : List Slot) (bs : List Back) : Type 0 where
  pub ready : Ready Sure.asks m
  pub tight : Tight m
  pub stack : Slots (reach Sure.asks m) st
  pub firm : Firm (block_reach Sure.asks m) fl st
  pub calls : Calls Sure m.frames bs

abbrev pub Standing : World → Mode → List Frame → List Slot → List Back → Type 0
Standing Sure (At pc) fs st bs = Slots (reach_of Sure.asks fs) st × Calls Sure fs bs × (pc ≡ 0 → (first_or fs).pending ≡ []) × Firm (stay_reach Sure.asks fs) (Sure.firm pc) st
Standing Sure (Failing e) fs st bs = Calls Sure fs bs
Standing Sure (Letting k after) fs st bs = Rest Sure after fs bs

-- a configuration; behind a statement's end nothing is lent
pub record Kept (Sure : World) (c : Config) : Type 0 where
  pub ready : Ready Sure.asks c.state.memory
  pub tight : Tight c.state.memory
  pub standing : Standing Sure c.mode c.state.memory.frames c.stack c.backs

pub over_here : {Sure : World} {fl : List Bool} {m : Memory} {st : List Slot} {bs : List Back} → Here Sure fl m st bs → Over Sure.asks m
over_here h = over_ready h.ready h.tight

pub near_here : {Sure : World} {fl : List Bool} {m m1 : Memory} {st : List Slot} {bs : List Back} → Near Sure.asks m m1 → Here Sure fl m st bs → Here Sure fl m1 st bs
near_here {Sure = Sure} {fl = fl} {m = m} {m1 = m1} {st = st} {bs = bs} n h = record {
  ready = near_ready n h.ready;
  tight = near_tight n h.ready h.tight;
  stack = slots_more (wider n) st h.stack;
  firm = subst (λ r. Firm r fl st) (sym (near_block n)) h.firm;
  calls = frames_calls Sure m.frames m1.frames bs n.called (λ e. n.me) n.below h.calls;
}

pub popped : {Sure : World} {fl : List Bool} {m : Memory} {x : Slot} {st : List Slot} {bs : List Back} → Here Sure fl m (x ∷ st) bs → Here Sure (rest fl) m st bs
popped h = record { ready = h.ready; tight = h.tight; stack = h.stack.1; firm = h.firm.1; calls = h.calls }

-- an operand of which no more is told, and one of which more may be
pub pushed_on : {Sure : World} {fl : List Bool} {m : Memory} {x : Slot} {st : List Slot} {bs : List Back} → SlotIn (reach Sure.asks m) x → Here Sure fl m st bs → Here Sure (false ∷ fl) m (x ∷ st) bs
pushed_on i h = record { ready = h.ready; tight = h.tight; stack = (i, h.stack); firm = (tt, h.firm); calls = h.calls }

pub pushed_firm : {Sure : World} {fl : List Bool} {m : Memory} {x : Slot} {st : List Slot} {bs : List Back} (b : Bool) → SlotIn (reach Sure.asks m) x → FirmBy b (block_reach Sure.asks m) x → Here Sure fl m st bs → Here Sure (b ∷ fl) m (x ∷ st) bs
pushed_firm b i f h = record { ready = h.ready; tight = h.tight; stack = (i, h.stack); firm = (f, h.firm); calls = h.calls }

pub without_operands : {Sure : World} {fl : List Bool} {m : Memory} {st : List Slot} {bs : List Back} (gl : List Bool) → Here Sure fl m st bs → Here Sure gl m [] bs
without_operands gl h = record { ready = h.ready; tight = h.tight; stack = tt; firm = tt; calls = h.calls }

-- operands on top of others of which no more is told
firm_pads : (hs : Reach) (xs st : List Slot) (fl : List Bool) → Firm hs fl st → Firm hs (pads (length xs) fl) (pushed xs st)
firm_pads hs [] st fl h = h
firm_pads hs (x ∷ xs) st fl h = firm_pads hs xs (x ∷ st) (false ∷ fl) (tt, h)

slots_pushed : (hs : Reach) (xs st : List Slot) → Slots hs xs → Slots hs st → Slots hs (pushed xs st)
slots_pushed hs [] st h k = k
slots_pushed hs (x ∷ xs) st h k = slots_pushed hs xs (x ∷ st) h.1 (h.0, k)

pub pushed_all : {Sure : World} {fl : List Bool} {m : Memory} {st : List Slot} {bs : List Back} (n : ℕ) (xs : List Slot) → length xs ≡ n → Slots (reach Sure.asks m) xs → Here Sure fl m st bs → Here Sure (pads n fl) m (pushed xs st) bs
pushed_all {Sure = Sure} {fl = fl} {m = m} {st = st} n xs e i h = record {
  ready = h.ready;
  tight = h.tight;
  stack = slots_pushed (reach Sure.asks m) xs st i h.stack;
  firm = subst (λ k. Firm (block_reach Sure.asks m) (pads k fl) (pushed xs st)) e (firm_pads (block_reach Sure.asks m) xs st fl h.firm);
  calls = h.calls;
}
