-- A run does the same under other names.
use Rattle.std.proofs.Common.{◌≡◌, ℕ, zero, suc, Bool, true, false, List, [], ◌++◌, refl, sym, ap, ◌∙◌, subst}
use Rattle.std.specs.Prelude.{nat_lt, if◌then◌else◌}
use Rattle.std.proofs.lemmas.List.{map-append}
use Rattle.vba_meaning.specs.Memory.{Going}
use Rattle.vba_meaning.specs.Effects.{Event}
use Rattle.vba_meaning.specs.Meaning.{State}
use Rattle.pcode.specs.Instructions.{Code}
use Rattle.pcode.specs.Machine.{Config, Move, Goes, Ends, Sticks, Tells, Turns, Fin, Done, Unfinished, Stuck, tells, follow, machine, step}
use Rattle.pcode.specs.WellFormed.{WellFormed}
use Rattle.object_lives.specs.Lives.{HasPlainDefaults}
use Rattle.object_names.specs.Names.{event_named, events_named}
use Rattle.object_names.specs.Renamed.{SameState, SameConfig, SameMove}
use Rattle.object_names.specs.Ended.{SameFin}
use Rattle.object_names.proofs.Blind.{blind_step}

module _ (r : ℕ → ℕ) where
  told_names : (es hs : List Event) (a b : Fin) → hs ≡ events_named r es → SameFin r a b → SameFin r (tells es a) (tells hs b)
  told_names es hs (Done x s gs) (Done y t is) e h = record {
    ending = h.ending;
    state = h.state;
    events = ap (λ zs. zs ++ is) e ∙ ap (λ zs. events_named r es ++ zs) h.events ∙ sym (map-append (λ z. event_named r z) es gs);
  }
  told_names es hs Unfinished Unfinished e h = tt
  told_names es hs Stuck Stuck e h = tt
  told_names es hs a b e h = absurd h

  in_time : (s t : State) (a b : Fin) (x : Bool) → SameState r s t → SameFin r a b → SameFin r (if x then a else Done Going s []) (if x then b else Done Going t [])
  in_time s t a b true k h = h
  in_time s t a b false k h = record { ending = refl; state = k; events = refl }

  follow_names : (bound : ℕ) (a b : Move) (x y : Config → Fin) → SameMove r a b → ((c e : Config) → SameConfig r c e → SameFin r (x c) (y e)) → SameFin r (follow bound a x) (follow bound b y)
  follow_names bound (Goes c) (Goes e) x y h k = k c e h
  follow_names bound (Ends u s) (Ends v t) x y h k = record { ending = h.0; state = h.1; events = refl }
  follow_names bound Sticks Sticks x y h k = tt
  follow_names bound (Tells es a) (Tells hs b) x y h k = told_names es hs (follow bound a x) (follow bound b y) h.0 (follow_names bound a b x y h.1 k)
  follow_names bound (Turns s a) (Turns t b) x y h k =
      subst (λ n. SameFin r (follow bound (Turns s a) x) (if nat_lt n bound then follow bound b y else Done Going t [])) (sym h.0.begun)
      (in_time s t (follow bound a x) (follow bound b y) (nat_lt s.begun bound) h.0 (follow_names bound a b x y h.1 k))
  follow_names bound a b x y h k = absurd h

  pub blind_run : (code : Code) (bound steps : ℕ) (c e : Config) → WellFormed code → HasPlainDefaults code.declared → SameConfig r c e → SameFin r (machine code bound steps c) (machine code bound steps e)
  blind_run code bound zero c e w h k = tt
  blind_run code bound (suc j) c e w h k =
      follow_names bound (step code c) (step code e) (λ x. machine code bound j x) (λ x. machine code bound j x) (blind_step r code c e w h k) (λ x y same. blind_run code bound j x y w h same)
