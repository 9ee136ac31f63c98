-- One phase of the rules over all modules.
use Rattle.std.proofs.Common.{◌≡◌, ◌∙◌, ℕ, suc, List, [], ◌∷◌, ◌++◌, refl, sym, ap, subst, append_assoc}
use Rattle.std.specs.Prelude.{Result, Ok, Err}
use Rattle.std.specs.Result.{IsErrAnd}
use Rattle.std.proofs.lemmas.List.{append-nil}
use Rattle.vba_base.specs.Answer.{Fails, Gives}
use Rattle.vba_base.specs.declared.fault.OrMemory.{OrMemory}
use Rattle.vba_base.specs.declared.fault.OrMemory.TheVariants.{Fault, NoMemory}
use Rattle.vba_base.specs.declared.place.Refusal.{Refusal}
use Rattle.vba_cli.specs.Program.{before, each}

-- what came of the things before, and what comes of others
abbrev after : {Y : Type 0} → List Y → Result (List Y) Refusal → Result (List Y) Refusal
after ys (Err refusal) = Err refusal
after ys (Ok zs) = Ok (ys ++ zs)

after_none : {Y : Type 0} (r : Result (List Y) Refusal) → after [] r ≡ r
after_none (Err refusal) = refl
after_none (Ok zs) = refl

after_more : {Y : Type 0} (ys : List Y) (y : Y) (r : Result (List Y) Refusal) → after ys (before (Ok y) r) ≡ after (ys ++ y ∷ []) r
after_more ys y (Err refusal) = refl
after_more ys y (Ok zs) = ap Ok (sym (append_assoc ys (y ∷ []) zs))

-- the rest of the things, the first of which has this number, behind those that weren't refused
pub record EachGoesOn {X Y : Type 0} (f : ℕ → X → Result Y Refusal) (all left : List X) (ys : List Y) (number : ℕ) : Type 0 where
  pub goes_on : after ys (each f number left) ≡ each f 1 all

pub each_begins : {X Y : Type 0} (f : ℕ → X → Result Y Refusal) (all : List X) → EachGoesOn f all all [] 1
each_begins f all = record { goes_on = after_none (each f 1 all) }

-- one thing more wasn't refused
pub each_more : {X Y : Type 0} (f : ℕ → X → Result Y Refusal) (all left : List X) (x : X) (y : Y) (ys : List Y) (number : ℕ)
    → EachGoesOn f all (x ∷ left) ys number → f number x ≡ Ok y → EachGoesOn f all left (ys ++ y ∷ []) (suc number)
each_more f all left x y ys number on is = record {
  goes_on =
      sym (after_more ys y (each f (suc number) left))
      ∙ sym (ap (λ r. after ys (before r (each f (suc number) left))) is)
      ∙ on.goes_on;
}

-- one thing more is refused
pub each_refused : {X Y : Type 0} (f : ℕ → X → Result Y Refusal) (all left : List X) (x : X) (ys : List Y) (number : ℕ) (refusal : Refusal)
    → EachGoesOn f all (x ∷ left) ys number → f number x ≡ Err refusal → each f 1 all ≡ Err refusal
each_refused f all left x ys number refusal on is = sym on.goes_on ∙ ap (λ r. after ys (before r (each f (suc number) left))) is

-- none was refused
pub each_done : {X Y : Type 0} (f : ℕ → X → Result Y Refusal) (all : List X) (ys : List Y) (number : ℕ) → EachGoesOn f all [] ys number → each f 1 all ≡ Ok ys
each_done f all ys number on = sym on.goes_on ∙ ap Ok (append-nil ys)

fails_by : {Y M : Type 0} (e : OrMemory Refusal) (one : Result Y Refusal) (whole : Result M Refusal) → Fails e one
    → ((refusal : Refusal) → one ≡ Err refusal → whole ≡ Err refusal) → Fails e whole
fails_by NoMemory one whole fails means = tt
fails_by (Fault refusal) one whole fails means = means refusal fails

-- the refusal of one is that of all
pub gives_by : {A Y M : Type 0} (view : A → M) (r : Result A (OrMemory Refusal)) (e : OrMemory Refusal) (one : Result Y Refusal) (whole : Result M Refusal)
    → IsErrAnd r (λ e1. e1 ≡ e) → Fails e one → ((refusal : Refusal) → one ≡ Err refusal → whole ≡ Err refusal) → Gives view r whole
gives_by view (Ok a) e one whole is fails means = absurd is
gives_by view (Err e1) e one whole is fails means = subst (λ x. Fails x whole) (sym is) (fails_by e one whole fails means)

-- want of memory
pub gives_want : {A M : Type 0} (view : A → M) (r : Result A (OrMemory Refusal)) (whole : Result M Refusal) → IsErrAnd r (λ e. e ≡ NoMemory) → Gives view r whole
gives_want view (Ok a) whole is = absurd is
gives_want view (Err e) whole is = subst (λ x. Fails x whole) (sym is) tt
