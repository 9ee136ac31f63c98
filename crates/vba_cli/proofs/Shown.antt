-- What programs show.
use Rattle.std.proofs.Common.{◌≡◌, ℕ, List, [], refl, ap}
use Rattle.std.specs.Prelude.{Option, Some, None, Ok}
use Rattle.vba_base.proofs.Causes.{adds_none, adds_prefix_none}
use Rattle.vba_base.specs.declared.fault.OrMemory.TheVariants.{NoMemory}
use Rattle.vba_base.specs.declared.place.Place.{Place}
use Rattle.vba_base.specs.declared.place.Refusal.{Refusal}
use Rattle.bound_project.specs.Project.{Project}
use Rattle.bound_forms.specs.Bind.{Answer, refused, not_built_at, bound_as}
use Rattle.bind_project.specs.declared.bound.Bound.{Bound}
use Rattle.bind_project.specs.declared.bound.Bound.TheVariants as bound
use Rattle.command_words.specs.Words.{check, code}
use Rattle.vba_cli.specs.declared.status.Status.{Status}
use Rattle.vba_cli.specs.declared.status.Status.TheVariants as status
use Rattle.vba_cli.specs.Answer.{Shown, all_right, shown_of_check, shown_of_code, shown_of_program, refused as refused_as}
use Rattle.vba_cli.specs.Programs.{IsProgram, IsRefused}
use Rattle.vba_cli.specs.Steps.{PutsShown, Ran, RanAlone}

-- ---- programs that break a rule, or have a part that isn't built

-- a broken rule shows that alone
pub shown_refused : (shown : Project → Shown) (answer : Answer) (refusal : Refusal) → answer ≡ refused refusal → shown_of_program shown answer ≡ refused_as (status.Refused refusal)
shown_refused shown answer refusal is = ap (shown_of_program shown) is

-- what isn't built yet shows that alone
pub shown_left : (shown : Project → Shown) (answer : Answer) (place : Place) → answer ≡ not_built_at place → shown_of_program shown answer ≡ refused_as (status.NotBuilt place)
shown_left shown answer place is = ap (shown_of_program shown) is

-- a project that is whole shows what it does
pub shown_bound : (shown : Project → Shown) (answer : Answer) (pr : Project) → answer ≡ bound_as pr → shown_of_program shown answer ≡ shown pr
shown_bound shown answer pr is = ap (shown_of_program shown) is

-- ---- commands that touch no file

-- what a put that was to show all did
pub put_ran : (shown : List ℕ) (result : Status) (old new : Option (List ℕ)) (faults_old faults_new : ℕ) → PutsShown shown result old new faults_old faults_new
    → Ran (record { status = status.Ended; out = shown; saves = [] }) result old new faults_old faults_new
put_ran shown status.Ended old new fo fn puts = record { leaves = puts.0; meets = (refl, puts.1) }
put_ran shown status.WriteFault old new fo fn puts = record { leaves = puts.0; meets = puts.1 }
put_ran shown status.NoMemory old new fo fn puts = record { leaves = puts.0; meets = puts.1 }
put_ran shown (status.Faulted number place) old new fo fn puts = absurd puts
put_ran shown status.Usage old new fo fn puts = absurd puts
put_ran shown (status.Refused refusal) old new fo fn puts = absurd puts
put_ran shown (status.Stopped why place) old new fo fn puts = absurd puts
put_ran shown status.Going old new fo fn puts = absurd puts
put_ran shown (status.ReadFault number) old new fo fn puts = absurd puts
put_ran shown (status.BadList line) old new fo fn puts = absurd puts
put_ran shown (status.TooLong number) old new fo fn puts = absurd puts
put_ran shown (status.BadBook sheet fault) old new fo fn puts = absurd puts
put_ran shown (status.NotBuilt place) old new fo fn puts = absurd puts

-- nothing was put, and memory ran out
pub want_ran : (meant : Shown) (out : Option (List ℕ)) (faults : ℕ) → Ran meant status.NoMemory out out faults faults
want_ran meant out faults = record { leaves = refl; meets = adds_prefix_none out meant.out }

module _ (path : List ℕ) (answer : (left : Option Place) → Answer) where
  -- what a check showed of a source that breaks no rule
  pub checked : (b : Bound) (result : Status) (old new : Option (List ℕ)) (faults_old faults_new : ℕ) → IsProgram answer (Ok b) → Ran all_right result old new faults_old faults_new
      → RanAlone (check path) answer result old new faults_old faults_new
  checked (bound.NotBuilt place) result old new fo fn h ran = record {
    left = Some place;
    shown = all_right;
    is_shown = λ sheets book. ap shown_of_check h;
    saves = refl;
    none_read = λ sheets. refl;
    ran = ran;
  }
  checked (bound.Runs pr) result old new fo fn h ran = record {
    left = None;
    shown = all_right;
    is_shown = λ sheets book. ap shown_of_check h.1;
    saves = refl;
    none_read = λ sheets. refl;
    ran = ran;
  }

  -- what it showed of one that breaks a rule
  pub check_refused : (refusal : Refusal) (out : Option (List ℕ)) (faults : ℕ) → IsRefused answer refusal → RanAlone (check path) answer (status.Refused refusal) out out faults faults
  check_refused refusal out faults h = record {
    left = h.told;
    shown = refused_as (status.Refused refusal);
    is_shown = λ sheets book. ap shown_of_check h.is;
    saves = refl;
    none_read = λ sheets. refl;
    ran = record { leaves = (refl, refl); meets = (refl, adds_none out) };
  }

  -- memory ran out
  check_saves : (answer : Answer) → (shown_of_check answer).saves ≡ []
  check_saves (refused refusal) = refl
  check_saves (not_built_at place) = refl
  check_saves (bound_as pr) = refl

  pub check_wanted : (out : Option (List ℕ)) (faults : ℕ) → RanAlone (check path) answer status.NoMemory out out faults faults
  check_wanted out faults = record {
    left = None;
    shown = shown_of_check (answer None);
    is_shown = λ sheets book. refl;
    saves = check_saves (answer None);
    none_read = λ sheets. refl;
    ran = want_ran (shown_of_check (answer None)) out faults;
  }

  -- a project was listed
  pub listed : (pr : Project) (result : Status) (old new : Option (List ℕ)) (faults_old faults_new : ℕ) → answer None ≡ bound_as pr
      → Ran (shown_of_code pr) result old new faults_old faults_new → RanAlone (code path) answer result old new faults_old faults_new
  listed pr result old new fo fn is ran = record {
    left = None;
    shown = shown_of_code pr;
    is_shown = λ sheets book. shown_bound shown_of_code (answer None) pr is;
    saves = refl;
    none_read = λ sheets. refl;
    ran = ran;
  }

  pub code_left : (place : Place) (out : Option (List ℕ)) (faults : ℕ) → answer (Some place) ≡ not_built_at place → RanAlone (code path) answer (status.NotBuilt place) out out faults faults
  code_left place out faults is = record {
    left = Some place;
    shown = refused_as (status.NotBuilt place);
    is_shown = λ sheets book. shown_left shown_of_code (answer (Some place)) place is;
    saves = refl;
    none_read = λ sheets. refl;
    ran = record { leaves = (refl, refl); meets = (refl, adds_none out) };
  }

  pub code_refused : (refusal : Refusal) (out : Option (List ℕ)) (faults : ℕ) → IsRefused answer refusal → RanAlone (code path) answer (status.Refused refusal) out out faults faults
  code_refused refusal out faults h = record {
    left = h.told;
    shown = refused_as (status.Refused refusal);
    is_shown = λ sheets book. shown_refused shown_of_code (answer h.told) refusal h.is;
    saves = refl;
    none_read = λ sheets. refl;
    ran = record { leaves = (refl, refl); meets = (refl, adds_none out) };
  }

  code_saves : (answer : Answer) → (shown_of_program shown_of_code answer).saves ≡ []
  code_saves (refused refusal) = refl
  code_saves (not_built_at place) = refl
  code_saves (bound_as pr) = refl

  pub code_wanted : (out : Option (List ℕ)) (faults : ℕ) → RanAlone (code path) answer status.NoMemory out out faults faults
  code_wanted out faults = record {
    left = None;
    shown = shown_of_program shown_of_code (answer None);
    is_shown = λ sheets book. refl;
    saves = code_saves (answer None);
    none_read = λ sheets. refl;
    ran = want_ran (shown_of_program shown_of_code (answer None)) out faults;
  }
