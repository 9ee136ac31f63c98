-- Arguments as their parameters take them.
use Rattle.std.proofs.Common.{◌≡◌, ℕ, Bool, true, false, List, refl}
use Rattle.vba_values.specs.Val.{Val, empty, null, missing, boolean, whole, currency, text, object, array, udt}
use Rattle.bound_project.specs.Expressions.{ByName}
use Rattle.bound_project.specs.Project.{Declarations}
use Rattle.vba_meaning.specs.Memory.{Memory}
use Rattle.vba_meaning.specs.Effects.{Fine}
use Rattle.vba_meaning.specs.Defaults.{gives, tasks_next}
use Rattle.vba_meaning.specs.LateBound.{Use, argument_tasks, value_bound}
use Rattle.run_host.specs.Members.{is_missing}

module _ (d : Declarations) (aim : Use) (name : List ℕ) (by : ByName) (gs : List Bool) (i : ℕ) (base : Val) where
  pub missing_stays : (v : Val) (m : Memory) → is_missing v ≡ true → value_bound d aim name by gs i base v m ≡ Fine (gives missing) m
  missing_stays missing m h = refl
  missing_stays empty m h = cc
  missing_stays null m h = cc
  missing_stays (boolean b) m h = cc
  missing_stays (whole k z) m h = cc
  missing_stays (currency n) m h = cc
  missing_stays (text t) m h = cc
  missing_stays (object o) m h = cc
  missing_stays (array b e vs) m h = cc
  missing_stays (udt n fs) m h = cc

  pub others_become : (v : Val) (m : Memory) → is_missing v ≡ false → value_bound d aim name by gs i base v m ≡ tasks_next d (argument_tasks d aim name by gs i base m) v m
  others_become missing m h = cc
  others_become empty m h = refl
  others_become null m h = refl
  others_become (boolean b) m h = refl
  others_become (whole k z) m h = refl
  others_become (currency n) m h = refl
  others_become (text t) m h = refl
  others_become (object o) m h = refl
  others_become (array b e vs) m h = refl
  others_become (udt n fs) m h = refl
