-- A step does the same under other names.
use Rattle.std.proofs.Common.{◌≡◌, ℕ, zero, suc, Bool, true, false, List, [], ◌∷◌, Option, Some, None, refl, ap}
use Rattle.std.specs.Prelude.{slice_index_or, unwrap_or, if◌then◌else◌}
use Rattle.vba_values.specs.Val.{Val, missing}
use Rattle.bound_project.specs.Project.{Procedure, Parameter, no_procedure}
use Rattle.bound_project.specs.Whole.{All, IfThere, IsConstant}
use Rattle.vba_meaning.specs.Memory.{value}
use Rattle.vba_meaning.specs.References.{objects_in}
use Rattle.vba_meaning.specs.Effects.{packed, slot_left_out}
use Rattle.pcode.specs.Instructions.{Code}
use Rattle.pcode.specs.Machine.{Config, step}
use Rattle.pcode.specs.WellFormed.{WellFormed}
use Rattle.object_lives.specs.Lives.{HasPlainDefaults}
use Rattle.object_lives.proofs.Plain.{plain_code, constant_in}
use Rattle.object_names.specs.Names.{slot_named}
use Rattle.object_names.specs.Renamed.{SameConfig, SameMove}
use Rattle.object_names.proofs.NamedValues.{nil_of, free_named}
use Rattle.object_names.proofs.NamedUses.{Plain}
use Rattle.object_names.proofs.NamedSteps.{step_names}

module _ (r : ℕ → ℕ) where
  default_plain : (q : Parameter) → IfThere IsConstant q.default → slot_named r (slot_left_out q) ≡ slot_left_out q
  default_plain q h = by_parts q.many q.default h where
    by_parts : (many : Bool) (default : Option Val) → IfThere IsConstant default → slot_named r (value (if many then packed [] else unwrap_or default missing)) ≡ value (if many then packed [] else unwrap_or default missing)
    by_parts true default k = refl
    by_parts false None k = refl
    by_parts false (Some v) k = ap (λ w. value w) (free_named r v (nil_of (objects_in v) (constant_in {xs = []} v k)))

  defaults_plain : (qs : List Parameter) → All (λ q. IfThere IsConstant q.default) qs → Plain r qs
  defaults_plain [] h = tt
  defaults_plain (q ∷ qs) h = (default_plain q h.0, defaults_plain qs h.1)

  parameters_plain : (ps : List Procedure) (p : ℕ) → All (λ x. All (λ q. IfThere IsConstant q.default) x.parameters) ps → Plain r (slice_index_or ps p no_procedure).parameters
  parameters_plain [] zero h = tt
  parameters_plain [] (suc p) h = tt
  parameters_plain (x ∷ ps) zero h = defaults_plain x.parameters h.0
  parameters_plain (x ∷ ps) (suc p) h = parameters_plain ps p h.1

  pub blind_step : (code : Code) (c e : Config) → WellFormed code → HasPlainDefaults code.declared → SameConfig r c e → SameMove r (step code c) (step code e)
  blind_step code c e w h k =
      (step_names r code (λ p. parameters_plain code.declared.procedures p h) (λ pc v is. free_named r v (nil_of (objects_in v) (plain_code code w pc v is))) c e k).law
