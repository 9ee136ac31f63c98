-- What is refused goes through what would come behind.
use Rattle.std.proofs.Common.{◌≡◌, refl, ap, ◌∙◌}
use Rattle.std.specs.Prelude.{Err}
use Rattle.vba_base.specs.declared.fault.OrMemory.{OrMemory}
use Rattle.vba_base.specs.declared.fault.OrMemory.TheVariants.{Fault, NoMemory}
use Rattle.vba_values.specs.declared.fault.Bad.{Bad}
use Rattle.vba_values.specs.declared.fault.Bad.TheVariants.{Raise, Outside}
use Rattle.vba_meaning.specs.Memory.{Memory}
use Rattle.vba_meaning.specs.Effects.{Effect, on_fine, answered}
use Rattle.run_memory.specs.Acts.{Refuses}

pub refused_then : {A B : Type 0} (bad : Bad) (m : Memory) (f : A → Memory → Effect B) → on_fine (answered {A = A} (Err bad) m) f ≡ answered (Err bad) m
refused_then (Raise n) m f = refl
refused_then (Outside k) m f = refl

pub refuses_then : {A B : Type 0} (fault : OrMemory Bad) (m : Memory) (e : Effect A) (f : A → Memory → Effect B) → Refuses fault m e → Refuses fault m (on_fine e f)
refuses_then NoMemory m e f h = tt
refuses_then (Fault bad) m e f h = ap (λ d. on_fine d f) h ∙ refused_then bad m f
