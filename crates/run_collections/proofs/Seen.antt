-- What comes behind a value that is seen as another.
use Rattle.std.proofs.Common.{◌≡◌, ℕ, length, refl, ap}
use Rattle.vba_values.specs.Types as type
use Rattle.vba_values.specs.Val.{Val}
use Rattle.vba_values.specs.Coerce.{coerce_of}
use Rattle.vba_meaning.specs.Memory.{Memory}
use Rattle.vba_meaning.specs.Effects.{Effect, Fine, Bad-at, Out, Tell, answered, on_fine}
use Rattle.vba_meaning.specs.Arrays.{number_in}
use Rattle.vba_meaning.specs.Collections.{items_of, numbered_place}
use Rattle.run_memory.specs.Elements.{number_of}
use Rattle.run_collections.specs.Parts.{place_of_number}

pub then_seen : {A B C : Type 0} (e : Effect A) (f : A → B) (g : B → Memory → Effect C) → on_fine e (λ v m. g (f v) m) ≡ on_fine (on_fine e (λ v m. Fine (f v) m)) g
then_seen (Fine v m) f g = refl
then_seen (Bad-at n m) f g = refl
then_seen (Out w m) f g = refl
then_seen (Tell es e) f g = ap (λ d. Tell es d) (then_seen e f g)

pub by_number : (o : ℕ) (v : Val) (m : Memory) → place_of_number o v m ≡ on_fine (number_of v m) (λ z m1. numbered_place (length (items_of o m1)) z m1)
by_number o v m = then_seen (answered (coerce_of v type.long) m) number_in (λ z m1. numbered_place (length (items_of o m1)) z m1)
