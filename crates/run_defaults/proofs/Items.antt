-- Items of values that are no objects of classes.
use Rattle.std.proofs.Common.{◌≡◌, List, refl, ap}
use Rattle.vba_values.specs.Types.{Declared}
use Rattle.vba_values.specs.Types as type
use Rattle.vba_values.specs.Val.{Val, empty, null, missing, boolean, whole, currency, text, object, array, udt}
use Rattle.bound_project.specs.Project.{Declarations}
use Rattle.vba_meaning.specs.Memory.{Memory}
use Rattle.vba_meaning.specs.Effects.{Effect, Fine, Bad-at, Out, Tell, done, on_fine, set_object}
use Rattle.vba_meaning.specs.Host.{item_by}
use Rattle.vba_meaning.specs.Defaults.{Next, Task, gives, after_use, let_item_of, most_passed, nothing_more, over_with, set_item_of, write, write_along}
use Rattle.run_defaults.specs.Parts.{item_set, item_takes}

-- a value that is used at once
over_then : (e : Effect Val) (t : Task) (f : Val → Memory → Effect Next) → after_use (over_with e) t f ≡ on_fine e f
over_then (Fine v m) t f = refl
over_then (Bad-at n m) t f = refl
over_then (Out w m) t f = refl
over_then (Tell es e) t f = ap (λ x. Tell es x) (over_then e t f)

pub let_item_is : (d : Declarations) (v : Val) (vs : List Val) (w : Val) (m : Memory) → let_item_of d v vs w m ≡ on_fine (item_by w vs m) (λ x m1. item_takes d v w x m1)
let_item_is d v vs empty m = refl
let_item_is d v vs null m = refl
let_item_is d v vs missing m = refl
let_item_is d v vs (boolean b) m = refl
let_item_is d v vs (whole k z) m = refl
let_item_is d v vs (currency z) m = refl
let_item_is d v vs (text t) m = refl
let_item_is d v vs (object o) m = over_then (item_by (object o) vs m) (write most_passed v) (λ x m1. write_along d most_passed v x m1)
let_item_is d v vs (array b t i) m = refl
let_item_is d v vs (udt k f) m = refl

-- an object that is tested for nothing
done_then : (e : Effect Val) → nothing_more (on_fine e (λ x m. done m)) ≡ on_fine e (λ x m. Fine (gives empty) m)
done_then (Fine v m) = refl
done_then (Bad-at n m) = refl
done_then (Out w m) = refl
done_then (Tell es e) = ap (λ x. Tell es x) (done_then e)

tested_then : (e : Effect Val) (of : Declared) (v : Val)
    → nothing_more (on_fine e (λ u m. on_fine (set_object of v m) (λ x m1. done m1))) ≡ on_fine e (λ u m. on_fine (set_object of v m) (λ x m1. Fine (gives empty) m1))
tested_then (Fine u m) of v = done_then (set_object of v m)
tested_then (Bad-at n m) of v = refl
tested_then (Out w m) of v = refl
tested_then (Tell es e) of v = ap (λ x. Tell es x) (tested_then e of v)

pub set_item_is : (v : Val) (vs : List Val) (w : Val) (m : Memory) → set_item_of v vs w m ≡ on_fine (item_by w vs m) (λ u m1. item_set v w m1)
set_item_is v vs empty m = tested_then (item_by empty vs m) type.variant v
set_item_is v vs null m = tested_then (item_by null vs m) type.variant v
set_item_is v vs missing m = tested_then (item_by missing vs m) type.variant v
set_item_is v vs (boolean b) m = tested_then (item_by (boolean b) vs m) type.variant v
set_item_is v vs (whole k z) m = tested_then (item_by (whole k z) vs m) type.variant v
set_item_is v vs (currency z) m = tested_then (item_by (currency z) vs m) type.variant v
set_item_is v vs (text t) m = tested_then (item_by (text t) vs m) type.variant v
set_item_is v vs (object o) m = refl
set_item_is v vs (array b t i) m = tested_then (item_by (array b t i) vs m) t v
set_item_is v vs (udt k f) m = tested_then (item_by (udt k f) vs m) type.variant v
