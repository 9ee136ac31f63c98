-- Serves the code: what instructions do to operands, by what they take and what they give.
use Rattle.std.specs.Prelude.{ℕ, zero, suc, List, [], ◌∷◌, Option, Some, None}
use Rattle.bound_project.specs.Pieces.{Tables, order_in}
use Rattle.pcode.specs.WellFormed.{Kind, a_value, a_path, Way, no_way, brings, value_off, path_off, taken_off, brings_value, brings_path, statement_over, kinds_pushed, kinds_reordered}
use Rattle.code_check.specs.declared.effects.Takes.{Takes}
use Rattle.code_check.specs.declared.effects.Takes.TheVariants.{Values, PathAndValues, CountedAndValues, CountedPathAndValues, PathAndCounted, ValueAndPath}
use Rattle.code_check.specs.declared.effects.Gives.{Gives}
use Rattle.code_check.specs.declared.effects.Gives.TheVariants as gives
use Rattle.code_check.specs.declared.effects.Effect.{Effect}
use Rattle.code_check.specs.declared.effects.Effect.TheVariants.{Begins, Leaves, Reorders, Lifts, Does}

-- so many values are taken off
abbrev pub values_off : ℕ → List Kind → (List Kind → Option Way) → Option Way
values_off zero ks go = go ks
values_off (suc n) ks go = value_off ks (λ js. values_off n js go)

abbrev pub takes_off : Takes → List Kind → (List Kind → Option Way) → Option Way
takes_off (Values n) ks go = values_off n ks go
takes_off (PathAndValues n) ks go = path_off ks (λ js. values_off n js go)
takes_off (CountedAndValues k n) ks go = taken_off k ks [] (λ xs js. values_off n js go)
takes_off (CountedPathAndValues k n) ks go = taken_off k ks [] (λ xs js. path_off js (λ is. values_off n is go))
takes_off ValueAndPath ks go = value_off ks (λ js. path_off js go)
takes_off (PathAndCounted k) ks go = path_off ks (λ js. taken_off k js [] (λ xs is. go is))

abbrev pub given_by : Gives → List Kind → Option Way
given_by gives.Nothing ks = Some (brings ks)
given_by gives.Value ks = brings_value ks
given_by gives.Path ks = brings_path ks
given_by gives.TwoValues ks = brings_value (a_value ∷ ks)
given_by gives.PathAndTwoValues ks = Some (brings (a_value ∷ a_value ∷ a_path ∷ ks))
given_by gives.End ks = statement_over ks

-- the way behind an instruction with this effect, where no way leads to it from above; and where one brings operands
abbrev pub begun_by : Effect → Option Way
begun_by Begins = Some (brings [])
begun_by Leaves = Some no_way
begun_by other = None

abbrev pub behind_effect : Tables → Effect → List Kind → Option Way
behind_effect t Begins ks = None
behind_effect t Leaves ks = None
behind_effect t (Reorders order n) ks = taken_off n ks [] (λ xs js. Some (brings (kinds_pushed (kinds_reordered (order_in t order) xs) js)))
behind_effect t (Lifts n) ks = taken_off n ks [] (λ xs js. value_off js (λ is. brings_value (kinds_pushed xs is)))
behind_effect t (Does takes gives) ks = takes_off takes ks (given_by gives)
