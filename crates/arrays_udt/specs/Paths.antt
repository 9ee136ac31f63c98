-- Values inside of values.
use Rattle.std.specs.Prelude.{ℕ, zero, suc, nat_eq, Bool, true, false, List, [], ◌∷◌, ◌++◌, ◌≡◌, Option, Some, None, if◌then◌else◌}
use Rattle.vba_values.specs.Val.{Val, Vals, array, udt, no_vals, val}
use Rattle.arrays_udt.specs.declared.paths.PathStep.{PathStep}
use Rattle.arrays_udt.specs.declared.paths.PathStep.TheVariants.{Field, Element}

abbrev mutual
  -- the value at a path, where there is one
  pub path_value : Val → List PathStep → Option Val
  path_value value [] = Some value
  path_value (array bounds element items) (Element offset ∷ path) = inner_value items offset path
  path_value (udt number fields) (Field place ∷ path) = inner_value fields place path
  path_value value (step ∷ path) = None

  -- behind a step to one of several values
  pub inner_value : Vals → ℕ → List PathStep → Option Val
  inner_value no_vals place path = None
  inner_value (val v vs) zero path = path_value v path
  inner_value (val v vs) (suc place) path = inner_value vs place path

abbrev mutual
  -- the value with another one at a path, where there is one
  pub with_path : Val → List PathStep → Val → Val
  with_path value [] new = new
  with_path (array bounds element items) (Element offset ∷ path) new = array bounds element (with_inner items offset path new)
  with_path (udt number fields) (Field place ∷ path) new = udt number (with_inner fields place path new)
  with_path value (step ∷ path) new = value

  pub with_inner : Vals → ℕ → List PathStep → Val → Vals
  with_inner no_vals place path new = no_vals
  with_inner (val v vs) zero path new = val (with_path v path new) vs
  with_inner (val v vs) (suc place) path new = val v (with_inner vs place path new)

abbrev pub same_step : PathStep → PathStep → Bool
same_step (Field a) (Field b) = nat_eq a b
same_step (Element a) (Element b) = nat_eq a b
same_step a b = false

-- two paths part: they differ at a step up to which they are the same
abbrev pub are_apart : List PathStep → List PathStep → Bool
are_apart (a ∷ path) (b ∷ other) = if same_step a b then are_apart path other else true
are_apart a b = false

-- a path begins with another
abbrev pub BeginsWith : List PathStep → List PathStep → Type 0
BeginsWith path front = (rest : List PathStep) × (path ≡ front ++ rest)
