-- Plain values.
use Rattle.std.specs.Prelude.{ℕ, ℤ, Bool, List, [], ◌∷◌}
use Rattle.vba_values.specs.declared.types.WholeKind.{WholeKind}
use Rattle.vba_values.specs.declared.object.ObjRef.{ObjRef}
use Rattle.vba_values.specs.declared.value.Bound.{Bound}
use Rattle.vba_values.specs.Types.{Declared}

mutual
  -- a value: a whole number has its kind, a Currency is its count of ten-thousandths, a text its units
  pub data Val : Type 0 where
    empty : Val
    null : Val
    missing : Val
    boolean : Bool → Val
    whole : WholeKind → ℤ → Val
    currency : ℤ → Val
    text : List ℕ → Val
    object : ObjRef → Val
    array : List Bound → Declared → Vals → Val
    udt : ℕ → Vals → Val

  -- values in order
  pub data Vals : Type 0 where
    no_vals : Vals
    val : Val → Vals → Vals

abbrev pub vals_of : List Val → Vals
vals_of [] = no_vals
vals_of (v ∷ vs) = val v (vals_of vs)
