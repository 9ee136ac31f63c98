-- Serves the code: values that are pushed for a ParamArray, and the calls that they end.
use Rattle.std.specs.Prelude.{◌≡◌, ℕ, zero, suc, ◌+◌, length, Bool, true, false, List, ◌∷◌, map}
use Rattle.bound_project.specs.declared.declarations.Parameter.{Parameter}
use Rattle.bound_project.specs.View.{parameter_view}
use Rattle.bound_project.specs.Expressions as bound
use Rattle.bound_project.specs.Lists.{above, exprs_of}
use Rattle.bound_project.specs.Pieces.{Argument, Piece, an_argument, an_expr, values_listed}
use Rattle.bound_project.specs.Drafts.{Drafted}
use Rattle.bound_members.specs.bound_calls.specs.declared.term.Ending.{Ending}
use Rattle.bound_members.specs.bound_calls.specs.declared.term.Item.{Item}
use Rattle.bound_members.specs.bound_calls.specs.declared.term.Item.TheVariants as item
use Rattle.bound_members.specs.bound_calls.specs.declared.term.Passed.{Passed}
use Rattle.bound_members.specs.bound_calls.specs.declared.term.Routine.{Routine}
use Rattle.bound_members.specs.bound_calls.specs.Passing.{AllLeft}
use Rattle.bound_members.specs.bound_calls.specs.Standing.{Grown, is_gathering}
use Rattle.bound_members.specs.bound_calls.specs.Calls.{call_kind}

-- whether an argument behind this item is a value for a ParamArray
abbrev pub gathers : Item → Bool
gathers item.Gathered = true
gathers (item.Call x) = is_gathering (map parameter_view x.passed.left.now)
gathers (item.Listed x) = is_gathering (map parameter_view x.left.now)
gathers i = false

-- so many values stand above these items; one stands there, or none
abbrev pub with_gathered : ℕ → List Item → List Item
with_gathered zero items = items
with_gathered (suc n) items = item.Gathered ∷ with_gathered n items

abbrev pub with_value : Bool → List Item → List Item
with_value true items = item.Gathered ∷ items
with_value false items = items

-- behind so many values the list of the ParamArray that is left first was pushed, and what the parameters behind it have
pub record PassesGathered (x : Passed) (values : ℕ) (d e : Drafted) (arguments : ℕ) : Type 0 where
  pub grown : Grown d e
  pub first : Parameter
  pub others : List Parameter
  pub left_is : x.left.now ≡ first ∷ others
  pub made : List Argument
  pub left : AllLeft (map parameter_view others) made
  pub arguments_is : arguments ≡ x.count + suc (length made)
  pub stands : (es : List bound.Expr) (below : List Piece) → length es ≡ values → d.pieces ≡ above (map an_expr es) below → e.pieces ≡ above (map an_argument (values_listed (exprs_of es) ∷ made)) below

-- all but the node of a call is pushed
pub record EndsGathered (r : Routine) (x : Passed) (values : ℕ) (d e : Drafted) (ending : Ending) : Type 0 where
  pub arguments : ℕ
  pub passes : PassesGathered x values d e arguments
  pub ending_is : ending ≡ record { kind = call_kind r.receiver r.procedure arguments; of = r.of }
