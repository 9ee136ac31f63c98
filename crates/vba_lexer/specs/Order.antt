-- The order of refusals: by place and then by rule.
use Rattle.std.specs.Prelude.{◌≡◌, Bool, true, ◌==◌, ◌&&◌, ◌||◌, nat_lt, nat_le, List, [], All, Contains, Option, Some, None}
use Rattle.vba_base.specs.declared.place.Place.{Place}
use Rattle.vba_base.specs.declared.place.Refusal.{Refusal}

-- of two places of one module, the one stands before the other: on an earlier line, or on the same line further left
abbrev pub is_before : Place → Place → Bool
is_before one other = nat_lt one.line other.line || ((one.line == other.line) && nat_lt one.column other.column)

-- they are the same place of the module
abbrev pub is_same_place : Place → Place → Bool
is_same_place one other = (one.line == other.line) && (one.column == other.column)

-- a refusal does not come after another: its place is before the other's, or is the same, and its rule is not later
abbrev pub not_later : Refusal → Refusal → Bool
not_later one other = is_before one.place other.place || (is_same_place one.place other.place && nat_le one.rule other.rule)

-- one of the refusals, after none of them
pub record IsLeast (refusals : List Refusal) (least : Refusal) : Type 0 where
  pub among : Contains refusals least
  pub first : All (λ other. not_later least other ≡ true) refusals

-- the least of the refusals; none exactly where there are no refusals
abbrev pub IsLeastOf : List Refusal → Option Refusal → Type 0
IsLeastOf refusals None = refusals ≡ []
IsLeastOf refusals (Some least) = IsLeast refusals least
