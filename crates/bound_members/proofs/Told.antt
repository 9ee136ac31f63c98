-- Names of arguments become constants, and an order of these.
use Rattle.std.proofs.Common.{◌≡◌, ℕ, zero, suc, ◌<◌, ◌≤◌, List, [], ◌∷◌, ◌++◌, map, length, option_map, None, Some, refl, sym, ap, subst, ◌∙◌, arith, length-append}
use Rattle.std.specs.Prelude.{slice_get}
use Rattle.std.proofs.Math.Seq.{get_or-append_seam}
use Rattle.vba_values.specs.Val.{Val}
use Rattle.bound_project.specs.Pieces.{order_in}
use Rattle.bound_project.specs.Drafts.{Drafted, AllBelow, with_order}
use Rattle.bound_project.proofs.Drafts.{order_extends}
use Rattle.bound_calls.specs.InOrder.{AddsOrder}
use Rattle.bound_calls.specs.Steps.{AddsConstant}
use Rattle.bound_calls.proofs.Growing.{grown_constant, grown_same, grown_twice}
use Rattle.bound_members.specs.Names.{AddsName, TellsNames, is_name, is_next}

below_push : (b c : ℕ) (is : List ℕ) (i : ℕ) → b ≤ c → i < c → AllBelow b is → AllBelow c (is ++ i ∷ [])
below_push b c [] i le lt h = (lt, tt)
below_push b c (j ∷ is) i le lt h = (omega (arith, h.0, le), below_push b c is i le lt h.1)

-- one more name
pub name_added : (v : Val) (d e : Drafted) (number : ℕ) (before behind : List ℕ) → AddsConstant v d e number → behind ≡ before ++ number ∷ [] → AddsName d before e behind
name_added v d e number before behind a b =
    let P : Drafted → Type 0 = λ (x : Drafted). AddsName d before x behind in
    let long = length (d.tables.constants ++ v ∷ []) in
    let B : List ℕ → Type 0 = λ (is : List ℕ). AllBelow long is in
    subst P (sym a.draft_is) (record {
      grown = grown_constant d v;
      pieces = refl;
      below = λ h. subst B (sym b) (below_push (length d.tables.constants) long before number (omega (arith, length-append d.tables.constants (v ∷ []))) (omega (arith, a.number_is, length-append d.tables.constants (v ∷ []))) h);
    })

pub none_added : (d : Drafted) (is : List ℕ) → AddsName d is d is
none_added d is = record { grown = grown_same d; pieces = refl; below = λ h. h }

pub names_more : (d e f : Drafted) (a b c : List ℕ) → AddsName d a e b → AddsName e b f c → AddsName d a f c
names_more d e f a b c x y = record { grown = grown_twice d e f x.grown y.grown; pieces = y.pieces ∙ x.pieces; below = λ h. y.below (x.below h) }

-- how arguments are named
pub none_told : (d : Drafted) → TellsNames d d None
none_told d = record { grown = grown_same d; pieces = refl; named = tt }

pub some_told : (d m e : Drafted) (is : List ℕ) (before number : ℕ) → AddsName d [] m is → AddsOrder is m e number → TellsNames d e (Some (record { before = before; order = number }))
some_told d m e is before number a o =
    let after : Drafted = record m { tables = with_order m.tables is } in
    let P : Drafted → Type 0 = λ (x : Drafted). TellsNames d x (Some (record { before = before; order = number })) in
    let last : order_in after.tables number ≡ is = ap (λ (k : ℕ). order_in after.tables k) o.number_is ∙ get_or-append_seam m.tables.orders is [] [] in
    let B : List ℕ → Type 0 = λ (l : List ℕ). AllBelow (length m.tables.constants) l in
    subst P (sym o.draft_is) (record {
      grown = grown_twice d m after a.grown (record { tables = order_extends m.tables is; statements = refl; bodies = refl });
      pieces = a.pieces;
      named = (omega (arith, o.number_is, length-append m.tables.orders (is ∷ [])), subst B (sym last) (a.below tt));
    })

-- the name behind so many is that of the constant there
pub next_is : (f : ℕ → List ℕ) (is : List ℕ) (i : ℕ) (name : List ℕ) → is_next (map f is) i name ≡ is_name (option_map f (slice_get is i)) name
next_is f [] i name = refl
next_is f (x ∷ is) zero name = refl
next_is f (x ∷ is) (suc i) name = next_is f is i name
