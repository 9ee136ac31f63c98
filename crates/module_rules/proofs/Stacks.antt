-- The nearest of a kind, one open block after another.
use Rattle.std.proofs.Common.{◌≡◌, Bool, true, false, not, ◌&&◌, List, [], ◌∷◌, Option, Some, None, is_some, refl, sym, ap, ◌∙◌}
use Rattle.std.specs.Prelude.{option_map}
use Rattle.vba_base.specs.declared.place.Place.{Place}
use Rattle.vba_module.specs.Blocks.{Kind, same_kind, is_outer, Open, Nearest, with_inside, nearest, closed, divided}
use Rattle.module_rules.specs.Found.{inside_nearest, outside_nearest}

-- the one that was found
abbrev pub found_of : Option Nearest → Option Open
found_of near = option_map (λ near. near.found) near

found_with : (opened : Open) (near : Option Nearest) → found_of (with_inside opened near) ≡ found_of near
found_with opened None = refl
found_with opened (Some near) = refl

pub found_deeper : (kind : Kind) (opened : Open) (others : List Open) → same_kind kind opened.kind ≡ false → (is_outer opened.kind && not (is_outer kind)) ≡ false
    → found_of (nearest kind (opened ∷ others)) ≡ found_of (nearest kind others)
found_deeper kind opened others apart inner = rw (apart, inner) (found_with opened (nearest kind others))

-- whether one is open
pub is_found : (near : Option Nearest) (found : Open) → Some found ≡ found_of near → is_some near ≡ true
is_found None found e = absurd cc
is_found (Some near) found e = refl

-- an end finds its block, or stands alone
pub closed_found : (place : Place) (opened : List Open) (near : Option Nearest) (found : Open) → Some found ≡ found_of near
    → closed place opened near ≡ record { faults = inside_nearest near; opened = outside_nearest near }
closed_found place opened None found e = absurd cc
closed_found place opened (Some near) found e = refl

pub closed_nowhere : (place : Place) (opened : List Open) (near : Option Nearest) → None ≡ found_of near
    → closed place opened near ≡ record { faults = place ∷ []; opened = opened }
closed_nowhere place opened None e = refl
closed_nowhere place opened (Some near) e = absurd cc

-- an arm finds its block, or stands behind its last arm or alone
pub divided_found : (place : Place) (is_last : Bool) (opened : List Open) (near : Option Nearest) (found : Open) → Some found ≡ found_of near → found.is_last ≡ false
    → divided place is_last opened near
    ≡ record { faults = inside_nearest near; opened = record { kind = found.kind; place = found.place; is_last = is_last } ∷ outside_nearest near }
divided_found place is_last opened None found e more = absurd cc
divided_found place is_last opened (Some near) found e more =
    let same : found ≡ near.found = cc in
    let further : near.found.is_last ≡ false = sym (ap (λ (o : Open). o.is_last) same) ∙ more in
    rw (same, further) refl

pub divided_last : (place : Place) (is_last : Bool) (opened : List Open) (near : Option Nearest) (found : Open) → Some found ≡ found_of near → found.is_last ≡ true
    → divided place is_last opened near ≡ record { faults = place ∷ []; opened = opened }
divided_last place is_last opened None found e last = absurd cc
divided_last place is_last opened (Some near) found e last =
    let same : found ≡ near.found = cc in
    let further : near.found.is_last ≡ true = sym (ap (λ (o : Open). o.is_last) same) ∙ last in
    rw further refl

pub divided_nowhere : (place : Place) (is_last : Bool) (opened : List Open) (near : Option Nearest) → None ≡ found_of near
    → divided place is_last opened near ≡ record { faults = place ∷ []; opened = opened }
divided_nowhere place is_last opened None e = refl
divided_nowhere place is_last opened (Some near) e = absurd cc
