-- The nearest open one of a kind: where it is the innermost, and that an Exit finds one just where it stands in what it leaves.
use Rattle.std.proofs.Common.{◌≡◌, Bool, true, false, not, ◌&&◌, ◌||◌, List, [], ◌∷◌, Option, Some, None, is_some, refl, sym, ap, ◌∙◌}
use Rattle.std.specs.Prelude.{if◌then◌else◌}
use Rattle.std.specs.List.{list_any}
use Rattle.std.proofs.lemmas.Bool.{cond_both}
use Rattle.vba_base.specs.declared.place.Place.{Place}
use Rattle.vba_tree.specs.declared.procedure.ProcedureKind.{ProcedureKind}
use Rattle.vba_tree.specs.declared.procedure.ProcedureKind.TheVariants as procedure_kind
use Rattle.vba_module.specs.Blocks.{Kind, procedure, enum, type, if_block, select, for_loop, do_loop, while_loop, with_block, same_procedure, same_kind, is_outer, Open, Nearest, with_inside, nearest}
use Rattle.vba_module.specs.Tree.{in_procedure, leaves}

-- the kinds of what is open
abbrev pub kinds_of : List Open → List Kind
kinds_of [] = []
kinds_of (opened ∷ others) = opened.kind ∷ kinds_of others

same_procedure_self : (kind : ProcedureKind) → same_procedure kind kind ≡ true
same_procedure_self procedure_kind.Sub = refl
same_procedure_self procedure_kind.Function = refl
same_procedure_self procedure_kind.Property = refl

same_self : (kind : Kind) → same_kind kind kind ≡ true
same_self (procedure kind) = same_procedure_self kind
same_self enum = refl
same_self type = refl
same_self if_block = refl
same_self select = refl
same_self for_loop = refl
same_self do_loop = refl
same_self while_loop = refl
same_self with_block = refl

same_procedure_is : (a b : ProcedureKind) → same_procedure a b ≡ true → a ≡ b
same_procedure_is procedure_kind.Sub procedure_kind.Sub h = refl
same_procedure_is procedure_kind.Function procedure_kind.Function h = refl
same_procedure_is procedure_kind.Property procedure_kind.Property h = refl
same_procedure_is a b h = absurd cc

same_is : (a b : Kind) → same_kind a b ≡ true → a ≡ b
same_is (procedure a) (procedure b) h = ap procedure (same_procedure_is a b h)
same_is enum enum h = refl
same_is type type h = refl
same_is if_block if_block h = refl
same_is select select h = refl
same_is for_loop for_loop h = refl
same_is do_loop do_loop h = refl
same_is while_loop while_loop h = refl
same_is with_block with_block h = refl
same_is a b h = absurd cc

-- the innermost of its own kind
abbrev pub innermost : Open → List Open → Nearest
innermost opened others = record { inside = []; found = opened; outside = others }

pub nearest_self : (opened : Open) (others : List Open) → nearest opened.kind (opened ∷ others) ≡ Some (innermost opened others)
nearest_self opened others = rw (same_self opened.kind) refl

-- one with nothing inside is the innermost, and of the kind
abbrev pub IsInnermost : Kind → List Open → Nearest → Type 0
IsInnermost kind opened near = (opened ≡ near.found ∷ near.outside) × (kind ≡ near.found.kind)

is_innermost_at : (kind : Kind) (opened : Open) (others : List Open) (near : Nearest) (b c : Bool) (deeper : Option Nearest) → same_kind kind opened.kind ≡ b
    → (if b then Some (innermost opened others) else if c then None else with_inside opened deeper) ≡ Some near → near.inside ≡ [] → IsInnermost kind (opened ∷ others) near
is_innermost_at kind opened others near true c deeper s h e =
    let same : innermost opened others ≡ near = cc in (ap (λ (n : Nearest). n.found ∷ n.outside) same, same_is kind opened.kind s ∙ ap (λ (n : Nearest). n.found.kind) same)
is_innermost_at kind opened others near false true deeper s h e = absurd cc
is_innermost_at kind opened others near false false None s h e = absurd cc
is_innermost_at kind opened others near false false (Some inner) s h e =
    let same : record { inside = opened ∷ inner.inside; found = inner.found; outside = inner.outside } ≡ near = cc in
    let f : opened ∷ inner.inside ≡ [] = ap (λ (n : Nearest). n.inside) same ∙ e in absurd cc

pub is_innermost : (kind : Kind) (opened : List Open) (near : Nearest) → nearest kind opened ≡ Some near → near.inside ≡ [] → IsInnermost kind opened near
is_innermost kind [] near h e = absurd cc
is_innermost kind (opened ∷ others) near h e =
    is_innermost_at kind opened others near (same_kind kind opened.kind) (is_outer opened.kind && not (is_outer kind)) (nearest kind others) refl h e

inside_is_some : (opened : Open) (deeper : Option Nearest) → is_some (with_inside opened deeper) ≡ is_some deeper
inside_is_some opened None = refl
inside_is_some opened (Some near) = refl

-- a procedure is looked for everywhere
outer_at : (s c d : Bool) (opened : Open) (near : Nearest) (deeper : Option Nearest) → d ≡ true
    → is_some (if s then Some near else if c && not d then None else with_inside opened deeper) ≡ (s || is_some deeper)
outer_at true c d opened near deeper h = refl
outer_at false false d opened near deeper h = inside_is_some opened deeper
outer_at false true true opened near deeper h = inside_is_some opened deeper
outer_at false true false opened near deeper h = absurd cc

outer_found : (kind : Kind) (opened : List Open) → is_outer kind ≡ true → is_some (nearest kind opened) ≡ list_any (same_kind kind) (kinds_of opened)
outer_found kind [] h = refl
outer_found kind (opened ∷ others) h =
    outer_at (same_kind kind opened.kind) (is_outer opened.kind) (is_outer kind) opened (innermost opened others) (nearest kind others) h
    ∙ ap (λ b. same_kind kind opened.kind || b) (outer_found kind others h)

-- a block is looked for in its procedure
inner_at : (s c d : Bool) (opened : Open) (near : Nearest) (deeper : Option Nearest) → d ≡ false → (s ≡ true → c ≡ true → ⊥)
    → is_some (if s then Some near else if c && not d then None else with_inside opened deeper) ≡ (if c then false else s || is_some deeper)
inner_at true true d opened near deeper h apart = absurd (apart refl refl)
inner_at true false d opened near deeper h apart = refl
inner_at false true true opened near deeper h apart = absurd cc
inner_at false true false opened near deeper h apart = refl
inner_at false false d opened near deeper h apart = inside_is_some opened deeper

any_in : (test : Kind → Bool) (kind : Kind) (kinds : List Kind) (c : Bool) → list_any test (if c then [] else kind ∷ kinds) ≡ (if c then false else test kind || list_any test kinds)
any_in test kind kinds true = refl
any_in test kind kinds false = refl

outer_apart : (kind other : Kind) → is_outer kind ≡ false → same_kind kind other ≡ true → is_outer other ≡ true → ⊥
outer_apart kind other h s o = let e : is_outer kind ≡ is_outer other = ap is_outer (same_is kind other s) in absurd cc

inner_found : (kind : Kind) (opened : List Open) → is_outer kind ≡ false → is_some (nearest kind opened) ≡ list_any (same_kind kind) (in_procedure (kinds_of opened))
inner_found kind [] h = refl
inner_found kind (opened ∷ others) h =
    inner_at (same_kind kind opened.kind) (is_outer opened.kind) (is_outer kind) opened (innermost opened others) (nearest kind others) h (outer_apart kind opened.kind h)
    ∙ (ap (λ b. if is_outer opened.kind then false else same_kind kind opened.kind || b) (inner_found kind others h)
    ∙ sym (any_in (same_kind kind) opened.kind (in_procedure (kinds_of others)) (is_outer opened.kind)))

-- an Exit finds what it leaves just where it stands in that
pub found_leaves : (found : Kind × Place) (opened : List Open) → is_some (nearest found.0 opened) ≡ leaves (kinds_of opened) found
found_leaves found opened =
    cond_both (is_outer found.0) (list_any (same_kind found.0) (kinds_of opened)) (list_any (same_kind found.0) (in_procedure (kinds_of opened)))
    (λ b. is_some (nearest found.0 opened) ≡ b) (outer_found found.0 opened) (inner_found found.0 opened)
