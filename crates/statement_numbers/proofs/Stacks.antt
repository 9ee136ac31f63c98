-- The blocks that stand open, as a plain list.
use Rattle.std.proofs.Common.{◌≡◌, ℕ, suc, ◌+◌, ◌<◌, Bool, true, false, List, [], ◌∷◌, ◌++◌, length, drop, refl, ap, ◌∙◌, add-one, drop-cons}
use Rattle.std.specs.Prelude.{map, ◌||◌}
use Rattle.std.specs.List.{list_any}
use mathlib.Core.List.{reverse_aux}
use Rattle.std.proofs.lemmas.List.{map-append, reverse-append, drop-map, length-map}
use Rattle.vba_module.specs.Blocks as blocks
use Rattle.vba_module.specs.Parts as parts
use Rattle.module_parts.specs.Brackets.{kind_view, IsRole}
use Rattle.module_parts.specs.View.{part_view, parts_view}
use Rattle.module_parts.specs.declared.bracket.Bracket.{Bracket}
use Rattle.module_parts.specs.declared.bracket.BlockKind.{BlockKind}
use Rattle.module_parts.specs.declared.part.Part.{Part}
use Rattle.binder.specs.Numbering as numbering
use Rattle.statement_numbers.specs.declared.opened.Opened.{Opened}
use Rattle.statement_numbers.specs.declared.standing.Standing.{Standing}
use Rattle.statement_numbers.specs.Behind.{awaited_after}
use Rattle.statement_numbers.specs.View.{role_view, part_at, no_part, opened_view, stack_view, awaits, standing_view}
use Rattle.statement_numbers.proofs.Steps.{same_opened, awaited-opened_behind}

awaited-onto : (body : List Part) (opened : List Opened) (behind : List numbering.Opened)
    → numbering.awaited (reverse_aux (map (opened_view body) opened) behind) ≡ reverse_aux (map (λ o. o.awaits) opened) (numbering.awaited behind)
awaited-onto body [] behind = refl
awaited-onto body (o ∷ opened) behind = awaited-onto body opened (opened_view body o ∷ behind)

-- which first arms are awaited
pub awaited-stack_view : (body : List Part) (opened : List Opened) → numbering.awaited (stack_view body opened) ≡ awaits opened
awaited-stack_view body opened = awaited-onto body opened []

pub stack-push : (body : List Part) (opened : List Opened) (o : Opened) → stack_view body (opened ++ o ∷ []) ≡ opened_view body o ∷ stack_view body opened
stack-push body opened o = simp (map-append, reverse-append)

-- one more block stands open
pub block_opened : (body : List Part) (at n first : ℕ) (kind : BlockKind) (selects : Bool) (rest : List parts.Part) (old new : List Opened)
    → new ≡ old ++ record { kind = kind; line = at; header = n; first = first; awaits = selects } ∷ []
    → selects ≡ numbering.is_select (kind_view kind)
    → first ≡ numbering.sought numbering.here (false ∷ awaits old) (suc n) rest
    → stack_view body new ≡ numbering.opened_behind (part_at body at) (blocks.opens (kind_view kind)) n rest (stack_view body old)
block_opened body at n first kind selects rest old new pushed is begins =
    rw (pushed, stack-push body old (record { kind = kind; line = at; header = n; first = first; awaits = selects }), awaited-stack_view body old, is, begins) refl

-- ---- whether one of them is of a kind

or_moved : (a b c : Bool) → (b || (a || c)) ≡ ((a || b) || c)
or_moved true true c = refl
or_moved true false c = refl
or_moved false true c = refl
or_moved false false c = refl

any-onto : {A : Type 0} (test : A → Bool) (xs ys : List A) → list_any test (reverse_aux xs ys) ≡ (list_any test xs || list_any test ys)
any-onto test [] ys = refl
any-onto test (x ∷ xs) ys = any-onto test xs (x ∷ ys) ∙ or_moved (test x) (list_any test xs) (list_any test ys)

or_false : (a : Bool) → (a || false) ≡ a
or_false true = refl
or_false false = refl

any-opened : (body : List Part) (test : blocks.Kind → Bool) (opened : List Opened)
    → list_any (λ (o : numbering.Opened). test o.kind) (map (opened_view body) opened) ≡ list_any (λ (o : Opened). test (kind_view o.kind)) opened
any-opened body test [] = refl
any-opened body test (o ∷ opened) = ap (λ b. test (kind_view o.kind) || b) (any-opened body test opened)

pub any-stack_view : (body : List Part) (test : blocks.Kind → Bool) (opened : List Opened)
    → list_any (λ (o : numbering.Opened). test o.kind) (stack_view body opened) ≡ list_any (λ (o : Opened). test (kind_view o.kind)) opened
any-stack_view body test opened =
    any-onto (λ (o : numbering.Opened). test o.kind) (map (opened_view body) opened) []
    ∙ (or_false (list_any (λ (o : numbering.Opened). test o.kind) (map (opened_view body) opened)) ∙ any-opened body test opened)

-- ---- the parts of a body, one after another

pub parts_next : (body : List Part) (at : ℕ) → at < length body → parts_view (drop at body) ≡ part_at body at ∷ parts_view (drop (at + 1) body)
parts_next body at within =
    let within_view : at < length (parts_view body) = rw (length-map) within in
    rw (← drop-map part_view at body, ← drop-map part_view (at + 1) body, add-one) (drop-cons (parts_view body) at no_part within_view)

-- the part that a walk passes next
pub walk_next : (body : List Part) (at n : ℕ) (around stood : List Opened) → at < length body → stood ≡ around
    → numbering.standings n (stack_view body around) (parts_view (drop at body))
    ≡ record { part = part_at body at; number = n; around = stack_view body stood; rest = parts_view (drop (at + 1) body) }
    ∷ drop 1 (numbering.standings n (stack_view body around) (parts_view (drop at body)))
walk_next body at n around stood within same = rw (parts_next body at within, same) refl

-- and those behind it
pub walk_behind : (body : List Part) (at n count : ℕ) (around behind : List Opened) (b : Bracket) → at < length body
    → IsRole b (blocks.role_of (part_at body at))
    → count ≡ numbering.part_count (part_at body at)
    → stack_view body behind ≡ numbering.opened_behind (part_at body at) (role_view b) n (parts_view (drop (at + 1) body)) (stack_view body around)
    → numbering.standings (n + count) (stack_view body behind) (parts_view (drop (at + 1) body))
    ≡ drop 1 (numbering.standings n (stack_view body around) (parts_view (drop at body)))
walk_behind body at n count around behind b within role counted stack =
    rw (
      parts_next body at within,
      stack,
      counted,
      ← same_opened (part_at body at) b (blocks.role_of (part_at body at)) n (parts_view (drop (at + 1) body)) (stack_view body around) role,
    )
    refl

-- what is sought behind a part
pub behind_sought : (what : numbering.Sought) (s : Standing) (b : Bracket) (around : List Bool) (number count : ℕ) (rest : List parts.Part)
    → IsRole b (blocks.role_of (standing_view s).part)
    → around ≡ awaited_after (role_view b) (awaits s.around.now)
    → count ≡ numbering.part_count (standing_view s).part
    → number ≡ s.number + count
    → rest ≡ (standing_view s).rest
    → numbering.sought what around number rest ≡ numbering.sought_behind what (standing_view s)
behind_sought what s b around number count rest role awaiting counted is follows =
    rw (
      follows,
      same_opened (standing_view s).part b (blocks.role_of (standing_view s).part) s.number (standing_view s).rest (standing_view s).around role,
      awaited-opened_behind (standing_view s).part (role_view b) s.number (standing_view s).rest (standing_view s).around,
      awaited-stack_view s.body.now s.around.now,
      ← awaiting,
      is,
      counted,
    )
    refl
