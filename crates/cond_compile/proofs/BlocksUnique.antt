-- Lines have no two block structures.
use Rattle.std.proofs.Common.{◌≡◌, ℕ, Bool, true, false, List, [], ◌∷◌, Option, Some, None, refl, sym, ap, ◌∙◌, subst, inl, inr}
use Rattle.std.specs.Prelude.{◌⊎◌}
use Rattle.vba_lexer.specs.Lexed.{LexedLine}
use Rattle.cond_compile.specs.declared.directive.DirectiveKind.{DirectiveKind}
use Rattle.cond_compile.specs.declared.directive.DirectiveKind.TheVariants.{Constant, If, ElseIf, Else, EndIf, Unknown}
use Rattle.cond_compile.specs.Blocks.{Block, no_lines, plain, conditional, Arms, no_arms, arm, lines_of, line_kind, is_of_block, IsBlock, AreArms}
use Rattle.cond_compile.proofs.BlockLines.{Lines, ahead, arms_ahead, lines_are}

-- a directive that ends a block
abbrev ends_block : Option DirectiveKind → Bool
ends_block (Some ElseIf) = true
ends_block (Some Else) = true
ends_block (Some EndIf) = true
ends_block kind = false

-- the lines are none, or begin with one that ends a block
abbrev Stop : List ℕ → Lines → Type 0
Stop source [] = Unit {0}
Stop source (first ∷ lines) = ends_block (line_kind source first) ≡ true

ends_is_of_block : (kind : Option DirectiveKind) → ends_block kind ≡ true → is_of_block kind ≡ false → ⊥
ends_is_of_block None e alone = cc
ends_is_of_block (Some Constant) e alone = cc
ends_is_of_block (Some If) e alone = cc
ends_is_of_block (Some ElseIf) e alone = cc
ends_is_of_block (Some Else) e alone = cc
ends_is_of_block (Some EndIf) e alone = cc
ends_is_of_block (Some Unknown) e alone = cc

-- what stops a block is neither a line by itself nor an `#If`
no_line : (source : List ℕ) (first : LexedLine) (lines stop : Lines) → Stop source stop → is_of_block (line_kind source first) ≡ false → stop ≡ first ∷ lines → ⊥
no_line source first lines stop stops alone same = ends_is_of_block (line_kind source first) (subst (Stop source) same stops) alone

no_if : (source : List ℕ) (first : LexedLine) (lines stop : Lines) → Stop source stop → line_kind source first ≡ Some If → stop ≡ first ∷ lines → ⊥
no_if source first lines stop stops is same =
    let e : ends_block (line_kind source first) ≡ true = subst (Stop source) same stops in
    let f : ends_block (line_kind source first) ≡ false = ap ends_block is in
    cc

-- a line by itself is no `#If`
not_both : (source : List ℕ) (alone header : LexedLine) → is_of_block (line_kind source alone) ≡ false → line_kind source header ≡ Some If → alone ≡ header → ⊥
not_both source alone header e is same =
    let f : is_of_block (line_kind source alone) ≡ true = ap (λ (l : LexedLine). is_of_block (line_kind source l)) same ∙ ap is_of_block is in
    cc

arm_ends : (source : List ℕ) (header : LexedLine) (arms : Arms) → (line_kind source header ≡ Some ElseIf) ⊎ ((line_kind source header ≡ Some Else) × (arms ≡ no_arms))
    → ends_block (line_kind source header) ≡ true
arm_ends source header arms (inl is) = ap ends_block is
arm_ends source header arms (inr is) = ap ends_block is.0

arms_stop : (source : List ℕ) (arms : Arms) → AreArms source arms → (end : LexedLine) → line_kind source end ≡ Some EndIf → (more : Lines)
    → Stop source (arms_ahead arms (end ∷ more))
arms_stop source no_arms are end is_end more = ap ends_block is_end
arms_stop source (arm header body arms) are end is_end more = arm_ends source header arms are.0

-- an arm's line is no `#End If`
no_end : (source : List ℕ) (header end : LexedLine) (arms : Arms) → (line_kind source header ≡ Some ElseIf) ⊎ ((line_kind source header ≡ Some Else) × (arms ≡ no_arms))
    → line_kind source end ≡ Some EndIf → end ≡ header → ⊥
no_end source header end arms (inl is) is_end same =
    let e : line_kind source end ≡ line_kind source header = ap (line_kind source) same in
    cc
no_end source header end arms (inr is) is_end same =
    let e : line_kind source end ≡ line_kind source header = ap (line_kind source) same in
    let f : line_kind source header ≡ Some Else = is.0 in
    cc

-- two blocks with the same lines before lines that stop them
abbrev One : List ℕ → Block → Type 0
One source block =
    (other : Block) → IsBlock source other → (more further : Lines) → Stop source more → Stop source further
    → ahead block more ≡ ahead other further → (block ≡ other) × (more ≡ further)

abbrev OneArms : List ℕ → Arms → Type 0
OneArms source arms =
    (other : Arms) → AreArms source other → (end last : LexedLine) → line_kind source end ≡ Some EndIf → line_kind source last ≡ Some EndIf
    → (more further : Lines) → arms_ahead arms (end ∷ more) ≡ arms_ahead other (last ∷ further)
    → (arms ≡ other) × (end ≡ last) × (more ≡ further)

one_empty : (source : List ℕ) → One source no_lines
one_empty source no_lines is more further stops stop same = (refl, same)
one_empty source (plain first rest) is more further stops stop same = absurd (no_line source first (ahead rest further) more stops is.0 same)
one_empty source (conditional header body arms end rest) is more further stops stop same =
    absurd (no_if source header (ahead body (arms_ahead arms (end ∷ ahead rest further))) more stops is.0 same)

one_line : (source : List ℕ) (first : LexedLine) (rest : Block) → is_of_block (line_kind source first) ≡ false → One source rest → One source (plain first rest)
one_line source first rest alone one no_lines is more further stops stop same =
    absurd (no_line source first (ahead rest more) further stop alone (sym same))
one_line source first rest alone one (plain head behind) is more further stops stop same =
    let here : first ≡ head = cc in
    let below : ahead rest more ≡ ahead behind further = cc in
    let both = one behind is.1 more further stops stop below in
    let same_rest : rest ≡ behind = both.0 in
    (cc, both.1)
one_line source first rest alone one (conditional header body arms end behind) is more further stops stop same =
    let here : first ≡ header = cc in
    absurd (not_both source first header alone is.0 here)

one_conditional : (source : List ℕ) (header : LexedLine) (body : Block) (arms : Arms) (end : LexedLine) (rest : Block)
    → line_kind source header ≡ Some If → AreArms source arms → line_kind source end ≡ Some EndIf
    → One source body → OneArms source arms → One source rest → One source (conditional header body arms end rest)
one_conditional source header body arms end rest is_if are is_end one_body one_arms one_rest no_lines is more further stops stop same =
    absurd (no_if source header (ahead body (arms_ahead arms (end ∷ ahead rest more))) further stop is_if (sym same))
one_conditional source header body arms end rest is_if are is_end one_body one_arms one_rest (plain head behind) is more further stops stop same =
    let here : head ≡ header = cc in
    absurd (not_both source head header is.0 is_if here)
one_conditional source header body arms end rest is_if are is_end one_body one_arms one_rest (conditional head inner others last behind) is more further stops stop same =
    let here : header ≡ head = cc in
    let below : ahead body (arms_ahead arms (end ∷ ahead rest more)) ≡ ahead inner (arms_ahead others (last ∷ ahead behind further)) = cc in
    let of_body = one_body inner is.1 (arms_ahead arms (end ∷ ahead rest more)) (arms_ahead others (last ∷ ahead behind further))
    (arms_stop source arms are end is_end (ahead rest more)) (arms_stop source others is.2 last is.3 (ahead behind further)) below in
    let of_arms = one_arms others is.2 end last is_end is.3 (ahead rest more) (ahead behind further) of_body.1 in
    let of_rest = one_rest behind is.4 more further stops stop of_arms.2 in
    let same_body : body ≡ inner = of_body.0 in
    let same_arms : arms ≡ others = of_arms.0 in
    let same_end : end ≡ last = of_arms.1 in
    let same_rest : rest ≡ behind = of_rest.0 in
    (cc, of_rest.1)

one_no_arms : (source : List ℕ) → OneArms source no_arms
one_no_arms source no_arms are end last is_end is_last more further same =
    let ends : end ≡ last = cc in
    let below : more ≡ further = cc in
    (refl, ends, below)
one_no_arms source (arm header body arms) are end last is_end is_last more further same =
    let ends : end ≡ header = cc in
    absurd (no_end source header end arms are.0 is_end ends)

one_arm : (source : List ℕ) (header : LexedLine) (body : Block) (arms : Arms)
    → (line_kind source header ≡ Some ElseIf) ⊎ ((line_kind source header ≡ Some Else) × (arms ≡ no_arms)) → AreArms source arms
    → One source body → OneArms source arms → OneArms source (arm header body arms)
one_arm source header body arms is are one_body one_arms no_arms others_are end last is_end is_last more further same =
    let ends : last ≡ header = cc in
    absurd (no_end source header last arms is is_last ends)
one_arm source header body arms is are one_body one_arms (arm head inner others) others_are end last is_end is_last more further same =
    let here : header ≡ head = cc in
    let below : ahead body (arms_ahead arms (end ∷ more)) ≡ ahead inner (arms_ahead others (last ∷ further)) = cc in
    let of_body = one_body inner others_are.1 (arms_ahead arms (end ∷ more)) (arms_ahead others (last ∷ further))
    (arms_stop source arms are end is_end more) (arms_stop source others others_are.2 last is_last further) below in
    let of_arms = one_arms others others_are.2 end last is_end is_last more further of_body.1 in
    let same_body : body ≡ inner = of_body.0 in
    let same_arms : arms ≡ others = of_arms.0 in
    (cc, of_arms.1, of_arms.2)

mutual
  one_block : (source : List ℕ) (block : Block) → IsBlock source block → One source block
  one_block source no_lines is = one_empty source
  one_block source (plain first rest) is = one_line source first rest is.0 (one_block source rest is.1)
  one_block source (conditional header body arms end rest) is =
      one_conditional source header body arms end rest is.0 is.2 is.3 (one_block source body is.1) (one_arms source arms is.2) (one_block source rest is.4)

  one_arms : (source : List ℕ) (arms : Arms) → AreArms source arms → OneArms source arms
  one_arms source no_arms are = one_no_arms source
  one_arms source (arm header body arms) are = one_arm source header body arms are.0 are.2 (one_block source body are.1) (one_arms source arms are.2)

pub blocks_are_unique : (source : List ℕ) (block other : Block) → IsBlock source block → IsBlock source other → lines_of block ≡ lines_of other → block ≡ other
blocks_are_unique source block other is other_is same =
    let both = one_block source block is other other_is [] [] tt tt (sym (lines_are block) ∙ same ∙ lines_are other) in
    both.0
