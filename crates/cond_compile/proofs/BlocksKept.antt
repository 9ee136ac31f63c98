-- Of a conditional block the first true arm is kept.
use Rattle.std.proofs.Common.{◌≡◌, ℕ, Bool, true, false, not, List, [], ◌∷◌, ◌++◌, Option, Some, None, refl, sym, ap, ◌∙◌, append_assoc, inl, inr}
use Rattle.std.specs.Prelude.{◌⊎◌, ◌&&◌, ◌||◌, is_some, option_map, if◌then◌else◌}
use Rattle.std.proofs.lemmas.Bool.{and_left, and_right, and_from, or_from, or_right, not_from_false}
use Rattle.std.proofs.lemmas.List.{append-nil}
use Rattle.vba_base.specs.declared.place.Place.{Place}
use Rattle.vba_lexer.specs.declared.token.Token.{Token}
use Rattle.vba_lexer.specs.Lexed.{LexedLine}
use Rattle.cond_compile.specs.declared.arm.Arm.{Arm}
use Rattle.cond_compile.specs.declared.directive.DirectiveKind.{DirectiveKind}
use Rattle.cond_compile.specs.declared.directive.DirectiveKind.TheVariants.{Constant, If, ElseIf, Else, EndIf, Unknown}
use Rattle.cond_compile.specs.Blocks.{Block, no_lines, plain, conditional, Arms, no_arms, arm, lines_of, line_kind, is_of_block, IsBlock, AreArms, Kept, kept_line, defined, value_in, arm_holds, directive_holds, is_true, kept_of, kept_of_arms}
use Rattle.cond_compile.specs.Pieces.{pieces_behind}
use Rattle.cond_compile.specs.Selection.{Directive, Ground, behind_directive, constants_behind, directive_in, evaluated, has_true, holds, is_due, is_first_true, is_kept, kept_lines, name_defined, next_arm, opening}
use Rattle.cond_compile.proofs.BlockLines.{Constants, Lines, ahead, arms_ahead, directed, Directed, first_arm, ground, later_arm, lines_are, made, next_is, place_of}

-- behind a line that is a directive, and behind one that is none
passed : (source : List ℕ) (standing : Ground) (first : LexedLine) (directive : Directive) (lines : Lines)
    → directive_in source first.tokens ≡ Some directive
    → kept_lines source standing (first ∷ lines) ≡ kept_lines source (behind_directive source standing (place_of first) directive) lines
passed source standing first directive lines is = rw is refl

stands : (source : List ℕ) (standing : Ground) (first : LexedLine) (lines : Lines) → directive_in source first.tokens ≡ None
    → kept_lines source standing (first ∷ lines)
    ≡ (if is_kept standing.arms then first ∷ kept_lines source standing lines else kept_lines source standing lines)
stands source standing first lines is = rw is refl

unkept : (this : Arm) (arms : List Arm) → is_kept arms ≡ false → is_kept (this ∷ arms) ≡ false
unkept this arms e = and_right (is_first_true this) (is_kept arms) e

not_first : (this : Arm) (arms : List Arm) → is_first_true this ≡ false → is_kept (this ∷ arms) ≡ false
not_first this arms e = and_left (is_first_true this) (is_kept arms) e

-- no further arm of the `#If` is kept
abbrev Closed : Arm → List Arm → Type 0
Closed this outer = (is_kept outer ≡ false) ⊎ (has_true this ≡ true)

later_unkept : (this : Arm) (outer : List Arm) (own is_else : Bool) → Closed this outer → is_kept (later_arm this own is_else ∷ outer) ≡ false
later_unkept this outer own is_else (inl e) = unkept (later_arm this own is_else) outer e
later_unkept this outer own is_else (inr e) =
    not_first (later_arm this own is_else) outer (and_right own (not (has_true this)) (ap not e))

later_closed : (this : Arm) (outer : List Arm) (own is_else : Bool) → Closed this outer → Closed (later_arm this own is_else) outer
later_closed this outer own is_else (inl e) = inl e
later_closed this outer own is_else (inr e) = inr (ap (λ (b : Bool). b || own) e)

same_constants : (name : Option (List ℕ)) (constants : Constants) → constants_behind Constant name None constants ≡ constants
same_constants None constants = refl
same_constants (Some name) constants = refl

-- a line by itself on ground that is not kept
skips_kind : (source : List ℕ) (constants : Constants) (arms : List Arm) (place : Place) (lines : Lines) → is_kept arms ≡ false
    → (kind : DirectiveKind) (last : Token) (rest : List Token) → is_of_block (Some kind) ≡ false
    → kept_lines source (behind_directive source (ground constants arms) place (made kind last rest)) lines ≡ kept_lines source (ground constants arms) lines
skips_kind source constants arms place lines unkept Constant last rest alone =
    let name = name_defined (pieces_behind source last rest) in
    ap (λ (b : Bool). kept_lines source (ground (constants_behind Constant name (if b then value_in source constants (made Constant last rest) else None) constants) arms) lines) unkept
    ∙ ap (λ (cs : Constants). kept_lines source (ground cs arms) lines) (same_constants name constants)
skips_kind source constants arms place lines unkept Unknown last rest alone = refl
skips_kind source constants arms place lines unkept If last rest alone = absurd cc
skips_kind source constants arms place lines unkept ElseIf last rest alone = absurd cc
skips_kind source constants arms place lines unkept Else last rest alone = absurd cc
skips_kind source constants arms place lines unkept EndIf last rest alone = absurd cc

skips_found : (source : List ℕ) (constants : Constants) (arms : List Arm) (first : LexedLine) (lines : Lines) → is_kept arms ≡ false
    → (found : Option Directive) → directive_in source first.tokens ≡ found → is_of_block (option_map (λ directive. directive.kind) found) ≡ false
    → kept_lines source (ground constants arms) (first ∷ lines) ≡ kept_lines source (ground constants arms) lines
skips_found source constants arms first lines unkept None is alone =
    stands source (ground constants arms) first lines is
    ∙ ap (λ (b : Bool). if b then first ∷ kept_lines source (ground constants arms) lines else kept_lines source (ground constants arms) lines) unkept
skips_found source constants arms first lines unkept (Some directive) is alone =
    passed source (ground constants arms) first directive lines is
    ∙ skips_kind source constants arms (place_of first) lines unkept directive.kind directive.last directive.rest alone

-- a line by itself on kept ground
keeps_kind : (source : List ℕ) (constants : Constants) (arms : List Arm) (place : Place) (lines : Lines) → is_kept arms ≡ true
    → (kind : DirectiveKind) (last : Token) (rest : List Token) → is_of_block (Some kind) ≡ false
    → kept_lines source (behind_directive source (ground constants arms) place (made kind last rest)) lines
    ≡ kept_lines source (ground (defined source constants (Some (made kind last rest))) arms) lines
keeps_kind source constants arms place lines kept Constant last rest alone =
    let name = name_defined (pieces_behind source last rest) in
    ap (λ (b : Bool). kept_lines source (ground (constants_behind Constant name (if b then value_in source constants (made Constant last rest) else None) constants) arms) lines) kept
keeps_kind source constants arms place lines kept Unknown last rest alone = refl
keeps_kind source constants arms place lines kept If last rest alone = absurd cc
keeps_kind source constants arms place lines kept ElseIf last rest alone = absurd cc
keeps_kind source constants arms place lines kept Else last rest alone = absurd cc
keeps_kind source constants arms place lines kept EndIf last rest alone = absurd cc

-- what is kept of a line by itself, by the directive that it is
abbrev line_by : List ℕ → Constants → LexedLine → Option Directive → Kept
line_by source constants first found =
    record { lines = if is_some found then [] else first ∷ []; constants = defined source constants found }

keeps_found : (source : List ℕ) (constants : Constants) (arms : List Arm) (first : LexedLine) (lines : Lines) → is_kept arms ≡ true
    → (found : Option Directive) → directive_in source first.tokens ≡ found → is_of_block (option_map (λ directive. directive.kind) found) ≡ false
    → kept_lines source (ground constants arms) (first ∷ lines)
    ≡ (line_by source constants first found).lines ++ kept_lines source (ground (line_by source constants first found).constants arms) lines
keeps_found source constants arms first lines kept None is alone =
    stands source (ground constants arms) first lines is
    ∙ ap (λ (b : Bool). if b then first ∷ kept_lines source (ground constants arms) lines else kept_lines source (ground constants arms) lines) kept
keeps_found source constants arms first lines kept (Some directive) is alone =
    passed source (ground constants arms) first directive lines is
    ∙ keeps_kind source constants arms (place_of first) lines kept directive.kind directive.last directive.rest alone

-- whatever the constants, nothing is kept of lines on ground that is not kept
abbrev Skips : List ℕ → (Lines → Lines) → Type 0
Skips source before =
    (constants : Constants) (arms : List Arm) (more : Lines) → is_kept arms ≡ false
    → kept_lines source (ground constants arms) (before more) ≡ kept_lines source (ground constants arms) more

-- nor of the arms behind a true one
abbrev SkipsArms : List ℕ → Arms → Type 0
SkipsArms source arms =
    (constants : Constants) (this : Arm) (outer : List Arm) (end : LexedLine) (more : Lines) → Closed this outer
    → line_kind source end ≡ Some EndIf → (this.is_else ≡ false) ⊎ (arms ≡ no_arms)
    → kept_lines source (ground constants (this ∷ outer)) (arms_ahead arms (end ∷ more)) ≡ kept_lines source (ground constants outer) more

ended : (source : List ℕ) (constants : Constants) (this : Arm) (outer : List Arm) (end : LexedLine) (more : Lines) → line_kind source end ≡ Some EndIf
    → kept_lines source (ground constants (this ∷ outer)) (end ∷ more) ≡ kept_lines source (ground constants outer) more
ended source constants this outer end more is =
    let d = directed source end EndIf is in
    passed source (ground constants (this ∷ outer)) end (made EndIf d.last d.rest) more d.is

skips_line : (source : List ℕ) (first : LexedLine) (rest : Block) → is_of_block (line_kind source first) ≡ false → Skips source (ahead rest)
    → Skips source (ahead (plain first rest))
skips_line source first rest alone skips constants arms more unkept =
    skips_found source constants arms first (ahead rest more) unkept (directive_in source first.tokens) refl alone
    ∙ skips constants arms more unkept

skips_conditional : (source : List ℕ) (header : LexedLine) (body : Block) (arms : Arms) (end : LexedLine) (rest : Block)
    → line_kind source header ≡ Some If → line_kind source end ≡ Some EndIf
    → Skips source (ahead body) → SkipsArms source arms → Skips source (ahead rest)
    → Skips source (ahead (conditional header body arms end rest))
skips_conditional source header body arms end rest is_if is_end skips_body skips_arms skips_rest constants outer more unkept_outer =
    let d = directed source header If is_if in
    let this : Arm = first_arm (place_of header) (holds (evaluated source (ground constants outer) (made If d.last d.rest))) in
    passed source (ground constants outer) header (made If d.last d.rest) (ahead body (arms_ahead arms (end ∷ ahead rest more))) d.is
    ∙ skips_body constants (this ∷ outer) (arms_ahead arms (end ∷ ahead rest more)) (unkept this outer unkept_outer)
    ∙ skips_arms constants this outer end (ahead rest more) (inl unkept_outer) is_end (inl refl)
    ∙ skips_rest constants outer more unkept_outer

-- behind the line of a further arm, where no arm before it is the `#Else`
gone_on : (source : List ℕ) (constants : Constants) (this : Arm) (outer : List Arm) (lines : Lines) (own is_else : Bool) → this.is_else ≡ false
    → kept_lines source (ground constants (next_arm this own is_else ∷ outer)) lines
    ≡ kept_lines source (ground constants (later_arm this own is_else ∷ outer)) lines
gone_on source constants this outer lines own is_else e =
    ap (λ (a : Arm). kept_lines source (ground constants (a ∷ outer)) lines) (next_is this own is_else e)

skips_arm : (source : List ℕ) (header : LexedLine) (body : Block) (arms : Arms)
    → (line_kind source header ≡ Some ElseIf) ⊎ ((line_kind source header ≡ Some Else) × (arms ≡ no_arms))
    → Skips source (ahead body) → SkipsArms source arms → SkipsArms source (arm header body arms)
skips_arm source header body arms is skips_body skips_arms constants this outer end more closed is_end (inr none) = absurd cc
skips_arm source header body arms (inl is) skips_body skips_arms constants this outer end more closed is_end (inl further) =
    let d = directed source header ElseIf is in
    let own : Bool = holds (evaluated source (ground constants (this ∷ outer)) (made ElseIf d.last d.rest)) in
    let next : Arm = later_arm this own false in
    passed source (ground constants (this ∷ outer)) header (made ElseIf d.last d.rest) (ahead body (arms_ahead arms (end ∷ more))) d.is
    ∙ gone_on source constants this outer (ahead body (arms_ahead arms (end ∷ more))) own false further
    ∙ skips_body constants (next ∷ outer) (arms_ahead arms (end ∷ more)) (later_unkept this outer own false closed)
    ∙ skips_arms constants next outer end more (later_closed this outer own false closed) is_end (inl refl)
skips_arm source header body arms (inr is) skips_body skips_arms constants this outer end more closed is_end (inl further) =
    let d = directed source header Else is.0 in
    let next : Arm = later_arm this true true in
    passed source (ground constants (this ∷ outer)) header (made Else d.last d.rest) (ahead body (arms_ahead arms (end ∷ more))) d.is
    ∙ gone_on source constants this outer (ahead body (arms_ahead arms (end ∷ more))) true true further
    ∙ skips_body constants (next ∷ outer) (arms_ahead arms (end ∷ more)) (later_unkept this outer true true closed)
    ∙ skips_arms constants next outer end more (later_closed this outer true true closed) is_end (inr is.1)

mutual
  skips_block : (source : List ℕ) (block : Block) → IsBlock source block → Skips source (ahead block)
  skips_block source no_lines is = λ constants arms more unkept. refl
  skips_block source (plain first rest) is = skips_line source first rest is.0 (skips_block source rest is.1)
  skips_block source (conditional header body arms end rest) is =
      skips_conditional source header body arms end rest is.0 is.3 (skips_block source body is.1) (skips_arms source arms is.2) (skips_block source rest is.4)

  skips_arms : (source : List ℕ) (arms : Arms) → AreArms source arms → SkipsArms source arms
  skips_arms source no_arms are = λ constants this outer end more closed is_end last. ended source constants this outer end more is_end
  skips_arms source (arm header body arms) are = skips_arm source header body arms are.0 (skips_block source body are.1) (skips_arms source arms are.2)

-- what is kept of lines on kept ground, and the constants behind them
abbrev Keeps : List ℕ → (Lines → Lines) → (Constants → Kept) → Type 0
Keeps source before kept =
    (constants : Constants) (arms : List Arm) (more : Lines) → is_kept arms ≡ true
    → kept_lines source (ground constants arms) (before more)
    ≡ (kept constants).lines ++ kept_lines source (ground (kept constants).constants arms) more

-- no arm before was true
abbrev KeepsArms : List ℕ → Arms → Type 0
KeepsArms source arms =
    (constants : Constants) (this : Arm) (outer : List Arm) (end : LexedLine) (more : Lines) → is_kept outer ≡ true
    → has_true this ≡ false → this.is_else ≡ false → line_kind source end ≡ Some EndIf
    → kept_lines source (ground constants (this ∷ outer)) (arms_ahead arms (end ∷ more))
    ≡ (kept_of_arms source constants arms).lines ++ kept_lines source (ground (kept_of_arms source constants arms).constants outer) more

keeps_line : (source : List ℕ) (first : LexedLine) (rest : Block) → is_of_block (line_kind source first) ≡ false
    → Keeps source (ahead rest) (λ constants. kept_of source constants rest)
    → Keeps source (ahead (plain first rest)) (λ constants. kept_of source constants (plain first rest))
keeps_line source first rest alone keeps constants arms more kept =
    let by : Kept = kept_line source constants first in
    keeps_found source constants arms first (ahead rest more) kept (directive_in source first.tokens) refl alone
    ∙ ap (λ (lines : Lines). by.lines ++ lines) (keeps by.constants arms more kept)
    ∙ sym (append_assoc by.lines (kept_of source by.constants rest).lines (kept_lines source (ground (kept_of source by.constants rest).constants arms) more))

-- the condition of an arm is evaluated on kept ground where no arm before was true
condition : (source : List ℕ) (constants : Constants) (first : LexedLine) (kind : DirectiveKind) (arms : List Arm) (d : Directed source first kind)
    → is_due kind arms ≡ true → arm_holds kind (value_in source constants (made kind d.last d.rest)) ≡ holds (value_in source constants (made kind d.last d.rest))
    → holds (evaluated source (ground constants arms) (made kind d.last d.rest)) ≡ is_true source constants first
condition source constants first kind arms d due same =
    ap (λ (b : Bool). holds (if b then value_in source constants (made kind d.last d.rest) else None)) due
    ∙ sym same
    ∙ sym (ap (λ (found : Option Directive). directive_holds source constants found) d.is)

-- what is kept of an `#If` block, by whether its first condition holds
abbrev chosen_of : List ℕ → Constants → Block → Arms → Bool → Kept
chosen_of source constants body arms b = if b then kept_of source constants body else kept_of_arms source constants arms

keeps_first : (source : List ℕ) (body : Block) (arms : Arms) (end : LexedLine) (more : Lines)
    → Keeps source (ahead body) (λ constants. kept_of source constants body) → Skips source (ahead body) → KeepsArms source arms → SkipsArms source arms
    → line_kind source end ≡ Some EndIf → (constants : Constants) (this : Arm) (outer : List Arm) → is_kept outer ≡ true
    → this.earlier ≡ false → (this.is_else ≡ false) ⊎ (arms ≡ no_arms) → (this.own ≡ false → this.is_else ≡ false) → (own : Bool) → this.own ≡ own
    → kept_lines source (ground constants (this ∷ outer)) (ahead body (arms_ahead arms (end ∷ more)))
    ≡ (chosen_of source constants body arms own).lines ++ kept_lines source (ground (chosen_of source constants body arms own).constants outer) more
keeps_first source body arms end more keeps_body skips_body keeps_arms skips_arms is_end constants this outer kept first last further true own =
    let by : Kept = kept_of source constants body in
    keeps_body constants (this ∷ outer) (arms_ahead arms (end ∷ more))
    (and_from (is_first_true this) (is_kept outer) (and_from this.own (not this.earlier) own (ap not first)) kept)
    ∙ ap (λ (lines : Lines). by.lines ++ lines)
    (skips_arms by.constants this outer end more (inr (or_right this.earlier this.own own)) is_end last)
keeps_first source body arms end more keeps_body skips_body keeps_arms skips_arms is_end constants this outer kept first last further false own =
    skips_body constants (this ∷ outer) (arms_ahead arms (end ∷ more)) (not_first this outer (and_left this.own (not this.earlier) own))
    ∙ keeps_arms constants this outer end more kept (or_from this.earlier this.own first own) (further own) is_end

keeps_conditional : (source : List ℕ) (header : LexedLine) (body : Block) (arms : Arms) (end : LexedLine) (rest : Block)
    → line_kind source header ≡ Some If → line_kind source end ≡ Some EndIf
    → Keeps source (ahead body) (λ constants. kept_of source constants body) → Skips source (ahead body) → KeepsArms source arms → SkipsArms source arms
    → Keeps source (ahead rest) (λ constants. kept_of source constants rest)
    → Keeps source (ahead (conditional header body arms end rest)) (λ constants. kept_of source constants (conditional header body arms end rest))
keeps_conditional source header body arms end rest is_if is_end keeps_body skips_body keeps_arms skips_arms keeps_rest constants outer more kept =
    let d = directed source header If is_if in
    let this : Arm = first_arm (place_of header) (holds (evaluated source (ground constants outer) (made If d.last d.rest))) in
    let by : Kept = chosen_of source constants body arms (is_true source constants header) in
    passed source (ground constants outer) header (made If d.last d.rest) (ahead body (arms_ahead arms (end ∷ ahead rest more))) d.is
    ∙ keeps_first source body arms end (ahead rest more) keeps_body skips_body keeps_arms skips_arms is_end constants this outer kept refl (inl refl) (λ e. refl)
    (is_true source constants header) (condition source constants header If outer d kept refl)
    ∙ ap (λ (lines : Lines). by.lines ++ lines) (keeps_rest by.constants outer more kept)
    ∙ sym (append_assoc by.lines (kept_of source by.constants rest).lines (kept_lines source (ground (kept_of source by.constants rest).constants outer) more))

due : (this : Arm) (outer : List Arm) → is_kept outer ≡ true → has_true this ≡ false → this.is_else ≡ false → is_due ElseIf (this ∷ outer) ≡ true
due this outer kept none further =
    and_from (is_kept outer && not (has_true this)) (not this.is_else)
    (and_from (is_kept outer) (not (has_true this)) kept (not_from_false (has_true this) none)) (not_from_false this.is_else further)

keeps_arm : (source : List ℕ) (header : LexedLine) (body : Block) (arms : Arms)
    → (line_kind source header ≡ Some ElseIf) ⊎ ((line_kind source header ≡ Some Else) × (arms ≡ no_arms))
    → Keeps source (ahead body) (λ constants. kept_of source constants body) → Skips source (ahead body) → KeepsArms source arms → SkipsArms source arms
    → KeepsArms source (arm header body arms)
keeps_arm source header body arms (inl is) keeps_body skips_body keeps_arms skips_arms constants this outer end more kept none further is_end =
    let d = directed source header ElseIf is in
    let own : Bool = holds (evaluated source (ground constants (this ∷ outer)) (made ElseIf d.last d.rest)) in
    passed source (ground constants (this ∷ outer)) header (made ElseIf d.last d.rest) (ahead body (arms_ahead arms (end ∷ more))) d.is
    ∙ gone_on source constants this outer (ahead body (arms_ahead arms (end ∷ more))) own false further
    ∙ keeps_first source body arms end more keeps_body skips_body keeps_arms skips_arms is_end constants (later_arm this own false) outer kept none (inl refl) (λ e. refl)
    (is_true source constants header) (condition source constants header ElseIf (this ∷ outer) d (due this outer kept none further) refl)
keeps_arm source header body arms (inr is) keeps_body skips_body keeps_arms skips_arms constants this outer end more kept none further is_end =
    let d = directed source header Else is.0 in
    let holds_so : is_true source constants header ≡ true = ap (λ (found : Option Directive). directive_holds source constants found) d.is in
    passed source (ground constants (this ∷ outer)) header (made Else d.last d.rest) (ahead body (arms_ahead arms (end ∷ more))) d.is
    ∙ gone_on source constants this outer (ahead body (arms_ahead arms (end ∷ more))) true true further
    ∙ keeps_first source body arms end more keeps_body skips_body keeps_arms skips_arms is_end constants (later_arm this true true) outer kept none (inr is.1) (λ e. absurd cc)
    (is_true source constants header) (sym holds_so)

mutual
  keeps_block : (source : List ℕ) (block : Block) → IsBlock source block → Keeps source (ahead block) (λ constants. kept_of source constants block)
  keeps_block source no_lines is = λ constants arms more kept. refl
  keeps_block source (plain first rest) is = keeps_line source first rest is.0 (keeps_block source rest is.1)
  keeps_block source (conditional header body arms end rest) is =
      keeps_conditional source header body arms end rest is.0 is.3 (keeps_block source body is.1) (skips_block source body is.1)
      (keeps_arms source arms is.2) (skips_arms source arms is.2) (keeps_block source rest is.4)

  keeps_arms : (source : List ℕ) (arms : Arms) → AreArms source arms → KeepsArms source arms
  keeps_arms source no_arms are = λ constants this outer end more kept none further is_end. ended source constants this outer end more is_end
  keeps_arms source (arm header body arms) are =
      keeps_arm source header body arms are.0 (keeps_block source body are.1) (skips_block source body are.1) (keeps_arms source arms are.2) (skips_arms source arms are.2)

-- what is kept of a block's lines from the start
pub kept_by_blocks : (source : List ℕ) (block : Block) → IsBlock source block
    → kept_lines source opening (lines_of block) ≡ (kept_of source opening.constants block).lines
kept_by_blocks source block is =
    ap (kept_lines source opening) (lines_are block)
    ∙ keeps_block source block is opening.constants [] [] refl
    ∙ append-nil (kept_of source opening.constants block).lines
