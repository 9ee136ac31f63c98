-- Lines are a block's exactly where no directive is unmatched.
use Rattle.std.proofs.Common.{◌≡◌, ℕ, Bool, true, false, not, List, [], ◌∷◌, ◌++◌, Option, Some, None, refl, sym, ap, ◌∙◌, subst, inl, inr, arith}
use Rattle.std.specs.Prelude.{◌≢◌, ◌⊎◌, ◌&&◌, IfSome, is_some, option_map, if◌then◌else◌}
use Rattle.std.specs.List.{AllByRecursion}
use Rattle.std.proofs.lemmas.List.Elements.{All-from_recursion, recursion_from_All}
use Rattle.vba_base.specs.declared.place.Place.{Place}
use Rattle.vba_base.specs.declared.place.Refusal.{Refusal}
use Rattle.vba_lexer.specs.declared.token.Token.{Token}
use Rattle.vba_lexer.specs.Lexed.{LexedLine}
use Rattle.cond_compile.specs.declared.arm.Arm.{Arm}
use Rattle.cond_compile.specs.declared.directive.DirectiveKind.{DirectiveKind}
use Rattle.cond_compile.specs.declared.directive.DirectiveKind.TheVariants.{Constant, If, ElseIf, Else, EndIf, Unknown}
use Rattle.cond_compile.specs.Blocks.{Block, no_lines, plain, conditional, Arms, no_arms, arm, lines_of, line_kind, is_of_block, IsBlock, AreArms, NoneBy, NoFaultBy}
use Rattle.refusal_order.specs.Least.{broken_if, fault_list}
use Rattle.cond_compile.specs.Selection.{Directive, Ground, behind, behind_directive, constants_behind, directive_in, directive_violations, enclosing, evaluated, expression_place, has_form, holds, is_bad, is_kept, is_unmatched, line_violations, name_defined, next_arm, opening, unclosed, violations}
use Rattle.cond_compile.specs.Pieces.{pieces_behind}
use Rattle.cond_compile.proofs.BlockLines.{Constants, Lines, ahead, arms_ahead, directed, ground, lines_are, made, next_is, place_of}

abbrev pub Other : Refusal → Type 0
Other refusal = refusal.rule ≢ 8

-- no refusal by rule 8
abbrev None8 : List Refusal → Type 0
None8 refusals = AllByRecursion Other refusals

none_append : (first second : List Refusal) → None8 first → None8 second → None8 (first ++ second)
none_append [] second none more = more
none_append (refusal ∷ first) second none more = (none.0, none_append first second none.1 more)

none_left : (first second : List Refusal) → None8 (first ++ second) → None8 first
none_left [] second none = tt
none_left (refusal ∷ first) second none = (none.0, none_left first second none.1)

none_right : (first second : List Refusal) → None8 (first ++ second) → None8 second
none_right [] second none = none
none_right (refusal ∷ first) second none = none_right first second none.1

-- a block whose lines these are
record Whole (source : List ℕ) (lines : Lines) : Type 0 where
  block : Block
  is : IsBlock source block
  same : lines ≡ ahead block []

-- what stands in an arm and behind it: the rest of its block, the further arms, the end, and lines of which something holds
record Within (source : List ℕ) (is_else : Bool) (Behind : Lines → Type 0) (lines : Lines) : Type 0 where
  block : Block
  is : IsBlock source block
  arms : Arms
  are : AreArms source arms
  last : (is_else ≡ false) ⊎ (arms ≡ no_arms)
  end : LexedLine
  is_end : line_kind source end ≡ Some EndIf
  tail : Lines
  same : lines ≡ ahead block (arms_ahead arms (end ∷ tail))
  outside : Behind tail

-- the lines end each of the arms
abbrev Ends : List ℕ → List Arm → Lines → Type 0
Ends source [] lines = Whole source lines
Ends source (this ∷ outer) lines = Within source this.is_else (Ends source outer) lines

-- lines before the innermost block
before_block : (source : List ℕ) (arms : List Arm) (lines : Lines) (wider : Block → Block) (put : Lines → Lines)
    → ((block : Block) → IsBlock source block → IsBlock source (wider block))
    → ((block : Block) (more : Lines) → put (ahead block more) ≡ ahead (wider block) more)
    → Ends source arms lines → Ends source arms (put lines)
before_block source [] lines wider put is same ends =
    record { block = wider ends.block; is = is ends.block ends.is; same = ap put ends.same ∙ same ends.block [] }
before_block source (this ∷ outer) lines wider put is same ends =
    record {
      block = wider ends.block;
      is = is ends.block ends.is;
      arms = ends.arms;
      are = ends.are;
      last = ends.last;
      end = ends.end;
      is_end = ends.is_end;
      tail = ends.tail;
      same = ap put ends.same ∙ same ends.block (arms_ahead ends.arms (ends.end ∷ ends.tail));
      outside = ends.outside;
    }

abbrev Reads : List ℕ → Lines → Type 0
Reads source lines = (standing : Ground) → None8 (violations source standing lines) → Ends source standing.arms lines

nothing_left : (source : List ℕ) (arms : List Arm) → None8 (unclosed arms) → Ends source arms []
nothing_left source [] none = record { block = no_lines; is = tt; same = refl }
nothing_left source (this ∷ outer) none = absurd (none.0 refl)

matched : (b : Bool) (place : Place) → None8 (broken_if b 8 place) → b ≡ false
matched true place none = absurd (none.0 refl)
matched false place none = refl

-- a line by itself
reads_alone : (source : List ℕ) (first : LexedLine) (lines : Lines) (arms : List Arm) → is_of_block (line_kind source first) ≡ false
    → Ends source arms lines → Ends source arms (first ∷ lines)
reads_alone source first lines arms alone ends =
    before_block source arms lines (plain first) (λ more. first ∷ more) (λ block is. (alone, is)) (λ block more. refl) ends

-- an `#If` line
reads_if : (source : List ℕ) (first : LexedLine) (lines : Lines) (arms : List Arm) → line_kind source first ≡ Some If
    → Within source false (Ends source arms) lines → Ends source arms (first ∷ lines)
reads_if source first lines arms is within =
    subst (λ (all : Lines). Ends source arms (first ∷ all)) (sym within.same)
    (before_block source arms within.tail
    (λ rest. conditional first within.block within.arms within.end rest)
    (λ more. first ∷ ahead within.block (arms_ahead within.arms (within.end ∷ more)))
    (λ block is_rest. (is, within.is, within.are, within.is_end, is_rest))
    (λ block more. refl)
    within.outside)

-- the line of a further arm
reads_arm : (source : List ℕ) (first : LexedLine) (lines : Lines) (is_else : Bool) (outer : List Arm)
    → (within : Within source is_else (Ends source outer) lines)
    → (line_kind source first ≡ Some ElseIf) ⊎ ((line_kind source first ≡ Some Else) × (within.arms ≡ no_arms))
    → Within source false (Ends source outer) (first ∷ lines)
reads_arm source first lines is_else outer within is =
    record {
      block = no_lines;
      is = tt;
      arms = arm first within.block within.arms;
      are = (is, within.is, within.are);
      last = inl refl;
      end = within.end;
      is_end = within.is_end;
      tail = within.tail;
      same = ap (λ (more : Lines). first ∷ more) within.same;
      outside = within.outside;
    }

reads_end : (source : List ℕ) (first : LexedLine) (lines : Lines) (is_else : Bool) (outer : List Arm) → line_kind source first ≡ Some EndIf
    → Ends source outer lines → Within source is_else (Ends source outer) (first ∷ lines)
reads_end source first lines is_else outer is ends =
    record {
      block = no_lines;
      is = tt;
      arms = no_arms;
      are = tt;
      last = inr refl;
      end = first;
      is_end = is;
      tail = lines;
      same = refl;
      outside = ends;
    }

next_else : (this : Arm) (own is_else : Bool) → this.is_else ≡ false → (next_arm this own is_else).is_else ≡ is_else
next_else this own is_else e = ap (λ (a : Arm). a.is_else) (next_is this own is_else e)

-- behind the `#Else` there is no arm
no_arms_behind : (is_else : Bool) (arms : Arms) → is_else ≡ true → (is_else ≡ false) ⊎ (arms ≡ no_arms) → arms ≡ no_arms
no_arms_behind is_else arms e (inl f) = absurd cc
no_arms_behind is_else arms e (inr f) = f

within_at : (source : List ℕ) (one other : Bool) (Behind : Lines → Type 0) (lines : Lines) → one ≡ other → Within source one Behind lines → Within source other Behind lines
within_at source one other Behind lines e within = subst (λ (b : Bool). Within source b Behind lines) e within

reads_kind : (source : List ℕ) (first : LexedLine) (lines : Lines) (constants : Constants) (arms : List Arm) (kind : DirectiveKind) (last : Token) (rest : List Token)
    → line_kind source first ≡ Some kind → is_unmatched kind arms ≡ false
    → Ends source (behind_directive source (ground constants arms) (place_of first) (made kind last rest)).arms lines
    → Ends source arms (first ∷ lines)
reads_kind source first lines constants arms Constant last rest is well ends = reads_alone source first lines arms (ap is_of_block is) ends
reads_kind source first lines constants arms Unknown last rest is well ends = reads_alone source first lines arms (ap is_of_block is) ends
reads_kind source first lines constants arms If last rest is well ends = reads_if source first lines arms is ends
reads_kind source first lines constants [] ElseIf last rest is well ends = absurd cc
reads_kind source first lines constants [] Else last rest is well ends = absurd cc
reads_kind source first lines constants [] EndIf last rest is well ends = absurd cc
reads_kind source first lines constants (this ∷ outer) ElseIf last rest is well ends =
    let own : Bool = holds (evaluated source (ground constants (this ∷ outer)) (made ElseIf last rest)) in
    within_at source false this.is_else (Ends source outer) (first ∷ lines) (sym well)
    (reads_arm source first lines (next_arm this own false).is_else outer ends (inl is))
reads_kind source first lines constants (this ∷ outer) Else last rest is well ends =
    within_at source false this.is_else (Ends source outer) (first ∷ lines) (sym well)
    (reads_arm source first lines (next_arm this true true).is_else outer ends
    (inr (is, no_arms_behind (next_arm this true true).is_else ends.arms (next_else this true true well) ends.last)))
reads_kind source first lines constants (this ∷ outer) EndIf last rest is well ends = reads_end source first lines this.is_else outer is ends

reads_found : (source : List ℕ) (first : LexedLine) (lines : Lines) (standing : Ground) → Reads source lines
    → (found : Option Directive) → directive_in source first.tokens ≡ found → None8 (violations source standing (first ∷ lines))
    → Ends source standing.arms (first ∷ lines)
reads_found source first lines standing reads None is none =
    let same : behind source standing first ≡ standing = rw is refl in
    reads_alone source first lines standing.arms (ap (λ (found : Option Directive). is_of_block (option_map (λ directive. directive.kind) found)) is)
    (reads standing (subst (λ (g : Ground). None8 (violations source g lines)) same
    (none_right (line_violations source standing first) (violations source (behind source standing first) lines) none)))
reads_found source first lines standing reads (Some directive) is none =
    let same : behind source standing first ≡ behind_directive source standing (place_of first) directive = rw is refl in
    let said : line_violations source standing first ≡ directive_violations source standing first directive = rw is refl in
    let here : None8 (directive_violations source standing first directive) =
    subst None8 said (none_left (line_violations source standing first) (violations source (behind source standing first) lines) none) in
    let kinds : line_kind source first ≡ Some directive.kind = ap (λ (found : Option Directive). option_map (λ directive. directive.kind) found) is in
    reads_kind source first lines standing.constants standing.arms directive.kind directive.last directive.rest kinds
    (matched (is_unmatched directive.kind standing.arms) (place_of first) (none_left (broken_if (is_unmatched directive.kind standing.arms) 8 (place_of first)) _ here))
    (reads (behind_directive source standing (place_of first) directive)
    (subst (λ (g : Ground). None8 (violations source g lines)) same
    (none_right (line_violations source standing first) (violations source (behind source standing first) lines) none)))

reads_lines : (source : List ℕ) (lines : Lines) → Reads source lines
reads_lines source [] standing none = nothing_left source standing.arms none
reads_lines source (first ∷ lines) standing none =
    reads_found source first lines standing (reads_lines source lines) (directive_in source first.tokens) refl none

pub block_found : (source : List ℕ) (lines : Lines) → NoneBy 8 (violations source opening lines)
    → (block : Block) × IsBlock source block × (lines_of block ≡ lines)
block_found source lines none =
    let whole = reads_lines source lines opening (recursion_from_All Other (violations source opening lines) none) in
    (whole.block, whole.is, lines_are whole.block ∙ sym whole.same)

-- a line with no fault by rule 8
abbrev Sound : LexedLine → Type 0
Sound line = IfSome line.fault (λ fault. fault.rule ≢ 8)

-- lines behind which nothing is unmatched, whatever the constants
abbrev Quiet : List ℕ → List Arm → Lines → Type 0
Quiet source arms lines = (constants : Constants) → AllByRecursion Sound lines → None8 (violations source (ground constants arms) lines)

quiet_fault : (fault : Option Refusal) → IfSome fault Other → None8 (fault_list fault)
quiet_fault None sound = tt
quiet_fault (Some fault) sound = (sound, tt)

quiet_if : (b : Bool) (refusals : List Refusal) → None8 refusals → None8 (if b then refusals else [])
quiet_if true refusals none = none
quiet_if false refusals none = tt

quiet_broken : (b : Bool) (rule : ℕ) (place : Place) → rule ≢ 8 → None8 (broken_if b rule place)
quiet_broken true rule place other = (other, tt)
quiet_broken false rule place other = tt

quiet_matched : (b : Bool) (place : Place) → b ≡ false → None8 (broken_if b 8 place)
quiet_matched true place well = absurd cc
quiet_matched false place well = tt

quiet_directive : (source : List ℕ) (standing : Ground) (first : LexedLine) (directive : Directive) → Sound first
    → is_unmatched directive.kind standing.arms ≡ false → None8 (directive_violations source standing first directive)
quiet_directive source standing first directive sound well =
    none_append (broken_if (is_unmatched directive.kind standing.arms) 8 (place_of first)) _ (quiet_matched (is_unmatched directive.kind standing.arms) (place_of first) well)
    (quiet_if (is_kept (enclosing directive.kind standing.arms)) _
    (none_append (fault_list first.fault ++ broken_if (not (has_form source directive)) 7 (place_of first)) _
    (none_append (fault_list first.fault) _ (quiet_fault first.fault sound) (quiet_broken (not (has_form source directive)) 7 (place_of first) (λ e. absurd (omega arith))))
    (quiet_broken (not (is_some first.fault) && is_bad directive.kind (evaluated source standing directive)) 9 (expression_place directive) (λ e. absurd (omega arith)))))

quiet_passed : (source : List ℕ) (standing : Ground) (first : LexedLine) (lines : Lines) (directive : Directive) → directive_in source first.tokens ≡ Some directive
    → Sound first → is_unmatched directive.kind standing.arms ≡ false
    → None8 (violations source (behind_directive source standing (place_of first) directive) lines)
    → None8 (violations source standing (first ∷ lines))
quiet_passed source standing first lines directive is sound well none =
    let same : behind source standing first ≡ behind_directive source standing (place_of first) directive = rw is refl in
    let said : line_violations source standing first ≡ directive_violations source standing first directive = rw is refl in
    none_append (line_violations source standing first) (violations source (behind source standing first) lines)
    (subst None8 (sym said) (quiet_directive source standing first directive sound well))
    (subst (λ (g : Ground). None8 (violations source g lines)) (sym same) none)

quiet_plain : (source : List ℕ) (standing : Ground) (first : LexedLine) (lines : Lines) → directive_in source first.tokens ≡ None
    → Sound first → None8 (violations source standing lines) → None8 (violations source standing (first ∷ lines))
quiet_plain source standing first lines is sound none =
    let same : behind source standing first ≡ standing = rw is refl in
    let said : line_violations source standing first ≡ (if is_kept standing.arms then fault_list first.fault else []) = rw is refl in
    none_append (line_violations source standing first) (violations source (behind source standing first) lines)
    (subst None8 (sym said) (quiet_if (is_kept standing.arms) (fault_list first.fault) (quiet_fault first.fault sound)))
    (subst (λ (g : Ground). None8 (violations source g lines)) (sym same) none)

quiet_alone : (source : List ℕ) (first : LexedLine) (lines : Lines) (arms : List Arm) (constants : Constants) → Sound first
    → ((cs : Constants) → None8 (violations source (ground cs arms) lines))
    → (found : Option Directive) → directive_in source first.tokens ≡ found → is_of_block (option_map (λ directive. directive.kind) found) ≡ false
    → None8 (violations source (ground constants arms) (first ∷ lines))
quiet_alone source first lines arms constants sound quiet None is alone =
    quiet_plain source (ground constants arms) first lines is sound (quiet constants)
quiet_alone source first lines arms constants sound quiet (Some directive) is alone =
    by_kind directive.kind directive.last directive.rest is alone
  where
    by_kind : (kind : DirectiveKind) (last : Token) (rest : List Token) → directive_in source first.tokens ≡ Some (made kind last rest) → is_of_block (Some kind) ≡ false
        → None8 (violations source (ground constants arms) (first ∷ lines))
    by_kind Constant last rest is alone =
        quiet_passed source (ground constants arms) first lines (made Constant last rest) is sound refl
        (quiet (constants_behind Constant (name_defined (pieces_behind source last rest)) (evaluated source (ground constants arms) (made Constant last rest)) constants))
    by_kind Unknown last rest is alone = quiet_passed source (ground constants arms) first lines (made Unknown last rest) is sound refl (quiet constants)
    by_kind If last rest is alone = absurd cc
    by_kind ElseIf last rest is alone = absurd cc
    by_kind Else last rest is alone = absurd cc
    by_kind EndIf last rest is alone = absurd cc

abbrev QuietBlock : List ℕ → Block → Type 0
QuietBlock source block = (arms : List Arm) (more : Lines) → Quiet source arms more → Quiet source arms (ahead block more)

abbrev QuietArms : List ℕ → Arms → Type 0
QuietArms source arms =
    (this : Arm) (outer : List Arm) (end : LexedLine) (more : Lines) → (this.is_else ≡ false) ⊎ (arms ≡ no_arms)
    → line_kind source end ≡ Some EndIf → Quiet source outer more → Quiet source (this ∷ outer) (arms_ahead arms (end ∷ more))

quiet_line : (source : List ℕ) (first : LexedLine) (rest : Block) → is_of_block (line_kind source first) ≡ false → QuietBlock source rest
    → QuietBlock source (plain first rest)
quiet_line source first rest alone quiet arms more behind constants sound =
    quiet_alone source first (ahead rest more) arms constants sound.0 (λ cs. quiet arms more behind cs sound.1)
    (directive_in source first.tokens) refl alone

quiet_conditional : (source : List ℕ) (header : LexedLine) (body : Block) (arms : Arms) (end : LexedLine) (rest : Block)
    → line_kind source header ≡ Some If → line_kind source end ≡ Some EndIf
    → QuietBlock source body → QuietArms source arms → QuietBlock source rest → QuietBlock source (conditional header body arms end rest)
quiet_conditional source header body arms end rest is_if is_end quiet_body quiet_arms quiet_rest outer more behind constants sound =
    let d = directed source header If is_if in
    let this : Arm =
    record { place = place_of header; earlier = false; own = holds (evaluated source (ground constants outer) (made If d.last d.rest)); is_else = false } in
    quiet_passed source (ground constants outer) header (ahead body (arms_ahead arms (end ∷ ahead rest more))) (made If d.last d.rest) d.is sound.0 refl
    (quiet_body (this ∷ outer) (arms_ahead arms (end ∷ ahead rest more))
    (quiet_arms this outer end (ahead rest more) (inl refl) is_end (quiet_rest outer more behind)) constants sound.1)

quiet_end : (source : List ℕ) → QuietArms source no_arms
quiet_end source this outer end more last is_end behind constants sound =
    let d = directed source end EndIf is_end in
    quiet_passed source (ground constants (this ∷ outer)) end more (made EndIf d.last d.rest) d.is sound.0 refl (behind constants sound.1)

quiet_arm : (source : List ℕ) (header : LexedLine) (body : Block) (arms : Arms)
    → (line_kind source header ≡ Some ElseIf) ⊎ ((line_kind source header ≡ Some Else) × (arms ≡ no_arms))
    → QuietBlock source body → QuietArms source arms → QuietArms source (arm header body arms)
quiet_arm source header body arms is quiet_body quiet_arms this outer end more (inr none) is_end behind constants sound = absurd cc
quiet_arm source header body arms (inl is) quiet_body quiet_arms this outer end more (inl further) is_end behind constants sound =
    let d = directed source header ElseIf is in
    let next : Arm = next_arm this (holds (evaluated source (ground constants (this ∷ outer)) (made ElseIf d.last d.rest))) false in
    quiet_passed source (ground constants (this ∷ outer)) header (ahead body (arms_ahead arms (end ∷ more))) (made ElseIf d.last d.rest) d.is sound.0 further
    (quiet_body (next ∷ outer) (arms_ahead arms (end ∷ more))
    (quiet_arms next outer end more (inl (next_else this (holds (evaluated source (ground constants (this ∷ outer)) (made ElseIf d.last d.rest))) false further)) is_end behind) constants sound.1)
quiet_arm source header body arms (inr is) quiet_body quiet_arms this outer end more (inl further) is_end behind constants sound =
    let d = directed source header Else is.0 in
    let next : Arm = next_arm this true true in
    quiet_passed source (ground constants (this ∷ outer)) header (ahead body (arms_ahead arms (end ∷ more))) (made Else d.last d.rest) d.is sound.0 further
    (quiet_body (next ∷ outer) (arms_ahead arms (end ∷ more)) (quiet_arms next outer end more (inr is.1) is_end behind) constants sound.1)

mutual
  quiet_block : (source : List ℕ) (block : Block) → IsBlock source block → QuietBlock source block
  quiet_block source no_lines is = λ arms more behind. behind
  quiet_block source (plain first rest) is = quiet_line source first rest is.0 (quiet_block source rest is.1)
  quiet_block source (conditional header body arms end rest) is =
      quiet_conditional source header body arms end rest is.0 is.3 (quiet_block source body is.1) (quiet_arms source arms is.2) (quiet_block source rest is.4)

  quiet_arms : (source : List ℕ) (arms : Arms) → AreArms source arms → QuietArms source arms
  quiet_arms source no_arms are = quiet_end source
  quiet_arms source (arm header body arms) are = quiet_arm source header body arms are.0 (quiet_block source body are.1) (quiet_arms source arms are.2)

pub block_is_quiet : (source : List ℕ) (block : Block) → IsBlock source block → NoFaultBy 8 (lines_of block) → NoneBy 8 (violations source opening (lines_of block))
block_is_quiet source block is sound =
    let all : AllByRecursion Sound (ahead block []) = subst (AllByRecursion Sound) (lines_are block) (recursion_from_All Sound (lines_of block) sound) in
    All-from_recursion Other (violations source opening (lines_of block))
    (subst (λ (lines : Lines). None8 (violations source opening lines)) (sym (lines_are block))
    (quiet_block source block is [] [] (λ constants sound. tt) opening.constants all))
