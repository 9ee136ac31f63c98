-- The statements of a procedure in one list: how many a part has, which blocks stand round it, and the numbers of the
-- statements that control goes on at. A number is found in what follows a part, by counting statements and by the
-- blocks that open and close on the way.
use Rattle.std.specs.Prelude.{ℕ, zero, suc, ◌+◌, Bool, true, false, List, [], ◌∷◌, map, if◌then◌else◌}
use Rattle.std.specs.List.{list_any}
use Rattle.vba_tree.specs.Tree.{BlockLine, else_line, end_if, case_else, end_select, Simple, variables, constants, block_line, Stmt, simple, if_then, if_else, Stmts, nothing, one, gap, more}
use Rattle.vba_module.specs.Parts.{Part, statement}
use Rattle.vba_module.specs.Blocks.{Kind, select, with_block, same_kind, Role, opens, divides, closes, stands, role_of}

-- ---- how many statements there are ([MS-VBAL] 5.4)

-- Else, Case Else, End If and End Select are no statements
abbrev pub line_count : BlockLine → ℕ
line_count (else_line else_word) = 0
line_count (end_if end_word if_word) = 0
line_count (case_else case_word else_word) = 0
line_count (end_select end_word select_word) = 0
line_count line = 1

abbrev pub simple_count : Simple → ℕ
simple_count (variables word token vs) = 0
simple_count (constants access_word const_word cs) = 0
simple_count (block_line line) = line_count line
simple_count s = 1

abbrev mutual
  -- a single-line If is a statement, and so are those in it
  pub count : Stmt → ℕ
  count (simple s) = simple_count s
  count (if_then if_word e then_word ss) = suc (count_list ss)
  count (if_else if_word e then_word ss else_word es) = suc (count_list ss + count_list es)

  pub count_list : Stmts → ℕ
  count_list nothing = 0
  count_list (one s) = count s
  count_list (gap before colon) = count_list before
  count_list (more before colon s) = count_list before + count s

abbrev pub part_count : Part → ℕ
part_count (statement s) = count s
part_count part = 0

abbrev pub body_count : List Part → ℕ
body_count [] = 0
body_count (part ∷ parts) = part_count part + body_count parts

-- ---- where control goes on

-- what is looked for in the parts that follow, so many blocks deep inside what is passed
pub data Sought : Type 0 where
  -- what runs next where control stands here: the arms that follow are passed
  here : Sought
  -- the next arm of the block, or what stands behind it
  an_arm : ℕ → Sought
  -- what stands behind the block
  behind_block : ℕ → Sought
  -- what stands behind the nearest block of a kind
  behind_kind : Kind → ℕ → Sought

-- the block round what follows is left
abbrev pub outer : List Bool → List Bool
outer [] = []
outer (o ∷ around) = around

-- its first arm is no longer awaited
abbrev pub begun : List Bool → List Bool
begun [] = []
begun (o ∷ around) = false ∷ around

abbrev pub is_awaited : List Bool → Bool
is_awaited [] = false
is_awaited (o ∷ around) = o

-- what a part does to what is sought: it is that, or so is what stands behind it
pub data Step : Type 0 where
  stops : Step
  goes_on : Sought → (awaited : List Bool) → Step

-- a part that has statements is found, another one is passed
abbrev pub unless_counted : ℕ → Step → Step
unless_counted zero step = step
unless_counted (suc k) step = stops

-- of each block round a part, the innermost first, is told whether its first arm is still to come, which begins where
-- control reaches it
abbrev pub step : Sought → (awaited : List Bool) → Role → ℕ → Step
step here around (stands exits) k = unless_counted k (goes_on here around)
step here around (opens kind) k = stops
step here around (closes kind) k = unless_counted k (goes_on here (outer around))
step here around (divides kind is_last) k = if is_awaited around then unless_counted k (goes_on here (begun around)) else goes_on (behind_block 0) around
step (an_arm d) around (opens kind) k = goes_on (an_arm (suc d)) around
step (an_arm zero) around (closes kind) k = goes_on here (outer around)
step (an_arm (suc d)) around (closes kind) k = goes_on (an_arm d) around
step (an_arm zero) around (divides kind is_last) k = unless_counted k (goes_on here (begun around))
step (an_arm d) around role k = goes_on (an_arm d) around
step (behind_block d) around (opens kind) k = goes_on (behind_block (suc d)) around
step (behind_block zero) around (closes kind) k = goes_on here (outer around)
step (behind_block (suc d)) around (closes kind) k = goes_on (behind_block d) around
step (behind_block d) around role k = goes_on (behind_block d) around
step (behind_kind wanted d) around (opens kind) k = goes_on (behind_kind wanted (suc d)) around
step (behind_kind wanted zero) around (closes kind) k = if same_kind wanted kind then goes_on here (outer around) else goes_on (behind_kind wanted 0) (outer around)
step (behind_kind wanted (suc d)) around (closes kind) k = goes_on (behind_kind wanted d) around
step (behind_kind wanted d) around role k = goes_on (behind_kind wanted d) around

abbrev pub after : Step → ℕ → (Sought → List Bool → ℕ) → ℕ
after stops n on = n
after (goes_on what around) n on = on what around

-- the number that is sought in these parts, of which the first has this number
abbrev pub sought : Sought → (awaited : List Bool) → ℕ → List Part → ℕ
sought what around n [] = n
sought what around n (part ∷ parts) =
    after (step what around (role_of part) (part_count part)) n (λ what1 around1. sought what1 around1 (n + part_count part) parts)

-- ---- where parts stand

-- a block that stands open: its kind, the line that opened it, the number of that statement, the first statement of its
-- block, and whether its first arm is still to come
pub record Opened : Type 0 where
  pub kind : Kind
  pub line : Part
  pub header : ℕ
  pub first : ℕ
  pub awaits : Bool

-- a part of a body: its number, the blocks that stand open before it, the innermost first, and what follows it
pub record Standing : Type 0 where
  pub part : Part
  pub number : ℕ
  pub around : List Opened
  pub rest : List Part

abbrev pub awaited : List Opened → List Bool
awaited os = map (λ o. o.awaits) os

abbrev pub is_select : Kind → Bool
is_select select = true
is_select kind = false

-- the blocks that stand open behind a part
abbrev pub opened_behind : Part → Role → ℕ → List Part → List Opened → List Opened
opened_behind part (opens kind) n rest around =
    record { kind = kind; line = part; header = n; first = sought here (false ∷ awaited around) (suc n) rest; awaits = is_select kind } ∷ around
opened_behind part (closes kind) n rest [] = []
opened_behind part (closes kind) n rest (o ∷ around) = around
opened_behind part (divides kind is_last) n rest (o ∷ around) = record o { awaits = false } ∷ around
opened_behind part role n rest around = around

abbrev pub standings : ℕ → List Opened → List Part → List Standing
standings n around [] = []
standings n around (part ∷ parts) =
    record { part = part; number = n; around = around; rest = parts }
    ∷ standings (n + part_count part) (opened_behind part (role_of part) n parts around) parts

-- the parts of a body
abbrev pub standings_in : List Part → List Standing
standings_in parts = standings 0 [] parts

-- what follows a part, with the blocks round that
abbrev pub awaited_behind : Standing → List Bool
awaited_behind s = awaited (opened_behind s.part (role_of s.part) s.number s.rest s.around)

abbrev pub behind_number : Standing → ℕ
behind_number s = s.number + part_count s.part

-- the number that is sought behind a part, whose block is round it where it opens one
abbrev pub sought_behind : Sought → Standing → ℕ
sought_behind what s = sought what (awaited_behind s) (behind_number s) s.rest

-- a With block stands round a part
abbrev pub in_with : Standing → Bool
in_with s = list_any (λ (o : Opened). same_kind with_block o.kind) s.around
