-- S11: openings without an end, and ends, arms and Exits without their block, by the parts of a module in order.
use Rattle.std.specs.Prelude.{Bool, true, false, ◌&&◌, not, List, [], ◌∷◌, ◌++◌, map, Option, Some, None, if◌then◌else◌}
use Rattle.vba_base.specs.declared.place.Place.{Place}
use Rattle.vba_tree.specs.declared.procedure.ProcedureKind.{ProcedureKind}
use Rattle.vba_tree.specs.declared.procedure.ProcedureKind.TheVariants as procedure_kind
use Rattle.vba_tree.specs.declared.procedure.ProcedureWords.{ProcedureWords}
use Rattle.vba_tree.specs.declared.procedure.ProcedureWords.TheVariants as words
use Rattle.vba_tree.specs.declared.simple.ExitKind.{ExitKind}
use Rattle.vba_tree.specs.declared.simple.ExitKind.TheVariants as exits
use Rattle.vba_tree.specs.Tree.{BlockLine, if_line, else_if_line, else_line, end_if, select_case, case_line, case_else, end_select, for_line, for_each, next_line, do_line, loop_line, while_line, wend, with_line, end_with, exit, block_line, Stmt, simple, if_then, if_else, Stmts, nothing, one, gap, more, Line, enum_header, end_enum, type_header, end_type, procedure_header, procedure_end}
use Rattle.vba_module.specs.Parts.{Part, label, statement, whole_line, place_of}

-- what lines of a module bracket
pub data Kind : Type 0 where
  procedure : ProcedureKind → Kind
  enum : Kind
  type : Kind
  if_block : Kind
  select : Kind
  for_loop : Kind
  do_loop : Kind
  while_loop : Kind
  with_block : Kind

abbrev pub same_procedure : ProcedureKind → ProcedureKind → Bool
same_procedure procedure_kind.Sub procedure_kind.Sub = true
same_procedure procedure_kind.Function procedure_kind.Function = true
same_procedure procedure_kind.Property procedure_kind.Property = true
same_procedure kind _ = false

abbrev pub same_kind : Kind → Kind → Bool
same_kind (procedure a) (procedure b) = same_procedure a b
same_kind enum enum = true
same_kind type type = true
same_kind if_block if_block = true
same_kind select select = true
same_kind for_loop for_loop = true
same_kind do_loop do_loop = true
same_kind while_loop while_loop = true
same_kind with_block with_block = true
same_kind kind _ = false

-- procedures, Enums and Types; the others are blocks
abbrev pub is_outer : Kind → Bool
is_outer (procedure kind) = true
is_outer enum = true
is_outer type = true
is_outer _ = false

abbrev pub procedure_of : ProcedureWords → ProcedureKind
procedure_of (words.Sub token) = procedure_kind.Sub
procedure_of (words.Function token) = procedure_kind.Function
procedure_of (words.PropertyGet property_word get_word) = procedure_kind.Property
procedure_of (words.PropertyLet property_word let_word) = procedure_kind.Property
procedure_of (words.PropertySet property_word set_word) = procedure_kind.Property

-- what a part is to the brackets of its module
pub data Role : Type 0 where
  opens : Kind → Role
  -- an arm, and whether no arm may follow it
  divides : Kind → Bool → Role
  closes : Kind → Role
  -- each Exit in it, by the kind that it leaves, and its place
  stands : List (Kind × Place) → Role

abbrev pub exit_kind : ExitKind → Kind
exit_kind exits.Sub = procedure procedure_kind.Sub
exit_kind exits.Function = procedure procedure_kind.Function
exit_kind exits.Property = procedure procedure_kind.Property
exit_kind exits.For = for_loop
exit_kind exits.Do = do_loop

abbrev pub role_of_block : BlockLine → Role
role_of_block (if_line if_word condition then_word) = opens if_block
role_of_block (else_if_line else_if_word condition then_word) = divides if_block false
role_of_block (else_line else_word) = divides if_block true
role_of_block (end_if end_word if_word) = closes if_block
role_of_block (select_case select_word case_word e) = opens select
role_of_block (case_line case_word tests) = divides select false
role_of_block (case_else case_word else_word) = divides select true
role_of_block (end_select end_word select_word) = closes select
role_of_block (for_line for_word counter equal start to_word limit step) = opens for_loop
role_of_block (for_each for_word each_word element in_word group) = opens for_loop
role_of_block (next_line next_word counter) = closes for_loop
role_of_block (do_line do_word condition) = opens do_loop
role_of_block (loop_line loop_word condition) = closes do_loop
role_of_block (while_line while_word condition) = opens while_loop
role_of_block (wend wend_word) = closes while_loop
role_of_block (with_line with_word object) = opens with_block
role_of_block (end_with end_word with_word) = closes with_block

abbrev mutual
  -- the Exits of a statement; a line of a block inside a single-line If brackets nothing
  pub exits_of : Stmt → List (Kind × Place)
  exits_of (simple (exit exit_word kind kind_word)) = (exit_kind kind, exit_word.place) ∷ []
  exits_of (simple _) = []
  exits_of (if_then if_word condition then_word then_list) = exits_of_all then_list
  exits_of (if_else if_word condition then_word then_list else_word else_list) = exits_of_all then_list ++ exits_of_all else_list

  pub exits_of_all : Stmts → List (Kind × Place)
  exits_of_all nothing = []
  exits_of_all (one s) = exits_of s
  exits_of_all (gap before colon) = exits_of_all before
  exits_of_all (more before colon s) = exits_of_all before ++ exits_of s

abbrev pub role_of_line : Line → Role
role_of_line (enum_header header) = opens enum
role_of_line (end_enum end_word enum_word) = closes enum
role_of_line (type_header header) = opens type
role_of_line (end_type end_word type_word) = closes type
role_of_line (procedure_header access static_word kind name parameters result_type) = opens (procedure (procedure_of kind))
role_of_line (procedure_end ending) = closes (procedure ending.kind)
role_of_line _ = stands []

abbrev pub role_of : Part → Role
role_of (label l) = stands []
role_of (statement (simple (block_line line))) = role_of_block line
role_of (statement s) = stands (exits_of s)
role_of (whole_line line) = role_of_line line

-- an open block: its kind, the place of its opening, and whether its last arm was read
pub record Open : Type 0 where
  pub kind : Kind
  pub place : Place
  pub is_last : Bool

-- the open ones inside the nearest of a kind, it, and those outside; a block is looked for in its procedure alone
pub record Nearest : Type 0 where
  pub inside : List Open
  pub found : Open
  pub outside : List Open

abbrev pub with_inside : Open → Option Nearest → Option Nearest
with_inside opened None = None
with_inside opened (Some near) = Some (record { inside = opened ∷ near.inside; found = near.found; outside = near.outside })

abbrev pub nearest : Kind → List Open → Option Nearest
nearest kind [] = None
nearest kind (opened ∷ others) =
    if same_kind kind opened.kind then Some (record { inside = []; found = opened; outside = others })
    else if is_outer opened.kind && not (is_outer kind) then None
    else with_inside opened (nearest kind others)

-- the places of what is without its end
abbrev pub places_of : List Open → List Place
places_of opened = map (λ o. o.place) opened

-- S11 at a part, and what is open behind it
pub record Step : Type 0 where
  pub faults : List Place
  pub opened : List Open

-- an end belongs to the nearest of its kind; those opened after it are without their end
abbrev pub closed : Place → List Open → Option Nearest → Step
closed place opened None = record { faults = place ∷ []; opened = opened }
closed place opened (Some near) = record { faults = places_of near.inside; opened = near.outside }

-- an arm belongs to the nearest block of its kind, unless that has read its last arm
abbrev pub divided : Place → Bool → List Open → Option Nearest → Step
divided place is_last opened None = record { faults = place ∷ []; opened = opened }
divided place is_last opened (Some near) =
    if near.found.is_last then record { faults = place ∷ []; opened = opened }
    else record {
      faults = places_of near.inside;
      opened = record { kind = near.found.kind; place = near.found.place; is_last = is_last } ∷ near.outside;
    }

-- an Exit leaves the nearest of its kind
abbrev pub unless_found : Place → Option Nearest → List Place
unless_found place None = place ∷ []
unless_found place (Some near) = []

abbrev pub exit_faults : List Open → List (Kind × Place) → List Place
exit_faults opened [] = []
exit_faults opened (found ∷ others) = unless_found found.1 (nearest found.0 opened) ++ exit_faults opened others

abbrev pub step : Place → List Open → Role → Step
step place opened (opens kind) = record { faults = []; opened = record { kind = kind; place = place; is_last = false } ∷ opened }
step place opened (divides kind is_last) = divided place is_last opened (nearest kind opened)
step place opened (closes kind) = closed place opened (nearest kind opened)
step place opened (stands exits) = record { faults = exit_faults opened exits; opened = opened }

-- the places of S11 in parts, where these are open before them
abbrev pub block_faults : List Open → List Part → List Place
block_faults opened [] = places_of opened
block_faults opened (part ∷ parts) =
    let s = step (place_of part) opened (role_of part) in s.faults ++ block_faults s.opened parts
