-- Serves the code: the code of a project: one Leave at address 0 for all procedures, then the statements in the
-- order of the text.
use Rattle.std.specs.Prelude.{◌≡◌, ℕ, suc, ◌+◌, List, [], ◌∷◌, ◌++◌, length, map, Option, Some, None, slice_get, slice_index}
use Rattle.bound_project.specs.Statements.{Statement}
use Rattle.bound_project.specs.Project.{Project, Body, statement_at, next_of}
use Rattle.pcode.specs.Instructions.{Instr, Leave, Code, list_or, next_statement, entry_of}
use Rattle.pcode.specs.Code.{Entry, statement_code}

abbrev pub statement_length : Statement → ℕ
statement_length l = length (statement_code (λ i. 0) 0 0 l)

abbrev pub body_length : List Statement → ℕ
body_length [] = 0
body_length (l ∷ ls) = statement_length l + body_length ls

-- the address of each statement, the first one's being given
abbrev pub addresses : ℕ → List Statement → List ℕ
addresses base [] = []
addresses base (l ∷ ls) = base ∷ addresses (base + statement_length l) ls

abbrev pub entries_of : ℕ → List Body → List (List ℕ)
entries_of base [] = []
entries_of base (b ∷ bs) = addresses base b.statements ∷ entries_of (base + body_length b.statements) bs

-- past the last statement it is the address of Leave
abbrev pub entry_in : List (List ℕ) → ℕ → Entry
entry_in t p i = slice_index (list_or (slice_get t p)) i

abbrev pub body_code : Entry → (procedure statement : ℕ) → List Statement → List Instr
body_code entry p i [] = []
body_code entry p i (l ∷ ls) = statement_code entry p i l ++ body_code entry p (suc i) ls

abbrev pub bodies_code : List (List ℕ) → ℕ → List Body → List Instr
bodies_code t p [] = []
bodies_code t p (b ∷ bs) = body_code (entry_in t p) p 0 b.statements ++ bodies_code t (suc p) bs

abbrev pub starts_of : List (List ℕ) → List ℕ
starts_of t = map (λ es. slice_index es 0) t

abbrev pub nexts_of : List Body → List (List ℕ)
nexts_of bs = map (λ b. map (λ l. l.next) b.statements) bs

abbrev pub code_in : List (List ℕ) → Project → Code
code_in t pr = record {
  instrs = Leave ∷ bodies_code t 0 pr.bodies;
  starts = starts_of t;
  nexts = nexts_of pr.bodies;
  entries = t;
  declared = pr.declared;
  startup = pr.startup;
}

-- the code of a project
abbrev pub code_of : Project → Code
code_of pr = code_in (entries_of 1 pr.bodies) pr

-- ---- what it is that a code is laid out as its tables say

-- these instructions stand at this address
abbrev pub HasAt : List Instr → ℕ → List Instr → Type 0
HasAt code pc [] = Unit {0}
HasAt code pc (i ∷ is) = (slice_get code pc ≡ Some i) × HasAt code (pc + 1) is

abbrev pub HasStatement : List Instr → Entry → (procedure statement : ℕ) → Option Statement → Type 0
HasStatement code entry p i None = slice_get code (entry i) ≡ Some Leave
HasStatement code entry p i (Some l) = HasAt code (entry i) (statement_code entry p i l)

-- the code of each statement stands at its address, past the last one stands Leave, and the tables say the addresses
-- and the next statements
pub record Laid (pr : Project) (entry : ℕ → Entry) (code : Code) : Type 0 where
  pub statement : (p i : ℕ) → HasStatement code.instrs (entry p) p i (statement_at pr p i)
  pub start : (p : ℕ) → slice_index code.starts p ≡ entry p 0
  pub next : (p i : ℕ) → next_statement code p i ≡ next_of pr p i
  pub address : (p i : ℕ) → entry_of code p i ≡ entry p i
  pub declared : code.declared ≡ pr.declared
  pub startup : code.startup ≡ pr.startup
