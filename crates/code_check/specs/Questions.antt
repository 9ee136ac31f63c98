-- Serves the code: the questions of which the check of a code consists.
use Rattle.std.specs.Prelude.{◌≡◌, ◌↔◌, ℕ, ◌<◌, ◌≤◌, List, length, slice_get, slice_index, Option, Some, option_map}
use Rattle.bound_project.specs.Project.{DeclaredEvent}
use Rattle.pcode.specs.Instructions.{Instr, Code, entry_of, next_statement}
use Rattle.pcode.specs.WellFormed.{IsStatement, IsTarget, IsOf, BeginsAt, Sound}

-- the addresses of a procedure are those from one on, before another
abbrev pub AreFrom : Code → (procedure first end : ℕ) → Type 0
AreFrom code p first end = (pc : ℕ) → (IsOf code p pc ↔ ((first ≤ pc) × (pc < end)))

-- the statements of a procedure, and of all, begin where the tables say
abbrev pub TableBegins : Code → (procedure : ℕ) → Type 0
TableBegins code p = (i : ℕ) → IsStatement code p i → BeginsAt code p i (entry_of code p i)

abbrev pub TablesBegin : Code → Type 0
TablesBegin code = (p i : ℕ) → IsStatement code p i → BeginsAt code p i (entry_of code p i)

-- the address of each procedure is that of its first statement
abbrev pub StartsAgree : Code → Type 0
StartsAgree code = (p : ℕ) → slice_index code.starts p ≡ entry_of code p 0

-- behind each statement of a procedure, and of all, comes a statement or the end
abbrev pub TableGoesOn : Code → (procedure : ℕ) → Type 0
TableGoesOn code p = (i : ℕ) → IsStatement code p i → IsTarget code p (next_statement code p i)

abbrev pub TablesGoOn : Code → Type 0
TablesGoOn code = (p i : ℕ) → IsStatement code p i → IsTarget code p (next_statement code p i)

-- how many parameters an event has, where it is there
abbrev pub parameters_of_event : List DeclaredEvent → ℕ → Option ℕ
parameters_of_event es e = option_map (λ (d : DeclaredEvent). length d.parameters) (slice_get es e)

-- the numbers of the instruction at an address, of those of a procedure, and of all, name what is there
abbrev pub SoundAt : Code → (procedure address : ℕ) → Type 0
SoundAt code p pc = (i : Instr) → slice_get code.instrs pc ≡ Some i → Sound code p i

abbrev pub PartIsSound : Code → (procedure : ℕ) → Type 0
PartIsSound code p = (pc : ℕ) (i : Instr) → IsOf code p pc → slice_get code.instrs pc ≡ Some i → Sound code p i

abbrev pub IsSound : Code → Type 0
IsSound code = (p pc : ℕ) (i : Instr) → IsOf code p pc → slice_get code.instrs pc ≡ Some i → Sound code p i
