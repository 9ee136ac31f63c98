-- What it is that a code runs to an end.
use Rattle.std.specs.Prelude.{◌≡◌, ℕ}
use Rattle.sheet_host.specs.Books.{Sheets}
use Rattle.pcode.specs.Instructions.{Code}
use Rattle.pcode.specs.Machine.{Fin, Done, Unfinished, Stuck, run_code}

abbrev pub HasEnded : Fin → Type 0
HasEnded (Done e s es) = Unit {0}
HasEnded Unfinished = ⊥
HasEnded Stuck = ⊥

-- over each book and with each bound on turns the run of a code ends, and it never lacks an operand or an instruction
pub record Steady (code : Code) : Type 0 where
  pub ends : (book : Sheets) (turns : ℕ) → (steps : ℕ) × HasEnded (run_code code book turns steps)
  pub never_stuck : (book : Sheets) (turns steps : ℕ) → run_code code book turns steps ≡ Stuck → ⊥
