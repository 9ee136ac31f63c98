-- Serves the code: names of arguments that are told before the arguments are read.
use Rattle.std.specs.Prelude.{◌≡◌, ℕ, length, Bool, false, bytes_eq, List, Option, Some, None, slice_get}
use Rattle.bound_project.specs.declared.node.ArgumentNames.{ArgumentNames}
use Rattle.bound_project.specs.Drafts.{Drafted, AllBelow}
use Rattle.bound_calls.specs.Standing.{AreNamed, Grown}

-- constants become names behind others
pub record AddsName (d : Drafted) (before : List ℕ) (e : Drafted) (behind : List ℕ) : Type 0 where
  pub grown : Grown d e
  pub pieces : e.pieces ≡ d.pieces
  pub below : AllBelow (length d.tables.constants) before → AllBelow (length e.tables.constants) behind

-- names are told, where there are any
pub record TellsNames (d e : Drafted) (names : Option ArgumentNames) : Type 0 where
  pub grown : Grown d e
  pub pieces : e.pieces ≡ d.pieces
  pub named : AreNamed e.tables names

-- whether a name is the one behind so many
abbrev pub is_name : Option (List ℕ) → List ℕ → Bool
is_name None name = false
is_name (Some own) name = bytes_eq own name

abbrev pub is_next : List (List ℕ) → (count : ℕ) → List ℕ → Bool
is_next names count name = is_name (slice_get names count) name
