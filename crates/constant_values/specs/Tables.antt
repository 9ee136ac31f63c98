-- What the tables of a project and of a procedure hold.
use Rattle.std.specs.Prelude.{◌≡◌, ◌≤◌, ◌+◌, ℕ, zero, suc, true, false, List, [], ◌∷◌, map, length, Option, Some, None}
use Rattle.std.specs.declared.alloc.Global.{Global}
use Rattle.std.specs.declared.vec.Vec.{Vec}
use Rattle.declared_names.specs.binder.specs.Scopes.{Outside, Space, Scope}
use Rattle.declared_names.specs.binder.specs.Constants.{Known, all_entries}
use Rattle.declared_names.specs.Outside.{the_outside}
use Rattle.declared_names.specs.View.{scope_view}
use Rattle.constant_values.specs.declared.known.Known.{Known as Slot}
use Rattle.constant_values.specs.declared.project.ProjectValues.{ProjectValues}
use Rattle.constant_values.specs.declared.own.OwnValues.{OwnValues}
use Rattle.constant_values.specs.declared.own.Constants.{Constants}
use Rattle.constant_values.specs.Names.{Names, values, locals_by}
use Rattle.constant_values.specs.Rounds.{IsPlaced, entries_round, locals_round, longest, rounds_from}
use Rattle.constant_values.specs.View.{slots_view, tables_view}

abbrev pub rounds_view : List (Vec (Vec (Option Slot) Global) Global) → List (List (List (Option Known)))
rounds_view rounds = map (λ tables. tables_view tables.items) rounds

-- rounds of a project so far: those through fewer constants, and the last one
pub record AreRounds (earlier : List (Vec (Vec (Option Slot) Global) Global)) (last : List (Vec (Option Slot) Global)) (spaces : List Space) : Type 0 where
  pub earlier_rounds : rounds_view earlier ≡ rounds_from (length earlier) zero the_outside spaces
  pub last_round : tables_view last ≡ entries_round (length earlier) the_outside spaces

-- all rounds of a project up to one: it stands for all behind it where the values come to rest, else there are as many rounds as entries
pub record AreProjectValues (v : ProjectValues) (spaces : List Space) : Type 0 where
  pub few : length v.earlier.items ≤ all_entries spaces
  pub rounds : AreRounds v.earlier.items v.last.items spaces
  pub settled : v.is_settled ≡ true → (k : ℕ) → length v.earlier.items ≤ k → tables_view v.last.items ≡ entries_round k the_outside spaces
  pub all : v.is_settled ≡ false → length v.earlier.items ≡ all_entries spaces

-- the values of the entries that those of a procedure go by: own ones, or those of the project
abbrev pub tables_of : ProjectValues → Option (Vec (Vec (Option Slot) Global) Global) → List (List (Option Known))
tables_of project None = tables_view project.last.items
tables_of project (Some tables) = tables_view tables.items

-- the same, where those of the project are the ones through as many constants as it has entries
abbrev pub own_tables : Option (Vec (Vec (Option Slot) Global) Global) → Scope → List (List (Option Known))
own_tables None s = entries_round (all_entries s.spaces) the_outside s.spaces
own_tables (Some tables) s = tables_view tables.items

-- the values of the names of a procedure, and of the entries beside them, through so many constants
pub record AreThrough (k : ℕ) (v : OwnValues) (s : Scope) : Type 0 where
  pub own : slots_view v.slots.items ≡ locals_round k s
  pub entries : own_tables v.entries s ≡ entries_round k the_outside s.spaces

-- the same through as many constants as a chain may have
pub record AreOwnValues (v : OwnValues) (s : Scope) : Type 0 where
  pub through : AreThrough (longest s) v s

-- the values of a scope
pub record AreConstants (c : Constants) : Type 0 where
  pub placed : IsPlaced (scope_view c.scope)
  pub entries : tables_view c.entries.now ≡ entries_round (longest (scope_view c.scope)) the_outside (scope_view c.scope).spaces
  pub own : slots_view c.own.now ≡ locals_round (longest (scope_view c.scope)) (scope_view c.scope)

-- what is known of names in a scope
abbrev pub constants_names : Constants → Names
constants_names c = values (tables_view c.entries.now) (slots_view c.own.now)

-- the values of names behind rounds of a project
abbrev pub passed : Scope → List (Option Known) → List (List (List (Option Known))) → List (Option Known)
passed s slots [] = slots
passed s slots (entries ∷ rounds) = passed s (locals_by (values entries slots) s) rounds

-- the values of names after so many rounds more
abbrev pub repeated_locals : ℕ → Scope → List (List (Option Known)) → List (Option Known) → List (Option Known)
repeated_locals zero s entries slots = slots
repeated_locals (suc n) s entries slots = repeated_locals n s entries (locals_by (values entries slots) s)
