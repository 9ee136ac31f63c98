-- Serves the code: tests of entries, by what is looked for.
use Rattle.std.specs.Prelude.{ℕ, Bool, ◌&&◌, ◌||◌}
use Rattle.binder.specs.Declarations as plain
use Rattle.binder.specs.Scopes.{Space, counts, is_seen}
use Rattle.binder.specs.Types.{is_type}
use Rattle.declared_names.specs.declared.entry.Entry.{Entry}
use Rattle.declared_names.specs.declared.lookup.Wanted.{Wanted}
use Rattle.declared_names.specs.declared.lookup.Wanted.TheVariants as wanted
use Rattle.declared_names.specs.View.{entry_view, use_view}

-- an entry with its number
abbrev pub found_view : ℕ × Entry → ℕ × plain.Entry
found_view f = (f.0, entry_view f.1)

-- whether an entry is what is looked for, in its own module or where others see it
abbrev pub passes : Wanted → Bool → Space → plain.Entry → Bool
passes (wanted.Value how) own space e = (own || is_seen space e) && counts (use_view how) e.what
passes wanted.Type own space e = is_type e.what && (own || is_seen space e)
