-- List files: which modules and sheets a project has, and where it begins. A list file is a text; its lines end as
-- those of a source do.
use Rattle.std.specs.Prelude.{ℕ, ◌==◌, Bool, true, false, ◌&&◌, not, List, [], ◌∷◌, codes, take, drop, Option, Some, None, if◌then◌else◌}
use Rattle.std.specs.List.{list_all, prefix_len}
use Rattle.unicode_ident.specs.Ident.{is_xid_start, is_xid_continue}
use Rattle.vba_base.specs.Fold.{folded}
use Rattle.vba_base.specs.Text.{encoded}
use Rattle.vba_lexer.specs.Characters.{characters_of}
use Rattle.vba_lexer.specs.Classes.{is_scalar}

-- what a line says: nothing, a module or class at a path, a sheet with a name at a path, where the run begins; paths
-- are in UTF-8, names of modules and procedures are case folds
pub data Entry : Type 0 where
  says_nothing : Entry
  a_module : (is_class : Bool) → (path : List ℕ) → Entry
  a_sheet : (name path : List ℕ) → Entry
  a_startup : (module_name procedure : List ℕ) → Entry
  no_entry : Entry

-- what stands behind a word at the front of a line, where it stands there
abbrev pub behind : List ℕ → List ℕ → Option (List ℕ)
behind [] line = Some line
behind (letter ∷ word) [] = None
behind (letter ∷ word) (unit ∷ line) = if letter == unit then behind word line else None

-- how many units stand before the first mark of a kind
abbrev pub size_before : ℕ → List ℕ → ℕ
size_before mark text = prefix_len (λ unit. not (unit == mark)) text

-- what stands before the mark at a place, and behind it; the mark begins the rest
abbrev pub parted : List ℕ → ℕ → List ℕ → Option (List ℕ × List ℕ)
parted text size [] = None
parted text size (mark ∷ rest) = Some (take size text, rest)

-- what stands before the first mark of a kind, and behind it
abbrev pub cut : ℕ → List ℕ → Option (List ℕ × List ℕ)
cut mark text = parted text (size_before mark text) (drop (size_before mark text) text)

-- an XID start character; a surrogate without its partner is none
abbrev pub is_start : ℕ → Bool
is_start character = is_scalar character && is_xid_start character

-- an XID continue character
abbrev pub is_part : ℕ → Bool
is_part character = is_scalar character && is_xid_continue character

-- an identifier, by its characters: an XID start character, then XID continue characters
abbrev pub is_identifier_of : List ℕ → Bool
is_identifier_of [] = false
is_identifier_of (first ∷ others) = is_start first && list_all is_part others

abbrev pub is_identifier : List ℕ → Bool
is_identifier text = is_identifier_of (characters_of text)

-- behind Module= and Class=: a path
abbrev pub module_entry : Bool → List ℕ → Entry
module_entry is_class [] = no_entry
module_entry is_class (unit ∷ path) = a_module is_class (encoded (unit ∷ path))

-- behind Sheet=: a name, `;`, a path
abbrev pub sheet_named : (name path : List ℕ) → Entry
sheet_named [] path = no_entry
sheet_named (unit ∷ name) [] = no_entry
sheet_named (unit ∷ name) (first ∷ path) = a_sheet (unit ∷ name) (encoded (first ∷ path))

abbrev pub sheet_entry : List ℕ → Entry
sheet_entry text = at (cut 59 text)
  where
    at : Option (List ℕ × List ℕ) → Entry
    at None = no_entry
    at (Some parts) = sheet_named parts.0 parts.1

-- behind Startup=: the module, a dot, the procedure
abbrev pub startup_named : (in_module procedure : List ℕ) → Entry
startup_named in_module procedure =
    if is_identifier in_module && is_identifier procedure then a_startup (folded in_module) (folded procedure) else no_entry

abbrev pub startup_entry : List ℕ → Entry
startup_entry text = at (cut 46 text)
  where
    at : Option (List ℕ × List ℕ) → Entry
    at None = no_entry
    at (Some names) = startup_named names.0 names.1

abbrev pub or_else : Option (List ℕ) → (List ℕ → Entry) → Entry → Entry
or_else None meant other = other
or_else (Some text) meant other = meant text

-- what a line says that says nothing of a sheet, of a module or in a comment
abbrev pub startup_line : List ℕ → Entry
startup_line line = or_else (behind (codes "Startup=") line) startup_entry no_entry

-- one that says nothing of a module or in a comment
abbrev pub sheet_line : List ℕ → Entry
sheet_line line = or_else (behind (codes "Sheet=") line) sheet_entry (startup_line line)

abbrev pub class_line : List ℕ → Entry
class_line line = or_else (behind (codes "Class=") line) (module_entry true) (sheet_line line)

abbrev pub module_line : List ℕ → Entry
module_line line = or_else (behind (codes "Module=") line) (module_entry false) (class_line line)

-- what a line says, by its first word; an empty line, and one that begins with `#`, says nothing
abbrev pub entry_of : List ℕ → Entry
entry_of [] = says_nothing
entry_of (unit ∷ line) = if unit == 35 then says_nothing else module_line (unit ∷ line)
