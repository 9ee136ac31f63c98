-- The words of a command. Words and names are lists of bytes.
use Rattle.std.specs.Prelude.{ℕ, ◌+◌, ◌-◌, ◌*◌, nat_lt, nat_le, Bool, true, false, ◌&&◌, List, [], ◌∷◌, length, codes, bytes_eq}
use Rattle.std.specs.Prelude.{Option, Some, None, option_map, option_and_then, if◌then◌else◌}
use Rattle.std.specs.List.{list_all}
use Rattle.std.specs.Option.{option_map_or}
use Rattle.clap.specs.Walk.{Row, Rule, Text, first_of, is_empty}
use Rattle.clap.specs.Simple.{App, matches_of, new_rule, new_shape}
use Rattle.clap.specs.Faults.{fault_of}
use Rattle.clap.specs.declared.builder.action.ArgAction.TheVariants.{SetTrue}

-- a command, with the path of its list: a run with its bound on turns, whether it is traced, and the suffix with which its
-- sheets are saved, if they are; a check; or a listing of the code
pub data Command : Type 0 where
  run : (path : List ℕ) → (turns : ℕ) → (trace : Bool) → (save : Option (List ℕ)) → Command
  check : (path : List ℕ) → Command
  code : (path : List ℕ) → Command

-- the one positional word
abbrev pub list_rule : Rule
list_rule = record (new_rule (codes "list")) { required = true }

-- the option `--turns N`
abbrev pub turns_rule : Rule
turns_rule = record (new_rule (codes "turns")) { long = Some (codes "turns") }

-- the flag `--trace`
abbrev pub trace_rule : Rule
trace_rule = record (new_rule (codes "trace")) { long = Some (codes "trace"); action = Some SetTrue }

-- the option `--save SUFFIX`
abbrev pub save_rule : Rule
save_rule = record (new_rule (codes "save")) { long = Some (codes "save") }

-- clap's simple command of a name and arguments, with help, version and the `help` subcommand switched off
abbrev pub plain_app : Text → List Rule → App
plain_app name rules = record {
  top = record (new_shape name) {
    rules = rules;
    disable_help_flag = true;
    disable_help_subcommand = true;
    disable_version_flag = true;
  };
  subs = [];
}

-- the arguments of `run`
abbrev pub run_app : App
run_app = plain_app (codes "run") (list_rule ∷ turns_rule ∷ trace_rule ∷ save_rule ∷ [])

-- the argument of `check`
abbrev pub check_app : App
check_app = plain_app (codes "check") (list_rule ∷ [])

-- the argument of `code`
abbrev pub code_app : App
code_app = plain_app (codes "code") (list_rule ∷ [])

-- what clap's definition finds in the words of a command, of which the first is the command's name; none where it finds a fault in them
unfoldable pub found_rows : App → List Text → Option (List Row)
found_rows app words = if is_empty (fault_of app words) then Some (matches_of app words) else None

-- the bound on turns where the words name none
abbrev pub default_turns : ℕ
default_turns = 10000000

-- the greatest bound on turns
abbrev pub most_turns : ℕ
most_turns = 1000000000000

-- the most digits of a bound on turns
abbrev pub most_digits : ℕ
most_digits = 13

-- 0 to 9
abbrev pub is_digit : ℕ → Bool
is_digit byte = nat_le 48 byte && nat_le byte 57

-- the number that decimal digits stand for, behind the number that was read before them
abbrev pub number_from : ℕ → List ℕ → ℕ
number_from before [] = before
number_from before (digit ∷ digits) = number_from (before * 10 + (digit - 48)) digits

-- the bound that a text names: that number, where the text has only digits and the number is at most the greatest bound
abbrev pub turns_from : ℕ → List ℕ → Option ℕ
turns_from before text =
    if list_all is_digit text && nat_le (number_from before text) most_turns then Some (number_from before text) else None

-- the bound that N names, which has 1 to 13 digits
abbrev pub turns_of : Text → Option ℕ
turns_of text = if nat_lt 0 (length text) && nat_le (length text) most_digits then turns_from 0 text else None

-- the bound on turns of a run
abbrev pub turns_in : List Row → Option ℕ
turns_in rows = option_map_or turns_of (first_of (codes "turns") rows) (Some default_turns)

-- is the run traced: the value of the flag is `true` where it was given
abbrev pub trace_in : List Row → Bool
trace_in rows = option_map_or (λ text. bytes_eq text (codes "true")) (first_of (codes "trace") rows) false

-- the suffix with which a run saves its sheets, where one is given
abbrev pub save_in : List Row → Option Text
save_in rows = first_of (codes "save") rows

-- a run of these arguments
abbrev pub run_in : List Row → Option Command
run_in rows = option_and_then (λ path. option_map (λ turns. run path turns (trace_in rows) (save_in rows)) (turns_in rows)) (first_of (codes "list") rows)

-- a check of these arguments
abbrev pub check_in : List Row → Option Command
check_in rows = option_map (λ path. check path) (first_of (codes "list") rows)

-- a listing of these arguments
abbrev pub code_in : List Row → Option Command
code_in rows = option_map (λ path. code path) (first_of (codes "list") rows)

-- the command of this name whose words these are
abbrev pub command_named : (name : Text) → (words : List Text) → Option Command
command_named name words =
    if bytes_eq name (codes "run") then option_and_then run_in (found_rows run_app words)
    else if bytes_eq name (codes "check") then option_and_then check_in (found_rows check_app words)
    else if bytes_eq name (codes "code") then option_and_then code_in (found_rows code_app words)
    else None

-- the command that the words name, where they are a command form. The first word is its name
abbrev pub command_of : List Text → Option Command
command_of [] = None
command_of (name ∷ words) = command_named name (name ∷ words)
