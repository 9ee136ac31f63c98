-- The words of a command. Words and names are lists of bytes.
use Rattle.std.specs.Prelude.{ℕ, ◌-◌, Bool, List, length, drop, codes, Option}
use Rattle.vba_lexer.specs.Tokens.{is_the_word}
use Rattle.command_words.specs.Words.{Command, run, check, code, command_of}

-- a text is a word, which is given in lower case, in any case
abbrev pub matches : List ℕ → List ℕ → Bool
matches text word = is_the_word word text

-- the last four bytes are `.bas`, in any case: the file is one standard module, and else a list
abbrev pub ends_in_bas : List ℕ → Bool
ends_in_bas name = matches (drop (length name - 4) name) (codes ".bas")

-- the command that the words name. All other words are no command
abbrev pub command_in : List (List ℕ) → Option Command
command_in words = command_of words

-- the path of the file that a command names
abbrev pub path_in : Command → List ℕ
path_in (run path turns trace save) = path
path_in (check path) = path
path_in (code path) = path

-- the bound on the turns of a run
abbrev pub turns_in : Command → ℕ
turns_in (run path turns trace save) = turns
turns_in (check path) = 0
turns_in (code path) = 0
