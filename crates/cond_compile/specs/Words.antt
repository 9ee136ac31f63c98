-- Words: how they match, and which names they are.
use Rattle.std.specs.Prelude.{ℕ, ◌-◌, ◌==◌, Bool, List, [], ◌∷◌, length, take, codes, bytes_eq, if◌then◌else◌}
use Rattle.std.specs.List.{list_any}
use Rattle.vba_base.specs.Fold.{folded}
use Rattle.vba_lexer.specs.Numbers.{without_suffix}

-- the words that are no names, but behind a dot and in brackets; in lower case
abbrev pub kept_words : List (List ℕ)
kept_words =
    codes "addressof" ∷ codes "and" ∷ codes "as" ∷ codes "byref" ∷ codes "byval" ∷ codes "call" ∷ codes "case" ∷ codes "const"
    ∷ codes "declare" ∷ codes "dim" ∷ codes "do" ∷ codes "each" ∷ codes "else" ∷ codes "elseif" ∷ codes "empty" ∷ codes "end"
    ∷ codes "enum" ∷ codes "eqv" ∷ codes "erase" ∷ codes "event" ∷ codes "exit" ∷ codes "false" ∷ codes "for" ∷ codes "friend"
    ∷ codes "function" ∷ codes "global" ∷ codes "gosub" ∷ codes "goto" ∷ codes "if" ∷ codes "imp" ∷ codes "implements" ∷ codes "in"
    ∷ codes "is" ∷ codes "let" ∷ codes "like" ∷ codes "loop" ∷ codes "lset" ∷ codes "me" ∷ codes "mod" ∷ codes "new" ∷ codes "next"
    ∷ codes "not" ∷ codes "nothing" ∷ codes "null" ∷ codes "on" ∷ codes "open" ∷ codes "option" ∷ codes "optional" ∷ codes "or"
    ∷ codes "paramarray" ∷ codes "print" ∷ codes "private" ∷ codes "public" ∷ codes "raiseevent" ∷ codes "redim" ∷ codes "rem"
    ∷ codes "resume" ∷ codes "return" ∷ codes "rset" ∷ codes "select" ∷ codes "set" ∷ codes "static" ∷ codes "stop" ∷ codes "sub"
    ∷ codes "then" ∷ codes "to" ∷ codes "true" ∷ codes "type" ∷ codes "typeof" ∷ codes "until" ∷ codes "wend" ∷ codes "while"
    ∷ codes "with" ∷ codes "withevents" ∷ codes "xor" ∷ []

-- is a folded text one of these words, unit by unit
abbrev pub is_among : List (List ℕ) → List ℕ → Bool
is_among words text = list_any (λ word. bytes_eq text word) words

-- a word without its brackets or its suffix
abbrev pub bare_word : List ℕ → List ℕ
bare_word [] = []
bare_word (unit ∷ text) = if unit == 91 then take (length text - 1) text else without_suffix (unit ∷ text)

-- the name that a word is
abbrev pub name_in : List ℕ → List ℕ
name_in text = folded (bare_word text)
