-- Serves the code: what Err tells of a text.
use Rattle.std.specs.Prelude.{ℕ, ℤ, List, [], Option, if◌then◌else◌}
use Rattle.vba_values.specs.Val.{Val, text}
use Rattle.vba_meaning.specs.Effects.{is_zero, text_or}

-- nothing where there is no error, and another text where none was given
abbrev pub told_text : ℤ → Option (List ℕ) → List ℕ → Val
told_text number given other = text (if is_zero number then [] else text_or given other)
