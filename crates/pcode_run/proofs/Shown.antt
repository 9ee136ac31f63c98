-- Worked rows: what events show.
use Rattle.std.proofs.Common.{◌≡◌, ℕ, List, [], ◌∷◌, true, false, refl}
use Rattle.std.specs.Prelude.{codes, pos, negsuc}
use Rattle.std.specs.Char.Utf16.{utf16_chars}
use Rattle.std.specs.Fmt.{digits}
use Rattle.sheet_host.specs.declared.cell.CellValue.TheVariants as cell
use Rattle.vba_meaning.specs.Effects.{Cell, Init, Printed, Raised, Term}
use Rattle.pcode_run.specs.Runs.{Names, text_of, text_of_event}
use Rattle.pcode_run.specs.declared.texts.Shows.TheVariants.{Plain, Trace}

-- names of sheets and classes
abbrev named : (sheets classes : List (List ℕ)) → Names
named sheets classes = record { sheets = sheets; classes = classes }

-- a text with `\` and both line ends, on a line that is finished
pub line : text_of_event Trace (named [] []) (Printed (codes "a\\b\r\n") true) ≡ codes "P a\\\\b\\r\\n\n"
unfolding utf16_chars lib.Utf8.encode
line = refl

-- a line that is left open, and an empty one
pub left_open : text_of_event Trace (named [] []) (Printed (codes "a") false) ≡ codes "p a\n"
unfolding utf16_chars lib.Utf8.encode
left_open = refl

pub empty_line : text_of_event Trace (named [] []) (Printed [] true) ≡ codes "P \n"
unfolding utf16_chars
empty_line = refl

-- errors
pub error : text_of_event Trace (named [] []) (Raised (pos 13)) ≡ codes "E 13\n"
unfolding digits
error = refl

pub own_error : text_of_event Trace (named [] []) (Raised (negsuc 8)) ≡ codes "E -9\n"
unfolding digits
own_error = refl

-- cells; the name of a sheet has a line end
pub number_cell : text_of_event Trace (named (codes "S" ∷ []) []) (Cell 1 2000 1 (cell.Long (pos 1))) ≡ codes "C S!$A$2000 1\n"
unfolding digits utf16_chars lib.Utf8.encode
number_cell = refl

pub text_cell : text_of_event Trace (named (codes "S" ∷ codes "T\n" ∷ []) []) (Cell 2 1 28 (cell.Text (codes "a\"\\"))) ≡ codes "C T\\n!$AB$1 \"a\"\"\\\\\"\n"
unfolding digits utf16_chars lib.Utf8.encode
text_cell = refl

pub empty_cell : text_of_event Trace (named (codes "S" ∷ []) []) (Cell 1 1 1 cell.Empty) ≡ codes "C S!$A$1 Empty\n"
unfolding digits utf16_chars lib.Utf8.encode
empty_cell = refl

pub silent_cell : text_of_event Plain (named (codes "S" ∷ []) []) (Cell 1 1 1 (cell.Boolean true)) ≡ []
silent_cell = refl

-- objects
pub made : text_of_event Trace (named [] (codes "Node" ∷ codes "W" ∷ [])) (Init 2 13) ≡ codes "I W 13\n"
unfolding digits utf16_chars lib.Utf8.encode
made = refl

pub ended : text_of_event Trace (named [] (codes "Node" ∷ [])) (Term 1 1) ≡ codes "T Node 1\n"
unfolding digits utf16_chars lib.Utf8.encode
ended = refl

pub silent_object : text_of_event Plain (named [] (codes "Node" ∷ [])) (Init 1 1) ≡ []
silent_object = refl

-- a run, plain and traced
pub plain_run : text_of Plain (named [] []) (Printed (codes "a\\") false ∷ Raised (pos 11) ∷ Printed (codes "\n") true ∷ []) ≡ codes "a\\\n\n"
unfolding utf16_chars lib.Utf8.encode
plain_run = refl

pub traced_run : text_of Trace (named [] []) (Printed (codes "a\\") false ∷ Raised (pos 11) ∷ Printed (codes "\n") true ∷ []) ≡ codes "p a\\\\\nE 11\nP \\n\n"
unfolding digits utf16_chars lib.Utf8.encode
traced_run = refl
