-- The parts of a line that blocks and procedures are made of: each statement between its colons, and else the line.
use Rattle.std.specs.Prelude.{List, [], ◌∷◌, ◌++◌, Option, Some, None}
use Rattle.vba_base.specs.declared.place.Place.{Place}
use Rattle.vba_words.specs.declared.reading.ReadToken.{ReadToken}
use Rattle.vba_tree.specs.declared.line.LineLabel.{LineLabel}
use Rattle.vba_tree.specs.Tree.{Stmt, Stmts, nothing, one, gap, more, Line, statement_line}
use Rattle.vba_tree.specs.Spelling.{spell, spell_statement, spell_line_label}

pub data Part : Type 0 where
  label : LineLabel → Part
  -- a statement, or a line of a block
  statement : Stmt → Part
  -- a line that is no statements
  whole_line : Line → Part

-- statements, in order
abbrev pub statements_in : Stmts → List Stmt
statements_in nothing = []
statements_in (one s) = s ∷ []
statements_in (gap before colon) = statements_in before
statements_in (more before colon s) = statements_in before ++ s ∷ []

abbrev pub as_parts : List Stmt → List Part
as_parts [] = []
as_parts (s ∷ ss) = statement s ∷ as_parts ss

abbrev pub label_part : Option LineLabel → List Part
label_part None = []
label_part (Some l) = label l ∷ []

abbrev pub parts_of : Line → List Part
parts_of (statement_line l ss) = label_part l ++ as_parts (statements_in ss)
parts_of line = whole_line line ∷ []

abbrev pub parts_of_lines : List Line → List Part
parts_of_lines [] = []
parts_of_lines (line ∷ lines) = parts_of line ++ parts_of_lines lines

-- the place of the first token; each part has one
abbrev pub nowhere : Place
nowhere = record { «module» = 0; line = 0; column = 0 }

abbrev pub first_place : Place → List ReadToken → Place
first_place place [] = place
first_place place (t ∷ ts) = t.token.place

abbrev pub place_of : Part → Place
place_of (label l) = first_place nowhere (spell_line_label l)
place_of (statement s) = first_place nowhere (spell_statement s)
place_of (whole_line l) = first_place nowhere (spell l)
