-- The rules S10 to S14 that a module breaks, by the tokens of its lines.
use Rattle.std.specs.Prelude.{ℕ, Bool, List, [], ◌∷◌, ◌++◌, map, flat_map, Option, Some, None}
use Rattle.vba_base.specs.declared.place.Place.{Place}
use Rattle.vba_base.specs.declared.place.Refusal.{Refusal}
use Rattle.vba_words.specs.declared.reading.ReadToken.{ReadToken}
use Rattle.vba_tree.specs.Tree.{Line}
use Rattle.vba_grammar.specs.Lines.{line_of}
use Rattle.vba_module.specs.Parts.{Part, parts_of_lines, nowhere, first_place}
use Rattle.vba_module.specs.Outside.{form_of}
use Rattle.vba_module.specs.Blocks.{block_faults}
use Rattle.vba_module.specs.Misplaced.{all_misplaced, nothing_before}
use Rattle.vba_module.specs.Headers.{header_faults, own_name, type_names, is_named}

-- a rule is broken at these places
abbrev pub broken : ℕ → List Place → List Refusal
broken rule places = map (λ place. record { rule = rule; place = place }) places

-- a line without a tree: S13 where it has a form that the profile hasn't, else S10
abbrev pub unread : List ReadToken → Option Place → Refusal
unread ts (Some place) = record { rule = 13; place = place }
unread ts None = record { rule = 10; place = first_place nowhere ts }

abbrev pub unread_line : List ReadToken → List Refusal
unread_line ts = at (line_of ts)
  where
    at : Option Line → List Refusal
    at (Some line) = []
    at None = unread ts (form_of ts) ∷ []

-- the trees of the lines that have one
abbrev pub with_tree : Option Line → List Line → List Line
with_tree None trees = trees
with_tree (Some line) trees = line ∷ trees

abbrev pub trees_of : List (List ReadToken) → List Line
trees_of [] = []
trees_of (ts ∷ lines) = with_tree (line_of ts) (trees_of lines)

-- the rules S11, S12 and S14 that the parts of a module break, in a class or not
abbrev pub part_violations : Bool → List Part → List Refusal
part_violations is_class parts =
    broken 11 (block_faults [] parts)
    ++ (broken 12 (all_misplaced is_class nothing_before [] parts)
    ++ broken 14 (flat_map (header_faults (is_named (own_name parts) (type_names parts))) parts))

-- the rules that the lines of a module break, each line by its tokens
abbrev pub module_violations : Bool → List (List ReadToken) → List Refusal
module_violations is_class lines = flat_map unread_line lines ++ part_violations is_class (parts_of_lines (trees_of lines))
