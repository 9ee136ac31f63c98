-- The lines of a class header: how they are counted, and what blank lines make of a source.
use Rattle.std.proofs.Common.{◌≡◌, ℕ, zero, suc, ◌+◌, ◌-◌, ◌<◌, ◌≤◌, Bool, true, false, List, [], ◌∷◌, map, length, take, drop, replicate, Option, Some, None, refl, sym, ◌∙◌, ap, arith, length-append, length-drop}
use Rattle.std.specs.Prelude.{if◌then◌else◌, ◌&&◌, codes, option_map, nat_le}
use Rattle.std.proofs.lemmas.Bool.{leb-true, leb-false, le-leb, lt-leb}
use Rattle.std.proofs.lemmas.List.{drop-drop, length-replicate, take_rest}
use Rattle.vba_lexer.specs.declared.cursor.Cursor.{Cursor}
use Rattle.vba_lexer.specs.declared.lines.Ending.{Ending}
use Rattle.vba_lexer.specs.declared.scan.Standing.TheVariants.{First}
use Rattle.vba_lexer.specs.declared.token.Token.{Token}
use Rattle.vba_lexer.specs.Characters.{AreUnits, characters_of, place_of}
use Rattle.vba_lexer.specs.Continuations.{mark_behind, continued_at, continued_text, inner_text}
use Rattle.vba_lexer.specs.Faults.{first_fault}
use Rattle.vba_lexer.specs.FirstLine.{IsFirstLine, end_size}
use Rattle.vba_lexer.specs.Header.{is_empty, is_line_of, lines_to_end, header_behind, header_end, blank_line, blanked, text_behind_header}
use Rattle.vba_lexer.specs.Lexed.{lexed_line, token_of, tokens_of}
use Rattle.vba_lexer.specs.Lines.{PhysicalLine, line_units, end_units, joined, is_last, lines_of}
use Rattle.vba_lexer.specs.Tokens.{slices_from}
use Rattle.vba_lexer.proofs.CharacterLemmas.{are_units-front, are_units-rest}
use Rattle.vba_lexer.proofs.ContinuationLemmas.{are_units-join, end_size-some}

-- the first line from a place on
abbrev pub line_at : List ℕ → ℕ → ℕ → Ending → PhysicalLine
line_at source start size ending = record { text = take size (drop start source); ending = ending }

-- the lines from a place on: the first one, and those from behind it on
pub next_lines : (source : List ℕ) (start size : ℕ) (ending : Ending) → IsFirstLine (drop start source) size ending → is_last ending ≡ false
    → lines_of (drop start source) ≡ line_at source start size ending ∷ lines_of (drop (start + (size + end_size ending)) source)
next_lines source start size ending is_first more =
    is_first.lines ∙ ap (λ (lines : List PhysicalLine). line_at source start size ending ∷ lines)
    ((rw more) ∙ ap lines_of (drop-drop (size + end_size ending) start source))

pub last_line : (source : List ℕ) (start size : ℕ) (ending : Ending) → IsFirstLine (drop start source) size ending → is_last ending ≡ true
    → lines_of (drop start source) ≡ line_at source start size ending ∷ []
last_line source start size ending is_first last =
    is_first.lines ∙ ap (λ (lines : List PhysicalLine). line_at source start size ending ∷ lines) (rw last)

-- a count of lines goes on from a place, before which so many lines stand
pub record CountGoesOn (count_of : List PhysicalLine → Option ℕ) (source : List ℕ) (start count : ℕ) : Type 0 where
  pub within : start ≤ length source
  pub counted : count ≤ start
  pub goes_on : option_map (λ more. more + count) (count_of (lines_of (drop start source))) ≡ count_of (lines_of source)

none_more : (found : Option ℕ) → option_map (λ more. more + 0) found ≡ found
none_more None = refl
none_more (Some count) = let e : count + 0 ≡ count = omega arith in ap Some e

pub count_none : (count_of : List PhysicalLine → Option ℕ) (source : List ℕ) → CountGoesOn count_of source 0 0
count_none count_of source = record { within = omega arith; counted = omega arith; goes_on = none_more (count_of (lines_of source)) }

one_more : (count : ℕ) (found : Option ℕ)
    → option_map (λ more. more + (count + 1)) found ≡ option_map (λ more. more + count) (option_map (λ more. more + 1) found)
one_more count None = refl
one_more count (Some more) = let e : more + (count + 1) ≡ more + 1 + count = omega arith in ap Some e

-- a line more is counted
pub count_line : (count_of : List PhysicalLine → Option ℕ) (source : List ℕ) (start count size : ℕ) (ending : Ending) → CountGoesOn count_of source start count
    → IsFirstLine (drop start source) size ending → is_last ending ≡ false
    → count_of (line_at source start size ending ∷ lines_of (drop (start + (size + end_size ending)) source))
    ≡ option_map (λ more. more + 1) (count_of (lines_of (drop (start + (size + end_size ending)) source)))
    → CountGoesOn count_of source (start + (size + end_size ending)) (count + 1)
count_line count_of source start count size ending so_far is_first not_last counts =
    record {
      within = omega (arith, length-drop start source);
      counted = omega (arith, end_size-some ending not_last);
      goes_on =
          one_more count (count_of (lines_of (drop (start + (size + end_size ending)) source)))
          ∙ ap (option_map (λ more. more + count)) (sym counts)
          ∙ ap (λ (lines : List PhysicalLine). option_map (λ more. more + count) (count_of lines)) (sym (next_lines source start size ending is_first not_last))
          ∙ so_far.goes_on;
    }

-- the count, where that of the lines from a place on is known
pub counted_all : (count_of : List PhysicalLine → Option ℕ) (source : List ℕ) (start count : ℕ) (found : Option ℕ) → CountGoesOn count_of source start count
    → count_of (lines_of (drop start source)) ≡ found → option_map (λ more. more + count) found ≡ count_of (lines_of source)
counted_all count_of source start count found so_far same = ap (option_map (λ more. more + count)) (sym same) ∙ so_far.goes_on

pub and_false : (one : Bool) → (one && false) ≡ false
and_false true = refl
and_false false = refl

-- no header ends with its first line
pub header_behind-none : (line : PhysicalLine) → header_behind line [] ≡ None
header_behind-none line = let e : (is_line_of (codes "version 1.0 class") line && false) ≡ false = and_false (is_line_of (codes "version 1.0 class") line) in rw e

pub header_end-last : (line : PhysicalLine) → header_end (line ∷ []) ≡ None
header_end-last line = at (is_empty line)
  where
    at : (empty : Bool) → option_map (λ count. count + 1) (if empty then None else header_behind line []) ≡ None
    at true = refl
    at false = ap (option_map (λ (count : ℕ). count + 1)) (header_behind-none line)

-- the lines up to END: this is it
pub end_found : (source : List ℕ) (start count size : ℕ) (ending : Ending) → CountGoesOn lines_to_end source start count
    → IsFirstLine (drop start source) size ending → is_line_of (codes "end") (line_at source start size ending) ≡ true
    → Some (count + 1) ≡ lines_to_end (lines_of source)
end_found source start count size ending so_far is_first is_end =
    let e : lines_to_end (lines_of (drop start source)) ≡ Some 1 = ap lines_to_end is_first.lines ∙ (rw is_end) in
    let f : count + 1 ≡ 1 + count = omega arith in
    ap Some f ∙ counted_all lines_to_end source start count (Some 1) so_far e

-- none is
pub no_end : (source : List ℕ) (start count size : ℕ) (ending : Ending) → CountGoesOn lines_to_end source start count
    → IsFirstLine (drop start source) size ending → is_line_of (codes "end") (line_at source start size ending) ≡ false → is_last ending ≡ true
    → None ≡ lines_to_end (lines_of source)
no_end source start count size ending so_far is_first other last =
    let e : lines_to_end (lines_of (drop start source)) ≡ None = ap lines_to_end (last_line source start size ending is_first last) ∙ (rw other) in
    counted_all lines_to_end source start count None so_far e

-- it stands behind this line
pub end_behind : (source : List ℕ) (start count size : ℕ) (ending : Ending) → CountGoesOn lines_to_end source start count
    → IsFirstLine (drop start source) size ending → is_line_of (codes "end") (line_at source start size ending) ≡ false → is_last ending ≡ false
    → CountGoesOn lines_to_end source (start + (size + end_size ending)) (count + 1)
end_behind source start count size ending so_far is_first other more =
    count_line lines_to_end source start count size ending so_far is_first more (rw other)

-- the header: there is none, where nothing stands behind a line
pub no_header : (source : List ℕ) (start count size : ℕ) (ending : Ending) → CountGoesOn header_end source start count
    → IsFirstLine (drop start source) size ending → is_last ending ≡ true → None ≡ header_end (lines_of source)
no_header source start count size ending so_far is_first last =
    let e : header_end (lines_of (drop start source)) ≡ None =
    ap header_end (last_line source start size ending is_first last) ∙ header_end-last (line_at source start size ending) in
    counted_all header_end source start count None so_far e

-- it begins with this line or not at all
pub header_found : (source : List ℕ) (start count size : ℕ) (ending : Ending) (found : Option ℕ) → CountGoesOn header_end source start count
    → IsFirstLine (drop start source) size ending → is_last ending ≡ false → is_empty (line_at source start size ending) ≡ false
    → found ≡ header_behind (line_at source start size ending) (lines_of (drop (start + (size + end_size ending)) source))
    → option_map (λ more. more + (count + 1)) found ≡ header_end (lines_of source)
header_found source start count size ending found so_far is_first more some is_found =
    let e : header_end (lines_of (drop start source)) ≡ option_map (λ (n : ℕ). n + 1) found =
    ap header_end (next_lines source start size ending is_first more) ∙ (rw some) ∙ ap (option_map (λ (n : ℕ). n + 1)) (sym is_found) in
    one_more count found ∙ counted_all header_end source start count (option_map (λ (n : ℕ). n + 1) found) so_far e

-- what is found behind a line, read in what is left of a source
pub found_behind : (source : List ℕ) (start next size : ℕ) (ending : Ending) (found : Option ℕ)
    → found ≡ header_behind (record { text = take size (take (length source - start) (drop start source)); ending = ending })
    (lines_of (take (length source - next) (drop next source)))
    → found ≡ header_behind (line_at source start size ending) (lines_of (drop next source))
found_behind source start next size ending found is =
    is
    ∙ ap (λ (rest : List ℕ). header_behind (record { text = take size rest; ending = ending }) (lines_of (take (length source - next) (drop next source))))
    (take_rest source start)
    ∙ ap (λ (rest : List ℕ). header_behind (line_at source start size ending) (lines_of rest)) (take_rest source next)

-- this line is empty
pub header_goes_on : (source : List ℕ) (start count size : ℕ) (ending : Ending) → CountGoesOn header_end source start count
    → IsFirstLine (drop start source) size ending → is_last ending ≡ false → is_empty (line_at source start size ending) ≡ true
    → CountGoesOn header_end source (start + (size + end_size ending)) (count + 1)
header_goes_on source start count size ending so_far is_first more empty =
    count_line header_end source start count size ending so_far is_first more (rw empty)

-- a blank line goes on in no other
mark_behind-blanks : (white_before : Bool) (count : ℕ) → mark_behind white_before (replicate count 32) ≡ None
mark_behind-blanks white_before zero = refl
mark_behind-blanks true (suc count) = ap (option_map (λ (place : ℕ). 1 + place)) (mark_behind-blanks true count)
mark_behind-blanks false (suc count) = ap (option_map (λ (place : ℕ). 1 + place)) (mark_behind-blanks true count)

continued_at-blanks : (count : ℕ) (ending : Ending) → continued_at (replicate count 32) ending ≡ None
continued_at-blanks count ending = at (is_last ending)
  where
    at : (last : Bool) → (if last then None else mark_behind false (replicate count 32)) ≡ None
    at true = refl
    at false = mark_behind-blanks false count

pub continued_text-blank : (line : PhysicalLine) → continued_text (blank_line line) ≡ None
continued_text-blank line =
    ap (option_map (λ mark. inner_text (replicate (length line.text) 32) mark line.ending)) (continued_at-blanks (length line.text) line.ending)

-- a blank line has no tokens
characters_of-blanks : (count : ℕ) → characters_of (replicate count 32) ≡ replicate count 32
characters_of-blanks zero = refl
characters_of-blanks (suc zero) = refl
characters_of-blanks (suc (suc count)) = ap (λ (rest : List ℕ). 32 ∷ rest) (characters_of-blanks (suc count))

slices_from-blanks : (place count : ℕ) → slices_from First 0 place (replicate count 32) ≡ []
slices_from-blanks place zero = refl
slices_from-blanks place (suc count) = slices_from-blanks (place + 1) count

tokens_of-blanks : (number : ℕ) (first : Cursor) (count : ℕ) → tokens_of number first (characters_of (replicate count 32)) ≡ []
tokens_of-blanks number first count =
    ap (tokens_of number first) (characters_of-blanks count) ∙ ap (map (token_of number first (replicate count 32))) (slices_from-blanks 0 count)

pub lexed_line-blank : (number : ℕ) (source : List ℕ) (first : Cursor) (line : PhysicalLine)
    → lexed_line number source (record { first = first; text = [] }) ≡ lexed_line number source (record { first = first; text = (blank_line line).text })
lexed_line-blank number source first line =
    ap (λ (tokens : List Token). record { tokens = tokens; place = place_of number first; fault = first_fault source tokens })
    (sym (tokens_of-blanks number first (length line.text)))

-- a blank line takes as many units
pub length-blank : (line : PhysicalLine) → length (line_units (blank_line line)) ≡ length (line_units line)
length-blank line =
    length-append (replicate (length line.text) 32) (end_units line.ending)
    ∙ ap (λ (n : ℕ). n + length (end_units line.ending)) (length-replicate (length line.text) 32)
    ∙ sym (length-append line.text (end_units line.ending))

pub length-blanked : (count : ℕ) (lines : List PhysicalLine) → length (joined (blanked count lines)) ≡ length (joined lines)
length-blanked zero lines = refl
length-blanked (suc count) [] = refl
length-blanked (suc count) (line ∷ lines) =
    let a : length (joined (blank_line line ∷ blanked count lines)) ≡ length (line_units (blank_line line)) + length (joined (blanked count lines)) =
    length-append (line_units (blank_line line)) (joined (blanked count lines)) in
    let b : length (joined (line ∷ lines)) ≡ length (line_units line) + length (joined lines) = length-append (line_units line) (joined lines) in
    let c : length (line_units (blank_line line)) ≡ length (line_units line) = length-blank line in
    let d : length (joined (blanked count lines)) ≡ length (joined lines) = length-blanked count lines in
    omega arith

are_units-blanks : (count : ℕ) → AreUnits (replicate count 32)
are_units-blanks zero place = omega arith
are_units-blanks (suc count) zero = omega arith
are_units-blanks (suc count) (suc place) = are_units-blanks count place

pub are_units-blanked : (count : ℕ) (lines : List PhysicalLine) → AreUnits (joined lines) → AreUnits (joined (blanked count lines))
are_units-blanked zero lines units = units
are_units-blanked (suc count) [] units = units
are_units-blanked (suc count) (line ∷ lines) units =
    are_units-join (line_units (blank_line line)) (joined (blanked count lines))
    (are_units-join (replicate (length line.text) 32) (end_units line.ending) (are_units-blanks (length line.text))
    (are_units-rest line.text (end_units line.ending) (are_units-front (line_units line) (joined lines) units)))
    (are_units-blanked count lines (are_units-rest (line_units line) (joined lines) units))

-- how many of the lines from a line with this number on count as empty
abbrev pub empty_from : ℕ → ℕ → ℕ
empty_from header number = header + 1 - number

-- the lines from a header line on: it is blank
pub blanked-header : (header number : ℕ) (line : PhysicalLine) (lines : List PhysicalLine) → number ≤ header
    → blanked (empty_from header number) (line ∷ lines) ≡ blank_line line ∷ blanked (empty_from header (number + 1)) lines
blanked-header header number line lines inside =
    let e : header + 1 - number ≡ suc (header + 1 - (number + 1)) = omega arith in
    ap (λ (count : ℕ). blanked count (line ∷ lines)) e

-- those from a line behind the header on
pub blanked-behind : (header number : ℕ) (lines : List PhysicalLine) → header < number → blanked (empty_from header number) lines ≡ lines
blanked-behind header number lines behind = let e : header + 1 - number ≡ 0 = omega arith in ap (λ (count : ℕ). blanked count lines) e

pub blanked-none : (count : ℕ) → blanked count [] ≡ []
blanked-none zero = refl
blanked-none (suc count) = refl

-- what is read of a line
pub read_nothing : (header number : ℕ) (text : List ℕ) → number ≤ header → text_behind_header header number text ≡ []
read_nothing header number text inside = let e : nat_le number header ≡ true = le-leb number header inside in rw e

pub read_text : (header number : ℕ) (text : List ℕ) → header < number → text_behind_header header number text ≡ text
read_text header number text behind = let e : nat_le number header ≡ false = lt-leb number header behind in rw e

-- a header line goes on in no other
pub read_continued : (header number : ℕ) (text : List ℕ) (ending : Ending) (mark : ℕ) → continued_at (text_behind_header header number text) ending ≡ Some mark
    → header < number
read_continued header number text ending mark same = at (nat_le number header) refl
  where
    no_mark : (ending : Ending) → continued_at [] ending ≡ None
    no_mark ending = none (is_last ending)
      where
        none : (last : Bool) → (if last then None else mark_behind false []) ≡ None
        none true = refl
        none false = refl

    at : (is : Bool) → nat_le number header ≡ is → header < number
    at true e =
        let f : continued_at [] ending ≡ Some mark = ap (λ (t : List ℕ). continued_at t ending) (sym (read_nothing header number text (leb-true number header e))) ∙ same in
        let g : None ≡ Some mark = sym (no_mark ending) ∙ f in
        cc
    at false e = leb-false number header e
