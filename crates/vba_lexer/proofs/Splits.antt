-- The lines of a source, from its front.
use Rattle.std.proofs.Common.{◌≡◌, ℕ, suc, ◌+◌, ◌≤◌, Bool, true, false, List, [], ◌∷◌, ◌++◌, length, take, drop, refl, sym, ◌∙◌, ap, subst, arith, append_assoc, inl, inr, length-drop}
use Rattle.std.proofs.lemmas.List.{append-nil, take-append-drop, drop-drop}
use Rattle.std.specs.Prelude.{if◌then◌else◌, ◌==◌, ◌&&◌, ◌||◌, not}
use Rattle.std.specs.List.{list_any, prefix_len}
use Rattle.std.proofs.lemmas.Bool.{both_ways, and_parts, not-true, eqb-true, or_parts, or_cases}
use Rattle.vba_lexer.specs.declared.lines.Ending.{Ending}
use Rattle.vba_lexer.specs.declared.lines.Ending.TheVariants.{Feed, ReturnFeed, Return, LineSeparator, ParagraphSeparator, FileEnd}
use Rattle.vba_lexer.specs.Lines.{PhysicalLine, end_units, joined, is_line_end, is_line_text, is_last, is_return, is_empty_feed, are_lines, AreLinesOf, empty_line, with_return, with_unit, with_front, lines_of, begins_with_feed, ending_of}
use Rattle.vba_lexer.specs.FirstLine.{end_size, lines_behind, IsFirstLine}

-- the tests that a unit that ends no line fails
record EndsNoLine (unit : ℕ) : Type 0 where
  pub feed : (unit == 10) ≡ false
  pub return : (unit == 13) ≡ false
  pub line_separator : (unit == 0x2028) ≡ false
  pub paragraph_separator : (unit == 0x2029) ≡ false

ends_no_line : (unit : ℕ) → is_line_end unit ≡ false → EndsNoLine unit
ends_no_line unit none =
    let a : (((unit == 10) || (unit == 13) || (unit == 0x2028)) ≡ false) × ((unit == 0x2029) ≡ false) = or_parts _ _ none in
    let b : (((unit == 10) || (unit == 13)) ≡ false) × ((unit == 0x2028) ≡ false) = or_parts _ _ a.0 in
    let d : ((unit == 10) ≡ false) × ((unit == 13) ≡ false) = or_parts _ _ b.0 in
    record { feed = d.0; return = d.1; line_separator = b.1; paragraph_separator = a.1 }

with_front-text : (unit : ℕ) (lines : List PhysicalLine) → is_line_end unit ≡ false → with_front unit lines ≡ with_unit unit lines
with_front-text unit lines none =
    let no : EndsNoLine unit = ends_no_line unit none in
    rw (no.feed, no.return, no.line_separator, no.paragraph_separator)

-- the first unit of a text without line ends, and the rest
text_parts : (unit : ℕ) (text : List ℕ) → is_line_text (unit ∷ text) ≡ true → (is_line_end unit ≡ false) × (is_line_text text ≡ true)
text_parts unit text none =
    let parts : (is_line_end unit ≡ false) × (list_any is_line_end text ≡ false) =
    or_parts (is_line_end unit) (list_any is_line_end text) (not-true (list_any is_line_end (unit ∷ text)) none) in
    (parts.0, rw parts.1)

-- lines with a text before the first one
abbrev pub with_text : List ℕ → List PhysicalLine → List PhysicalLine
with_text text [] = []
with_text text (line ∷ lines) = record { text = text ++ line.text; ending = line.ending } ∷ lines

-- a text without line ends before a source
lines_of-text : (text source : List ℕ) → is_line_text text ≡ true → lines_of (text ++ source) ≡ with_text text (lines_of source)
lines_of-text [] source none = same (lines_of source)
  where
    same : (lines : List PhysicalLine) → lines ≡ with_text [] lines
    same [] = refl
    same (line ∷ lines) = refl
lines_of-text (unit ∷ text) source none =
    let parts : (is_line_end unit ≡ false) × (is_line_text text ≡ true) = text_parts unit text none in
    ap (with_front unit) (lines_of-text text source parts.1) ∙ with_front-text unit (with_text text (lines_of source)) parts.0 ∙ joins (lines_of source)
  where
    joins : (lines : List PhysicalLine) → with_unit unit (with_text text lines) ≡ with_text (unit ∷ text) lines
    joins [] = refl
    joins (line ∷ lines) = refl

-- there is always a line, and it is an empty one at LF exactly where the source begins with LF
record BeginsAs (source : List ℕ) (lines : List PhysicalLine) : Type 0 where
  pub first : PhysicalLine
  pub rest : List PhysicalLine
  pub are : lines ≡ first ∷ rest
  pub feed : is_empty_feed first ≡ begins_with_feed source

begins_as : (source : List ℕ) → BeginsAs source (lines_of source)
begins_as [] = record { first = empty_line FileEnd; rest = []; are = refl; feed = refl }
begins_as (unit ∷ source) = at (unit == 10) (unit == 13) (unit == 0x2028) (unit == 0x2029) refl (begins_as source)
  where
    at : (feed return line paragraph : Bool) → (unit == 10) ≡ feed → BeginsAs source (lines_of source)
        → BeginsAs (unit ∷ source)
        (if feed then empty_line Feed ∷ lines_of source
        else if return then with_return (lines_of source)
        else if line then empty_line LineSeparator ∷ lines_of source
        else if paragraph then empty_line ParagraphSeparator ∷ lines_of source
        else with_unit unit (lines_of source))
    at true return line paragraph e behind = record { first = empty_line Feed; rest = lines_of source; are = refl; feed = sym e }
    at false true line paragraph e behind =
        let f : with_return (lines_of source) ≡ with_return (behind.first ∷ behind.rest) = ap with_return behind.are in
        return_case (is_empty_feed behind.first) f
      where
        return_case : (empty : Bool)
            → with_return (lines_of source) ≡ (if empty then empty_line ReturnFeed ∷ behind.rest else empty_line Return ∷ behind.first ∷ behind.rest)
            → BeginsAs (unit ∷ source) (with_return (lines_of source))
        return_case true f = record { first = empty_line ReturnFeed; rest = behind.rest; are = f; feed = sym e }
        return_case false f = record { first = empty_line Return; rest = behind.first ∷ behind.rest; are = f; feed = sym e }
    at false false true paragraph e behind = record { first = empty_line LineSeparator; rest = lines_of source; are = refl; feed = sym e }
    at false false false true e behind = record { first = empty_line ParagraphSeparator; rest = lines_of source; are = refl; feed = sym e }
    at false false false false e behind =
        record {
          first = record { text = unit ∷ behind.first.text; ending = behind.first.ending };
          rest = behind.rest;
          are = ap (with_unit unit) behind.are;
          feed = sym e;
        }

-- a CR before a source
lines_of-return : (source : List ℕ)
    → lines_of (13 ∷ source) ≡ (if begins_with_feed source then empty_line ReturnFeed ∷ lines_of (drop 1 source) else empty_line Return ∷ lines_of source)
lines_of-return [] = refl
lines_of-return (unit ∷ source) = at (unit == 10) refl
  where
    at : (feed : Bool) → (unit == 10) ≡ feed
        → with_return (lines_of (unit ∷ source)) ≡ (if feed then empty_line ReturnFeed ∷ lines_of source else empty_line Return ∷ lines_of (unit ∷ source))
    at true e = rw e
    at false e =
        let begins : BeginsAs (unit ∷ source) (lines_of (unit ∷ source)) = begins_as (unit ∷ source) in
        let f : is_empty_feed begins.first ≡ false = begins.feed ∙ e in
        ap with_return begins.are ∙ (rw f) ∙ ap (λ (lines : List PhysicalLine). empty_line Return ∷ lines) (sym begins.are)

-- nothing, or a line end
abbrev Stops : List ℕ → Type 0
Stops [] = Unit {0}
Stops (unit ∷ rest) = is_line_end unit ≡ true

-- a source that begins with its line end
abbrev BeginsWithEnd : List ℕ → Type 0
BeginsWithEnd source = lines_of source ≡ empty_line (ending_of source) ∷ lines_behind (ending_of source) (drop (end_size (ending_of source)) source)

begins_with_return : (rest : List ℕ) → BeginsWithEnd (13 ∷ rest)
begins_with_return rest = lines_of-return rest ∙ at (begins_with_feed rest)
  where
    at : (feed : Bool)
        → (if feed then empty_line ReturnFeed ∷ lines_of (drop 1 rest) else empty_line Return ∷ lines_of rest)
        ≡ empty_line (if feed then ReturnFeed else Return)
        ∷ lines_behind (if feed then ReturnFeed else Return) (drop (end_size (if feed then ReturnFeed else Return)) (13 ∷ rest))
    at true = refl
    at false = refl

begins_with_end : (source : List ℕ) → Stops source → BeginsWithEnd source
begins_with_end [] stops = refl
begins_with_end (unit ∷ rest) stops =
    elim (or_cases _ _ stops) [
      | inl a ↦ elim (or_cases _ _ a) [
        | inl b ↦ elim (or_cases _ _ b) [
          | inl feed ↦ at_unit (eqb-true unit 10 feed) refl
          | inr return ↦ at_unit (eqb-true unit 13 return) (begins_with_return rest)
        ]
        | inr line ↦ at_unit (eqb-true unit 0x2028 line) refl
      ]
      | inr paragraph ↦ at_unit (eqb-true unit 0x2029 paragraph) refl
    ]
  where
    at_unit : {n : ℕ} → unit ≡ n → BeginsWithEnd (n ∷ rest) → BeginsWithEnd (unit ∷ rest)
    at_unit {n} same is = subst (λ (u : ℕ). BeginsWithEnd (u ∷ rest)) (sym same) is

-- the text before the first line end, and what stands behind it
record IsSplit (source : List ℕ) (size : ℕ) : Type 0 where
  pub none : is_line_text (take size source) ≡ true
  pub stops : Stops (drop size source)

split : (source : List ℕ) → IsSplit source (prefix_len (λ unit. not (is_line_end unit)) source)
split [] = record { none = refl; stops = tt }
split (unit ∷ source) = at (is_line_end unit) refl (split source)
  where
    at : (end : Bool) → is_line_end unit ≡ end → IsSplit source (prefix_len (λ u. not (is_line_end u)) source)
        → IsSplit (unit ∷ source) (if not end then 1 + prefix_len (λ u. not (is_line_end u)) source else 0)
    at true e behind = record { none = refl; stops = e }
    at false e behind =
        let one : suc (prefix_len (λ u. not (is_line_end u)) source) ≡ 1 + prefix_len (λ u. not (is_line_end u)) source = omega arith in
        let more : IsSplit (unit ∷ source) (suc (prefix_len (λ u. not (is_line_end u)) source)) =
        record { none = rw e behind.none; stops = behind.stops } in
        subst (λ (n : ℕ). IsSplit (unit ∷ source) n) one more

end_size-le : (source : List ℕ) → end_size (ending_of source) ≤ length source
end_size-le [] = omega arith
end_size-le (unit ∷ rest) = at (unit == 13) (unit == 0x2028) (unit == 0x2029)
  where
    return_case : (rest : List ℕ) → end_size (if begins_with_feed rest then ReturnFeed else Return) ≤ suc (length rest)
    return_case [] = omega arith
    return_case (next ∷ rest) = feed_case (next == 10)
      where
        feed_case : (feed : Bool) → end_size (if feed then ReturnFeed else Return) ≤ suc (suc (length rest))
        feed_case true = omega arith
        feed_case false = omega arith

    at : (return line paragraph : Bool)
        → end_size (if return then (if begins_with_feed rest then ReturnFeed else Return) else if line then LineSeparator else if paragraph then ParagraphSeparator else Feed)
        ≤ suc (length rest)
    at true line paragraph = return_case rest
    at false true paragraph = omega arith
    at false false true = omega arith
    at false false false = omega arith

-- the first line of a source
pub first_line_is : (source : List ℕ) (size : ℕ) (ending : Ending) → size ≡ prefix_len (λ unit. not (is_line_end unit)) source
    → ending ≡ ending_of (drop size source) → size ≤ length source → IsFirstLine source size ending
first_line_is source size ending is_size is_ending inside =
    subst (λ (e : Ending). IsFirstLine source size e) (sym is_ending)
    (record {
      within = omega (arith, end_size-le (drop size source), length-drop size source);
      lines =
          ap lines_of (sym (take-append-drop size source))
          ∙ lines_of-text (take size source) (drop size source) cut.none
          ∙ ap (with_text (take size source)) (begins_with_end (drop size source) cut.stops)
          ∙ ap (λ (text : List ℕ). record { text = text; ending = ending_of (drop size source) }
          ∷ lines_behind (ending_of (drop size source)) (drop (end_size (ending_of (drop size source))) (drop size source))) (append-nil (take size source))
          ∙ ap (λ (rest : List ℕ). record { text = take size source; ending = ending_of (drop size source) }
          ∷ lines_behind (ending_of (drop size source)) rest) (drop-drop (end_size (ending_of (drop size source))) size source);
    })
  where
    cut : IsSplit source size
    cut = subst (λ (n : ℕ). IsSplit source n) (sym is_size) (split source)

-- the lines that lines make

-- a line end before lines that it does not join
end_before : (ending : Ending) (rest : List ℕ) (next : PhysicalLine) (lines : List PhysicalLine) → is_last ending ≡ false
    → (is_return ending && is_empty_feed next) ≡ false → lines_of rest ≡ next ∷ lines → lines_of (end_units ending ++ rest) ≡ empty_line ending ∷ lines_of rest
end_before Feed rest next lines more apart are = refl
end_before ReturnFeed rest next lines more apart are = refl
end_before Return rest next lines more apart are =
    let begins : BeginsAs rest (lines_of rest) = begins_as rest in
    let same : begins.first ∷ begins.rest ≡ next ∷ lines = sym begins.are ∙ are in
    let first : begins.first ≡ next = cc in
    let feed : begins_with_feed rest ≡ false = sym begins.feed ∙ ap is_empty_feed first ∙ apart in
    lines_of-return rest ∙ (rw feed)
end_before LineSeparator rest next lines more apart are = refl
end_before ParagraphSeparator rest next lines more apart are = refl
end_before FileEnd rest next lines more apart are = absurd (both_ways _ more refl)

one_line : (text : List ℕ) (ending : Ending) → is_line_text text ≡ true → is_last ending ≡ true
    → lines_of (joined (record { text = text; ending = ending } ∷ [])) ≡ record { text = text; ending = ending } ∷ []
one_line text Feed none last = absurd (both_ways _ refl last)
one_line text ReturnFeed none last = absurd (both_ways _ refl last)
one_line text Return none last = absurd (both_ways _ refl last)
one_line text LineSeparator none last = absurd (both_ways _ refl last)
one_line text ParagraphSeparator none last = absurd (both_ways _ refl last)
one_line text FileEnd none last =
    ap lines_of (append-nil (text ++ [])) ∙ lines_of-text text [] none
    ∙ ap (λ (t : List ℕ). record { text = t; ending = FileEnd } ∷ []) (append-nil text)

-- the lines of what lines make are these lines
pub lines_of-joined : (lines : List PhysicalLine) → are_lines lines ≡ true → lines_of (joined lines) ≡ lines
lines_of-joined [] each = absurd (both_ways _ refl each)
lines_of-joined (line ∷ []) each =
    let parts : (is_line_text line.text ≡ true) × (is_last line.ending ≡ true) = and_parts (is_line_text line.text) (is_last line.ending) each in
    one_line line.text line.ending parts.0 parts.1
lines_of-joined (line ∷ next ∷ lines) each =
    let a : ((is_line_text line.text && not (is_last line.ending) && not (is_return line.ending && is_empty_feed next)) ≡ true) × (are_lines (next ∷ lines) ≡ true) =
    and_parts _ _ each in
    let b : ((is_line_text line.text && not (is_last line.ending)) ≡ true) × (not (is_return line.ending && is_empty_feed next) ≡ true) = and_parts _ _ a.0 in
    let d : (is_line_text line.text ≡ true) × (not (is_last line.ending) ≡ true) = and_parts _ _ b.0 in
    let rest : lines_of (joined (next ∷ lines)) ≡ next ∷ lines = lines_of-joined (next ∷ lines) a.1 in
    ap lines_of (append_assoc line.text (end_units line.ending) (joined (next ∷ lines)))
    ∙ lines_of-text line.text (end_units line.ending ++ joined (next ∷ lines)) d.0
    ∙ ap (with_text line.text) (end_before line.ending (joined (next ∷ lines)) next lines (not-true _ d.1) (not-true _ b.1) rest)
    ∙ ap (λ (all : List PhysicalLine). record { text = line.text ++ []; ending = line.ending } ∷ all) rest
    ∙ ap (λ (t : List ℕ). record { text = t; ending = line.ending } ∷ next ∷ lines) (append-nil line.text)

-- any lines of a source are those of `lines_of`
pub lines_of-only : (source : List ℕ) (lines : List PhysicalLine) → AreLinesOf source lines → lines ≡ lines_of source
lines_of-only source lines are = sym (lines_of-joined lines are.each) ∙ ap lines_of are.whole

-- an empty line at LF
empty_feed_is : (text : List ℕ) (ending : Ending) → is_empty_feed (record { text = text; ending = ending }) ≡ true
    → record { text = text; ending = ending } ≡ empty_line Feed
empty_feed_is [] Feed e = refl
empty_feed_is [] ReturnFeed e = absurd (both_ways _ refl e)
empty_feed_is [] Return e = absurd (both_ways _ refl e)
empty_feed_is [] LineSeparator e = absurd (both_ways _ refl e)
empty_feed_is [] ParagraphSeparator e = absurd (both_ways _ refl e)
empty_feed_is [] FileEnd e = absurd (both_ways _ refl e)
empty_feed_is (unit ∷ text) ending e = absurd (both_ways _ refl e)

-- an empty line that ends at a line end before lines
end_of_line : (ending : Ending) (unit : ℕ) (source : List ℕ) (lines : List PhysicalLine) → end_units ending ≡ unit ∷ [] → is_last ending ≡ false → is_return ending ≡ false
    → AreLinesOf source lines → AreLinesOf (unit ∷ source) (empty_line ending ∷ lines)
end_of_line ending unit source [] units more other are = absurd (both_ways _ refl are.each)
end_of_line ending unit source (line ∷ lines) units more other are =
    record {
      whole = ap (λ (end : List ℕ). end ++ joined (line ∷ lines)) units ∙ ap (λ (all : List ℕ). unit ∷ all) are.whole;
      each = rw (more, other) are.each;
    }

-- a line with one more unit
more_text : (unit : ℕ) (source : List ℕ) (lines : List PhysicalLine) → is_line_end unit ≡ false → AreLinesOf source lines → AreLinesOf (unit ∷ source) (with_unit unit lines)
more_text unit source [] none are = absurd (both_ways _ refl are.each)
more_text unit source (line ∷ []) none are = record { whole = ap (λ (all : List ℕ). unit ∷ all) are.whole; each = rw none are.each }
more_text unit source (line ∷ next ∷ lines) none are = record { whole = ap (λ (all : List ℕ). unit ∷ all) are.whole; each = rw none are.each }

-- a CR before lines
more_return : (source : List ℕ) (lines : List PhysicalLine) → AreLinesOf source lines → AreLinesOf (13 ∷ source) (with_return lines)
more_return source [] are = absurd (both_ways _ refl are.each)
more_return source (line ∷ lines) are = at (is_empty_feed line) refl
  where
    feed_case : (lines : List PhysicalLine) → AreLinesOf source (empty_line Feed ∷ lines) → AreLinesOf (13 ∷ source) (empty_line ReturnFeed ∷ lines)
    feed_case [] are = absurd (both_ways _ refl are.each)
    feed_case (next ∷ lines) are = record { whole = ap (λ (all : List ℕ). 13 ∷ all) are.whole; each = are.each }

    at : (empty : Bool) → is_empty_feed line ≡ empty
        → AreLinesOf (13 ∷ source) (if empty then empty_line ReturnFeed ∷ lines else empty_line Return ∷ line ∷ lines)
    at true e =
        let same : line ≡ empty_line Feed = empty_feed_is line.text line.ending e in
        feed_case lines (subst (λ (l : PhysicalLine). AreLinesOf source (l ∷ lines)) same are)
    at false e = record { whole = ap (λ (all : List ℕ). 13 ∷ all) are.whole; each = rw e are.each }

-- the lines of a source are lines of it
pub AreLinesOf-lines_of : (source : List ℕ) → AreLinesOf source (lines_of source)
AreLinesOf-lines_of [] = record { whole = refl; each = refl }
AreLinesOf-lines_of (unit ∷ source) = at (unit == 10) (unit == 13) (unit == 0x2028) (unit == 0x2029) refl refl refl refl (AreLinesOf-lines_of source)
  where
    at : (feed return line paragraph : Bool) → (unit == 10) ≡ feed → (unit == 13) ≡ return → (unit == 0x2028) ≡ line → (unit == 0x2029) ≡ paragraph
        → AreLinesOf source (lines_of source)
        → AreLinesOf (unit ∷ source)
        (if feed then empty_line Feed ∷ lines_of source
        else if return then with_return (lines_of source)
        else if line then empty_line LineSeparator ∷ lines_of source
        else if paragraph then empty_line ParagraphSeparator ∷ lines_of source
        else with_unit unit (lines_of source))
    at true return line paragraph e f g h are =
        end_of_line Feed unit source (lines_of source) (ap (λ (u : ℕ). u ∷ []) (sym (eqb-true unit 10 e))) refl refl are
    at false true line paragraph e f g h are =
        subst (λ (u : ℕ). AreLinesOf (u ∷ source) (with_return (lines_of source))) (sym (eqb-true unit 13 f)) (more_return source (lines_of source) are)
    at false false true paragraph e f g h are =
        end_of_line LineSeparator unit source (lines_of source) (ap (λ (u : ℕ). u ∷ []) (sym (eqb-true unit 0x2028 g))) refl refl are
    at false false false true e f g h are =
        end_of_line ParagraphSeparator unit source (lines_of source) (ap (λ (u : ℕ). u ∷ []) (sym (eqb-true unit 0x2029 h))) refl refl are
    at false false false false e f g h are = more_text unit source (lines_of source) (rw (e, f, g, h)) are
