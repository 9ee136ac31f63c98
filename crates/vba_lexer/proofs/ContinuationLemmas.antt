-- Continuations: where the mark is, and what a continued line's text has.
use Rattle.std.proofs.Common.{◌≡◌, ℕ, zero, suc, ◌+◌, ◌-◌, ◌<◌, ◌≤◌, Bool, true, false, List, [], ◌∷◌, ◌++◌, length, get_or, take, drop, Option, Some, None, refl, sym, ◌∙◌, ap, subst, arith, length-append, length-take-le, length-drop}
use Rattle.std.specs.Prelude.{if◌then◌else◌, ◌==◌, ◌&&◌, option_map}
use Rattle.std.specs.List.{list_all}
use Rattle.std.proofs.lemmas.Bool.{both_ways}
use Rattle.std.proofs.lemmas.List.{drop_more, drop_all, take-append-drop}
use Rattle.vba_lexer.specs.declared.lines.Ending.{Ending}
use Rattle.vba_lexer.specs.declared.lines.Ending.TheVariants.{Feed, ReturnFeed, Return, LineSeparator, ParagraphSeparator, FileEnd}
use Rattle.vba_lexer.specs.Characters.{AreUnits}
use Rattle.vba_lexer.specs.Classes.{is_white}
use Rattle.vba_lexer.specs.Continuations.{mark_behind, continuation_mark, continued_at, inner_end, inner_text, continued_text}
use Rattle.vba_lexer.specs.Lines.{PhysicalLine, line_units, end_units, is_last}
use Rattle.vba_lexer.proofs.CharacterLemmas.{are_units-front, are_units-rest}

-- a mark stands within its text
pub mark_behind-within : (white_before : Bool) (text : List ℕ) (mark : ℕ) → mark_behind white_before text ≡ Some mark → mark < length text
mark_behind-within white_before [] mark same = let e : None ≡ Some mark = same in cc
mark_behind-within white_before (unit ∷ text) mark same =
    at (white_before && (unit == 95) && list_all is_white text) (mark_behind (is_white unit) text) (mark_behind-within (is_white unit) text) refl same
  where
    at : (here : Bool) (behind : Option ℕ) → ((place : ℕ) → mark_behind (is_white unit) text ≡ Some place → place < length text)
        → mark_behind (is_white unit) text ≡ behind
        → (if here then Some 0 else option_map (λ place. 1 + place) behind) ≡ Some mark → mark < suc (length text)
    at true behind inside e same = let f : Some 0 ≡ Some mark = same in let g : 0 ≡ mark = cc in omega arith
    at false None inside e same = let f : None ≡ Some mark = same in cc
    at false (Some place) inside e same =
        let f : Some (1 + place) ≡ Some mark = same in
        let g : 1 + place ≡ mark = cc in
        let h : place < length text = inside place e in
        omega arith

length-inner_end : (ending : Ending) → length (inner_end ending) ≡ length (end_units ending)
length-inner_end Feed = refl
length-inner_end ReturnFeed = refl
length-inner_end Return = refl
length-inner_end LineSeparator = refl
length-inner_end ParagraphSeparator = refl
length-inner_end FileEnd = refl

-- a continued line has as many units inside its logical line
pub length-inner_text : (line : PhysicalLine) (mark : ℕ) → mark < length line.text → length (inner_text line.text mark line.ending) ≡ length (line_units line)
length-inner_text line mark within =
    let a : length (take mark line.text ++ 32 ∷ drop (mark + 1) line.text ++ inner_end line.ending)
    ≡ length (take mark line.text ++ 32 ∷ drop (mark + 1) line.text) + length (inner_end line.ending) =
    length-append (take mark line.text ++ 32 ∷ drop (mark + 1) line.text) (inner_end line.ending) in
    let b : length (take mark line.text ++ 32 ∷ drop (mark + 1) line.text) ≡ length (take mark line.text) + suc (length (drop (mark + 1) line.text)) =
    length-append (take mark line.text) (32 ∷ drop (mark + 1) line.text) in
    let d : length (take mark line.text) ≡ mark = length-take-le mark line.text (omega arith) in
    let e : length (drop (mark + 1) line.text) ≡ length line.text - (mark + 1) = length-drop (mark + 1) line.text in
    let f : length (inner_end line.ending) ≡ length (end_units line.ending) = length-inner_end line.ending in
    let g : length (line_units line) ≡ length line.text + length (end_units line.ending) = length-append line.text (end_units line.ending) in
    omega arith

-- what is said of a continued line
pub record IsContinued (line : PhysicalLine) (text : List ℕ) : Type 0 where
  pub mark : ℕ
  pub same : text ≡ inner_text line.text mark line.ending
  pub within : mark < length line.text

pub is_continued : (line : PhysicalLine) (text : List ℕ) → continued_text line ≡ Some text → IsContinued line text
is_continued line text same = at (is_last line.ending) (continuation_mark line.text) refl same
  where
    at : (last : Bool) (found : Option ℕ) → continuation_mark line.text ≡ found
        → option_map (λ mark. inner_text line.text mark line.ending) (if last then None else found) ≡ Some text → IsContinued line text
    at true found e same = let f : None ≡ Some text = same in cc
    at false None e same = let f : None ≡ Some text = same in cc
    at false (Some mark) e same =
        let f : Some (inner_text line.text mark line.ending) ≡ Some text = same in
        let g : inner_text line.text mark line.ending ≡ text = cc in
        record { mark = mark; same = sym g; within = mark_behind-within false line.text mark e }

pub length-continued : (line : PhysicalLine) (text : List ℕ) → continued_text line ≡ Some text → length text ≡ length (line_units line)
length-continued line text same =
    let is : IsContinued line text = is_continued line text same in ap length is.same ∙ length-inner_text line is.mark is.within

pub are_units-join : (front rest : List ℕ) → AreUnits front → AreUnits rest → AreUnits (front ++ rest)
are_units-join [] rest front_units rest_units place = rest_units place
are_units-join (unit ∷ front) rest front_units rest_units zero = front_units 0
are_units-join (unit ∷ front) rest front_units rest_units (suc place) = are_units-join front rest (λ p. front_units (suc p)) rest_units place

are_units-inner_end : (ending : Ending) → AreUnits (inner_end ending)
are_units-inner_end Feed zero = omega arith
are_units-inner_end Feed (suc place) = omega arith
are_units-inner_end ReturnFeed zero = omega arith
are_units-inner_end ReturnFeed (suc zero) = omega arith
are_units-inner_end ReturnFeed (suc (suc place)) = omega arith
are_units-inner_end Return zero = omega arith
are_units-inner_end Return (suc place) = omega arith
are_units-inner_end LineSeparator zero = omega arith
are_units-inner_end LineSeparator (suc place) = omega arith
are_units-inner_end ParagraphSeparator zero = omega arith
are_units-inner_end ParagraphSeparator (suc place) = omega arith
are_units-inner_end FileEnd place = omega arith

are_units-blank : (rest : List ℕ) → AreUnits rest → AreUnits (32 ∷ rest)
are_units-blank rest units zero = omega arith
are_units-blank rest units (suc place) = units place

-- it consists of units
pub are_units-continued : (line : PhysicalLine) (text : List ℕ) → continued_text line ≡ Some text → AreUnits line.text → AreUnits text
are_units-continued line text same units =
    subst AreUnits (sym is.same)
    (are_units-join (take is.mark line.text ++ 32 ∷ drop (is.mark + 1) line.text) (inner_end line.ending)
    (are_units-join (take is.mark line.text) (32 ∷ drop (is.mark + 1) line.text)
    (are_units-front (take is.mark line.text) (drop is.mark line.text) (subst AreUnits (sym (take-append-drop is.mark line.text)) units))
    (are_units-blank (drop (is.mark + 1) line.text)
    (are_units-rest (take (is.mark + 1) line.text) (drop (is.mark + 1) line.text)
    (subst AreUnits (sym (take-append-drop (is.mark + 1) line.text)) units))))
    (are_units-inner_end line.ending))
  where
    is : IsContinued line text
    is = is_continued line text same

-- the mark of a text, by what was passed over
pub record PassedOver (text : List ℕ) (white_before : Bool) (place : ℕ) : Type 0 where
  pub within : place ≤ length text
  pub goes_on : option_map (λ mark. place + mark) (mark_behind white_before (drop place text)) ≡ continuation_mark text

moved_by_0 : (found : Option ℕ) → option_map (λ mark. 0 + mark) found ≡ found
moved_by_0 None = refl
moved_by_0 (Some mark) = let e : 0 + mark ≡ mark = omega arith in ap Some e

pub passed_none : (text : List ℕ) → PassedOver text false 0
passed_none text = record { within = omega arith; goes_on = moved_by_0 (continuation_mark text) }

moved_more : (place : ℕ) (found : Option ℕ)
    → option_map (λ mark. place + mark) (option_map (λ mark. 1 + mark) found) ≡ option_map (λ mark. place + 1 + mark) found
moved_more place None = refl
moved_more place (Some mark) = let e : place + (1 + mark) ≡ place + 1 + mark = omega arith in ap Some e

pub passed_unit : (text : List ℕ) (white_before next : Bool) (place : ℕ) → PassedOver text white_before place → place < length text
    → (white_before && (get_or text place 0 == 95) && list_all is_white (drop (place + 1) text)) ≡ false → next ≡ is_white (get_or text place 0)
    → PassedOver text next (place + 1)
passed_unit text white_before next place so_far inside none is_next =
    record {
      within = omega arith;
      goes_on =
          ap (λ (w : Bool). option_map (λ mark. place + 1 + mark) (mark_behind w (drop (place + 1) text))) is_next
          ∙ sym (moved_more place (mark_behind (is_white (get_or text place 0)) (drop (place + 1) text)))
          ∙ ap (option_map (λ mark. place + mark)) (sym step)
          ∙ so_far.goes_on;
    }
  where
    step : mark_behind white_before (drop place text)
        ≡ option_map (λ mark. 1 + mark) (mark_behind (is_white (get_or text place 0)) (drop (place + 1) text))
    step = ap (mark_behind white_before) (drop_more text place 0 inside) ∙ (rw none)

pub passed_to_mark : (text : List ℕ) (white_before : Bool) (place : ℕ) → PassedOver text white_before place → place < length text
    → (white_before && (get_or text place 0 == 95) && list_all is_white (drop (place + 1) text)) ≡ true → Some place ≡ continuation_mark text
passed_to_mark text white_before place so_far inside here =
    let e : mark_behind white_before (drop place text) ≡ Some 0 = ap (mark_behind white_before) (drop_more text place 0 inside) ∙ (rw here) in
    let f : place ≡ place + 0 = omega arith in
    ap Some f ∙ ap (option_map (λ mark. place + mark)) (sym e) ∙ so_far.goes_on

pub passed_all : (text : List ℕ) (white_before : Bool) (place : ℕ) → PassedOver text white_before place → length text ≤ place → None ≡ continuation_mark text
passed_all text white_before place so_far past =
    let e : mark_behind white_before (drop place text) ≡ None = ap (mark_behind white_before) (drop_all place text past) in
    ap (option_map (λ mark. place + mark)) (sym e) ∙ so_far.goes_on

-- each line end but that of the source takes a unit at least
pub end_size-some : (ending : Ending) → is_last ending ≡ false → 1 ≤ length (end_units ending)
end_size-some Feed more = omega arith
end_size-some ReturnFeed more = omega arith
end_size-some Return more = omega arith
end_size-some LineSeparator more = omega arith
end_size-some ParagraphSeparator more = omega arith
end_size-some FileEnd more = absurd (both_ways _ more refl)

pub not_last : (ending : Ending) → (ending ≡ FileEnd → ⊥) → is_last ending ≡ false
not_last Feed other = refl
not_last ReturnFeed other = refl
not_last Return other = refl
not_last LineSeparator other = refl
not_last ParagraphSeparator other = refl
not_last FileEnd other = absurd (other refl)

-- no line end continues the last line
pub continued-not_last : (text : List ℕ) (ending : Ending) (mark : ℕ) → continued_at text ending ≡ Some mark → is_last ending ≡ false
continued-not_last text ending mark same = not_last ending (λ last.
    let e : continued_at text ending ≡ None = ap (continued_at text) last in
    let f : None ≡ Some mark = sym e ∙ same in cc)
