-- Frames behind one another, and one more.
use Rattle.std.proofs.Common.{◌≡◌, ℕ, zero, suc, ◌+◌, ◌*◌, ◌/◌, ◌%◌, ◌<◌, ◌≤◌, List, [], ◌∷◌, ◌++◌, length, drop, refl, sym, ap, subst, ◌∙◌, arith, add-one, zero-add, suc-add, Bool, true, false, nat_eq, inl, inr, ◌^◌}
use Rattle.std.specs.Prelude.{slice_range, slice_index, slice_index_or, if◌then◌else◌}
use Rattle.std.proofs.lemmas.Grind.{common_steps}
use Rattle.std.proofs.lemmas.Bool.{cases_lt}
use Rattle.std.proofs.lemmas.Bool.Decides.{nat_tests}
use Rattle.std.proofs.lemmas.List.{length-append, length-drop, drop-append-le, drop-drop, drop_all, get_or_append_left, get_or_push}
use Rattle.field_table.proofs.Pieces.{range_before}
use Rattle.field_table.specs.Frames.{frame, text_begin, text_end, first_text, behind, begin_of, texts_in, AreWhole, with_mark, AreFrames}

-- one frame further
pub behind_more : (n : ℕ) (units : List ℕ) → behind (n + 1) units ≡ drop (text_end (behind n units)) (behind n units)
behind_more zero units = refl
behind_more (suc n) units = rw add-one (rw add-one at (behind_more n (drop (text_end units) units)))

pub whole_at : (n i : ℕ) (units : List ℕ) → AreWhole n units → i < n → text_end (behind i units) ≤ length (behind i units)
whole_at zero i units whole lt = absurd (omega arith)
whole_at (suc n) zero units whole lt = whole.0
whole_at (suc n) (suc i) units whole lt = whole_at n i (drop (text_end units) units) whole.1 (omega arith)

pub behind_begin : (n : ℕ) (units : List ℕ) → drop (begin_of n units) units ≡ behind n units
behind_begin zero units = refl
behind_begin (suc n) units = sym (drop-drop (begin_of n (drop (text_end units) units)) (text_end units) units) ∙ behind_begin n (drop (text_end units) units)

pub length_texts : (n : ℕ) (units : List ℕ) → length (texts_in n units) ≡ n
length_texts zero units = refl
length_texts (suc n) units = ap suc (length_texts n (drop (text_end units) units))

pub text_at : (n i : ℕ) (units : List ℕ) → i < n → slice_index_or (texts_in n units) i [] ≡ first_text (behind i units)
text_at zero i units lt = absurd (omega arith)
text_at (suc n) zero units lt = refl
text_at (suc n) (suc i) units lt = text_at n i (drop (text_end units) units) (omega arith)

-- some frames, and some behind them
pub whole_first : (m n : ℕ) (units : List ℕ) → AreWhole n units → m ≤ n → AreWhole m units
whole_first zero n units whole le = tt
whole_first (suc m) zero units whole le = absurd (omega arith)
whole_first (suc m) (suc n) units whole le = (whole.0, whole_first m n (drop (text_end units) units) whole.1 (omega arith))

pub whole_behind : (m n : ℕ) (units : List ℕ) → AreWhole (m + n) units → AreWhole n (behind m units)
whole_behind zero n units whole = rw zero-add at whole
whole_behind (suc m) n units whole = whole_behind m n (drop (text_end units) units) (rw suc-add at whole).1

pub behind_behind : (m n : ℕ) (units : List ℕ) → behind (m + n) units ≡ behind n (behind m units)
behind_behind zero n units = rw zero-add refl
behind_behind (suc m) n units = ap (λ k. behind k units) (suc-add m n) ∙ behind_behind m n (drop (text_end units) units)

-- what stands behind a whole frame doesn't change it
pub text_end_more : (units more : List ℕ) → text_end units ≤ length units → text_end (units ++ more) ≡ text_end units
text_end_more [] more whole = absurd (omega arith)
text_end_more (a ∷ []) more whole = grind (arith, common_steps)
text_end_more (a ∷ b ∷ []) more whole = grind (arith, common_steps)
text_end_more (a ∷ b ∷ c ∷ units) more whole = refl

text_begin_more : (units more : List ℕ) → text_end units ≤ length units → text_begin (units ++ more) ≡ text_begin units
text_begin_more [] more whole = absurd (omega arith)
text_begin_more (a ∷ units) more whole = refl

text_rises : (units : List ℕ) → text_begin units ≤ text_end units
text_rises units = grind arith

pub first_text_more : (units more : List ℕ) → text_end units ≤ length units → first_text (units ++ more) ≡ first_text units
first_text_more units more whole =
    ap (λ begin. slice_range (units ++ more) begin (text_end (units ++ more))) (text_begin_more units more whole)
    ∙ ap (slice_range (units ++ more) (text_begin units)) (text_end_more units more whole)
    ∙ range_before units more (text_begin units) (text_end units) (text_rises units) whole

-- a frame has its text
pub frame_end : (text : List ℕ) → text_end (frame text) ≡ length (frame text)
frame_end text = grind (arith, common_steps)

pub frame_text : (text : List ℕ) → first_text (frame text) ≡ text
frame_text text = grind (arith, common_steps)

-- whole frames, and units behind them
drop_more : (units more : List ℕ) → text_end units ≤ length units → drop (text_end (units ++ more)) (units ++ more) ≡ drop (text_end units) units ++ more
drop_more units more whole = ap (λ end. drop end (units ++ more)) (text_end_more units more whole) ∙ drop-append-le (text_end units) units more whole

pub whole_more : (n : ℕ) (units more : List ℕ) → AreWhole n units → AreWhole n (units ++ more)
whole_more zero units more whole = tt
whole_more (suc n) units more whole = (
  omega (arith, whole.0, text_end_more units more whole.0, length-append units more),
  subst (AreWhole n) (sym (drop_more units more whole.0)) (whole_more n (drop (text_end units) units) more whole.1),
)

pub behind_added : (n : ℕ) (units more : List ℕ) → AreWhole n units → behind n (units ++ more) ≡ behind n units ++ more
behind_added zero units more whole = refl
behind_added (suc n) units more whole = ap (behind n) (drop_more units more whole.0) ∙ behind_added n (drop (text_end units) units) more whole.1

pub begin_before : (n : ℕ) (units more : List ℕ) → AreWhole n units → begin_of n (units ++ more) ≡ begin_of n units
begin_before zero units more whole = refl
begin_before (suc n) units more whole =
    ap (λ end. end + begin_of n (drop (text_end (units ++ more)) (units ++ more))) (text_end_more units more whole.0)
    ∙ ap (λ rest. text_end units + begin_of n rest) (drop_more units more whole.0)
    ∙ ap (λ begin. text_end units + begin) (begin_before n (drop (text_end units) units) more whole.1)

pub texts_before : (n : ℕ) (units more : List ℕ) → AreWhole n units → texts_in n (units ++ more) ≡ texts_in n units
texts_before zero units more whole = refl
texts_before (suc n) units more whole =
    ap (λ text. text ∷ texts_in n (drop (text_end (units ++ more)) (units ++ more))) (first_text_more units more whole.0)
    ∙ ap (λ rest. first_text units ∷ texts_in n rest) (drop_more units more whole.0)
    ∙ ap (λ texts. first_text units ∷ texts) (texts_before n (drop (text_end units) units) more whole.1)

-- the last frame of some
pub whole_last : (n : ℕ) (units : List ℕ) → AreWhole n units → text_end (behind n units) ≤ length (behind n units) → AreWhole (n + 1) units
whole_last zero units whole last = (last, tt)
whole_last (suc n) units whole last = rw add-one (whole.0, rw add-one at (whole_last n (drop (text_end units) units) whole.1 last))

pub texts_last : (n : ℕ) (units : List ℕ) → texts_in (n + 1) units ≡ texts_in n units ++ first_text (behind n units) ∷ []
texts_last zero units = refl
texts_last (suc n) units = rw add-one (ap (λ texts. first_text units ∷ texts) (rw add-one at (texts_last n (drop (text_end units) units))))

-- how many units whole frames have
pub begin_behind : (n : ℕ) (units : List ℕ) → AreWhole n units → begin_of n units + length (behind n units) ≡ length units
begin_behind zero units whole = omega arith
begin_behind (suc n) units whole = omega (arith, begin_behind n (drop (text_end units) units) whole.1, length-drop (text_end units) units, whole.0)

end_positive : (units : List ℕ) → 1 ≤ text_end units
end_positive units = grind arith

pub count_below : (n : ℕ) (units : List ℕ) → n ≤ begin_of n units
count_below zero units = omega arith
count_below (suc n) units = omega (arith, count_below n (drop (text_end units) units), end_positive units)

-- one frame more
frame_alone : (n : ℕ) (units text : List ℕ) → AreWhole n units → behind n units ≡ [] → behind n (units ++ frame text) ≡ frame text
frame_alone n units text whole all = behind_added n units (frame text) whole ∙ ap (λ rest. rest ++ frame text) all

whole_with : (n : ℕ) (units text : List ℕ) → AreWhole n units → behind n units ≡ [] → AreWhole (n + 1) (units ++ frame text)
whole_with n units text whole all =
    let alone = frame_alone n units text whole all in
    whole_last n (units ++ frame text) (whole_more n units (frame text) whole) (rw alone (omega (arith, frame_end text)))

all_with : (n : ℕ) (units text : List ℕ) → AreWhole n units → behind n units ≡ [] → behind (n + 1) (units ++ frame text) ≡ []
all_with n units text whole all =
    behind_more n (units ++ frame text)
    ∙ ap (λ rest. drop (text_end rest) rest) (frame_alone n units text whole all)
    ∙ drop_all (text_end (frame text)) (frame text) (omega (arith, frame_end text))

pub texts_with : (n : ℕ) (units text : List ℕ) → AreWhole n units → behind n units ≡ [] → texts_in (n + 1) (units ++ frame text) ≡ texts_in n units ++ text ∷ []
texts_with n units text whole all =
    texts_last n (units ++ frame text)
    ∙ ap (λ texts. texts ++ first_text (behind n (units ++ frame text)) ∷ []) (texts_before n units (frame text) whole)
    ∙ ap (λ last. texts_in n units ++ first_text last ∷ []) (frame_alone n units text whole all)
    ∙ ap (λ last. texts_in n units ++ last ∷ []) (frame_text text)

-- the marks of one frame more
marks_count : (n begin : ℕ) (marks : List ℕ) → n ≤ 64 * length marks → 64 * length marks < n + 64
    → (n + 1 ≤ 64 * length (with_mark n begin marks)) × (64 * length (with_mark n begin marks) < n + 1 + 64)
marks_count n begin marks enough needed = grind (arith, nat_tests, length-append marks (begin ∷ []))

pub begin_of_all : (n : ℕ) (units : List ℕ) → AreWhole n units → behind n units ≡ [] → begin_of n units ≡ length units
begin_of_all n units whole all = omega (arith, begin_behind n units whole, ap length all)

-- the marks there were, and the new one
mark_before : (marked : Bool) (begin : ℕ) (marks : List ℕ) (k : ℕ) → k < length marks
    → slice_index (if marked then marks ++ begin ∷ [] else marks) k ≡ slice_index marks k
mark_before true begin marks k lt = get_or_append_left marks (begin ∷ []) 0 k lt
mark_before false begin marks k lt = refl

mark_last : (marked : Bool) (begin : ℕ) (marks : List ℕ) (k : ℕ) → length marks ≤ k → k < length (if marked then marks ++ begin ∷ [] else marks)
    → slice_index (if marked then marks ++ begin ∷ [] else marks) k ≡ begin
mark_last true begin marks k past lt = get_or_push marks begin 0 k (omega (arith, lt, length-append marks (begin ∷ [])))
mark_last false begin marks k past lt = absurd (omega arith)

mark_due : (n begin : ℕ) (marks : List ℕ) (k : ℕ) → n ≤ 64 * length marks → 64 * length marks < n + 64 → length marks ≤ k
    → k < length (with_mark n begin marks) → 64 * k ≡ n
mark_due n begin marks k enough needed past lt = grind (arith, nat_tests, length-append marks (begin ∷ []))

mark_places : (n : ℕ) (units more marks : List ℕ) → AreFrames n units marks
    → (k : ℕ) → k < length (with_mark n (length units) marks) → slice_index (with_mark n (length units) marks) k ≡ begin_of (64 * k) (units ++ more)
mark_places n units more marks are k lt =
    let begin = length units in
    let marked = nat_eq (n % 64) 0 in
    elim (cases_lt k (length marks)) [
      | inl old ↦ mark_before marked begin marks k old ∙ are.places k old
          ∙ sym (begin_before (64 * k) units more (whole_first (64 * k) n units are.whole (omega (arith, are.needed, old))))
      | inr past ↦ mark_last marked begin marks k past lt ∙ sym (begin_of_all n units are.whole are.all) ∙ sym (begin_before n units more are.whole)
          ∙ ap (λ m. begin_of m (units ++ more)) (sym (mark_due n begin marks k are.enough are.needed past lt))
    ]

pub frame_added : (n begin : ℕ) (units units' marks marks' text : List ℕ) → AreFrames n units marks → units' ≡ units ++ frame text → length units' < 2 ^ 32
    → begin ≡ length units → marks' ≡ with_mark n begin marks → AreFrames (n + 1) units' marks'
frame_added n begin units units' marks marks' text are longer fit at more =
    let now : marks' ≡ with_mark n (length units) marks = more ∙ ap (λ b. with_mark n b marks) at in
    let counts = marks_count n (length units) marks are.enough are.needed in
    record {
      whole = subst (AreWhole (n + 1)) (sym longer) (whole_with n units text are.whole are.all);
      all = ap (behind (n + 1)) longer ∙ all_with n units text are.whole are.all;
      fit = fit;
      enough = rw now counts.0;
      needed = rw now counts.1;
      places = rw (now, longer) (mark_places n units (frame text) marks are);
    }

-- the frames from a mark on
pub mark_inside : (n place : ℕ) (units marks : List ℕ) → AreFrames n units marks → place < n → place / 64 < length marks
mark_inside n place units marks are lt = omega (arith, are.enough)

mark_place : (n place : ℕ) (units marks : List ℕ) → AreFrames n units marks → place < n
    → drop (slice_index marks (place / 64)) units ≡ behind (64 * (place / 64)) units
mark_place n place units marks are lt =
    ap (λ begin. drop begin units) (are.places (place / 64) (mark_inside n place units marks are lt)) ∙ behind_begin (64 * (place / 64)) units

place_parts : (place : ℕ) → 64 * (place / 64) + place % 64 ≡ place
place_parts place = omega arith

pub mark_below : (n place : ℕ) (units marks : List ℕ) → AreFrames n units marks → place < n → slice_index marks (place / 64) ≤ length units
mark_below n place units marks are lt =
    omega (
      arith,
      are.places (place / 64) (mark_inside n place units marks are lt),
      begin_behind (64 * (place / 64)) units (whole_first (64 * (place / 64)) n units are.whole (omega (arith, place_parts place, lt))),
    )

pub whole_from_mark : (n place : ℕ) (units marks : List ℕ) → AreFrames n units marks → place < n
    → AreWhole (place % 64) (drop (slice_index marks (place / 64)) units)
whole_from_mark n place units marks are lt =
    subst (AreWhole (place % 64)) (sym (mark_place n place units marks are lt))
    (whole_behind (64 * (place / 64)) (place % 64) units
    (subst (λ k. AreWhole k units) (sym (place_parts place)) (whole_first place n units are.whole (omega (arith, lt)))))

pub behind_mark : (n place : ℕ) (units marks : List ℕ) → AreFrames n units marks → place < n
    → behind (place % 64) (drop (slice_index marks (place / 64)) units) ≡ behind place units
behind_mark n place units marks are lt =
    ap (behind (place % 64)) (mark_place n place units marks are lt) ∙ sym (behind_behind (64 * (place / 64)) (place % 64) units)
    ∙ ap (λ k. behind k units) (place_parts place)

-- no more frames than units
pub frames_fit : (n : ℕ) (units units' marks text : List ℕ) → AreFrames n units marks → units' ≡ units ++ frame text → length units' < 2 ^ 32 → n + 1 < 2 ^ 32
frames_fit n units units' marks text are longer fit =
    omega (
      arith,
      count_below n units,
      begin_of_all n units are.whole are.all,
      ap length longer,
      length-append units (frame text),
      frame_end text,
      end_positive (frame text),
    )
