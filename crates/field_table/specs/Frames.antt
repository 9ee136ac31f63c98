-- Serves the code: frames: texts behind one another, each behind its length.
use Rattle.std.specs.Prelude.{◌≡◌, ℕ, zero, suc, ◌+◌, ◌*◌, ◌/◌, ◌%◌, ◌^◌, ◌<◌, ◌≤◌, List, [], ◌∷◌, ◌++◌, length, drop, slice_index, slice_range, nat_eq, nat_lt, if◌then◌else◌}

-- a length: one unit where it is below 65535, and else 65535 and two units, the higher half first
abbrev pub length_units : ℕ → List ℕ
length_units n = if nat_lt n 65535 then n ∷ [] else 65535 ∷ n / 65536 ∷ n % 65536 ∷ []

-- a text behind its length
abbrev pub frame : List ℕ → List ℕ
frame text = length_units (length text) ++ text

-- where the text of the first frame begins
abbrev pub text_begin : List ℕ → ℕ
text_begin units = if nat_eq (slice_index units 0) 65535 then 3 else 1

-- where the text of the first frame ends
abbrev pub text_end : List ℕ → ℕ
text_end units = if nat_eq (slice_index units 0) 65535 then 3 + 65536 * slice_index units 1 + slice_index units 2 else 1 + slice_index units 0

-- the text of the first frame
abbrev pub first_text : List ℕ → List ℕ
first_text units = slice_range units (text_begin units) (text_end units)

-- the units behind so many frames
abbrev pub behind : ℕ → List ℕ → List ℕ
behind zero units = units
behind (suc n) units = behind n (drop (text_end units) units)

-- where the frame begins that stands behind so many
abbrev pub begin_of : ℕ → List ℕ → ℕ
begin_of zero units = 0
begin_of (suc n) units = text_end units + begin_of n (drop (text_end units) units)

-- the texts of so many frames
abbrev pub texts_in : ℕ → List ℕ → List (List ℕ)
texts_in zero units = []
texts_in (suc n) units = first_text units ∷ texts_in n (drop (text_end units) units)

-- so many frames don't reach past the end
abbrev pub AreWhole : ℕ → List ℕ → Type 0
AreWhole zero units = Unit {0}
AreWhole (suc n) units = (text_end units ≤ length units) × AreWhole n (drop (text_end units) units)

-- the marks and one more behind this many frames, if the next is one of those that have a mark
abbrev pub with_mark : ℕ → ℕ → List ℕ → List ℕ
with_mark count begin marks = if nat_eq (count % 64) 0 then marks ++ begin ∷ [] else marks

-- the units are so many whole frames, and the marks say where each 64th of them begins, from the first on
pub record AreFrames (count : ℕ) (units marks : List ℕ) : Type 0 where
  pub whole : AreWhole count units
  pub all : behind count units ≡ []
  pub fit : length units < 2 ^ 32
  pub enough : count ≤ 64 * length marks
  pub needed : 64 * length marks < count + 64
  pub places : (k : ℕ) → k < length marks → slice_index marks k ≡ begin_of (64 * k) units
