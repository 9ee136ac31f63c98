-- Parts of texts, and texts in other forms.
use Rattle.std.specs.Prelude.{ℕ, ◌-◌, suc, nat_lt, ℤ, pos, negsuc, List, length, take, drop, map, reverse, replicate, Result, Ok, Err, if◌then◌else◌}
use Rattle.std.specs.Char.{to_ascii_lowercase, to_ascii_uppercase}
use Rattle.std.specs.List.{suffix_len}
use Rattle.currency.specs.NumberText.{behind_blanks, blank, is_blank}
use Rattle.vba_base.specs.Answer.{◌>>=◌}
use Rattle.vba_values.specs.declared.fault.Bad.{Bad}
use Rattle.vba_values.specs.Coerce.{text_of}
use Rattle.vba_values.specs.Val.{Val, text}
use Rattle.vba_lib.specs.Arguments.{invalid_call, long_answer, long_of, text_answer, text_too_long}

-- Len: how many units a text has
abbrev pub len : Val → Result Val Bad
len value = text_of value >>= λ units. long_answer (length units)

-- the first units of a text, and the last ones: fewer where it has fewer
abbrev pub first_units : List ℕ → ℤ → Result Val Bad
first_units units (pos count) = text_answer (take count units)
first_units units (negsuc count) = Err invalid_call

abbrev pub last_units : List ℕ → ℤ → Result Val Bad
last_units units (pos count) = text_answer (drop (length units - count) units)
last_units units (negsuc count) = Err invalid_call

-- what stands from a place of a text on; places count from 1
abbrev pub from_place : List ℕ → ℤ → Result (List ℕ) Bad
from_place units (pos (suc before)) = Ok (drop before units)
from_place units place = Err invalid_call

-- Left, Right and Mid
abbrev pub left : Val → Val → Result Val Bad
left value count = text_of value >>= λ units. long_of count >>= λ number. first_units units number

abbrev pub right : Val → Val → Result Val Bad
right value count = text_of value >>= λ units. long_of count >>= λ number. last_units units number

abbrev pub mid : Val → Val → Result Val Bad
mid value place =
    text_of value >>= λ units. long_of place >>= λ start. from_place units start >>= λ rest. text_answer rest

abbrev pub mid_of_length : Val → Val → Val → Result Val Bad
mid_of_length value place count =
    text_of value >>= λ units. long_of place >>= λ start. long_of count >>= λ number. from_place units start >>= λ rest. first_units rest number

-- UCase and LCase change the letters of ASCII
abbrev pub u_case : Val → Result Val Bad
u_case value = text_of value >>= λ units. text_answer (map to_ascii_uppercase units)

abbrev pub l_case : Val → Result Val Bad
l_case value = text_of value >>= λ units. text_answer (map to_ascii_lowercase units)

-- LTrim drops the blanks before a text, RTrim those behind it, and Trim both
abbrev pub before_blanks : List ℕ → List ℕ
before_blanks units = take (length units - suffix_len is_blank units) units

abbrev pub l_trim : Val → Result Val Bad
l_trim value = text_of value >>= λ units. text_answer (behind_blanks units)

abbrev pub r_trim : Val → Result Val Bad
r_trim value = text_of value >>= λ units. text_answer (before_blanks units)

abbrev pub trim : Val → Result Val Bad
trim value = text_of value >>= λ units. text_answer (before_blanks (behind_blanks units))

-- so many times one unit
abbrev pub repeated : ℕ → ℕ → Result Val Bad
repeated count unit = if nat_lt 16777216 count then Err text_too_long else Ok (text (replicate count unit))

-- Space
abbrev pub blanks : ℤ → Result Val Bad
blanks (pos count) = repeated count blank
blanks (negsuc count) = Err invalid_call

abbrev pub space : Val → Result Val Bad
space count = long_of count >>= λ number. blanks number

-- StrReverse
abbrev pub str_reverse : Val → Result Val Bad
str_reverse value = text_of value >>= λ units. text_answer (reverse units)
