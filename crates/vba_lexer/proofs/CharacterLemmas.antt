-- The characters of a text, and places behind them.
use Rattle.std.proofs.Common.{◌≡◌, ℕ, zero, suc, ◌+◌, ◌<◌, ◌≤◌, ◌^◌, Bool, true, false, List, [], ◌∷◌, ◌++◌, length, get_or, take, drop, refl, sym, ◌∙◌, ap, arith, inl, inr}
use Rattle.std.specs.Prelude.{if◌then◌else◌, ◌==◌, ◌&&◌, nat_le}
use Rattle.std.specs.Char.Utf16.{is_high_surrogate, is_low_surrogate, surrogate_pair_char}
use Rattle.std.proofs.lemmas.Bool.{lt-leb, le-leb, cases_Bool, eqb-true}
use Rattle.std.proofs.lemmas.List.{take-append-drop, drop-drop, append_assoc}
use Rattle.vba_lexer.specs.declared.cursor.Cursor.{Cursor}
use Rattle.vba_lexer.specs.Characters.{characters_of, width, units_of, behind, past, HasRoom, AreUnits}

-- the places behind characters and more of them
pub past-append : (cursor : Cursor) (front rest : List ℕ) → past cursor (front ++ rest) ≡ past (past cursor front) rest
past-append cursor [] rest = refl
past-append cursor (character ∷ front) rest = past-append (behind cursor character) front rest

pub units_of-append : (front rest : List ℕ) → units_of (front ++ rest) ≡ units_of front + units_of rest
units_of-append [] rest = omega arith
units_of-append (character ∷ front) rest =
    let e : units_of (front ++ rest) ≡ units_of front + units_of rest = units_of-append front rest in omega arith

width-low : (character : ℕ) → character < 65536 → width character ≡ 1
width-low character low = let e : nat_le 0x10000 character ≡ false = lt-leb 0x10000 character low in rw e

pub some_width : (character : ℕ) → 1 ≤ width character
some_width character = at (nat_le 0x10000 character)
  where
    at : (high : Bool) → 1 ≤ (if high then 2 else 1)
    at true = omega arith
    at false = omega arith

behind-room : (cursor : Cursor) (character : ℕ) (rest : List ℕ) → HasRoom cursor (character ∷ rest) → HasRoom (behind cursor character) rest
behind-room cursor character rest room = at (character == 10)
  where
    some : 1 ≤ width character
    some = some_width character

    at : (feed : Bool)
        → HasRoom
        (if feed then record { units = cursor.units + 1; line = cursor.line + 1; column = 1 }
        else record { units = cursor.units + width character; line = cursor.line; column = cursor.column + width character })
        rest
    at true =
        let u : cursor.units + (width character + units_of rest) < 2 ^ 31 = room.units in
        let l : cursor.line + (width character + units_of rest) < 2 ^ 31 = room.line in
        let k : cursor.column + (width character + units_of rest) < 2 ^ 31 = room.column in
        record { units = omega (arith, some); line = omega (arith, some); column = omega (arith, some) }
    at false =
        let u : cursor.units + (width character + units_of rest) < 2 ^ 31 = room.units in
        let l : cursor.line + (width character + units_of rest) < 2 ^ 31 = room.line in
        let k : cursor.column + (width character + units_of rest) < 2 ^ 31 = room.column in
        record { units = omega arith; line = omega arith; column = omega arith }

-- there is room for the front, and behind it for the rest
pub room-front : (cursor : Cursor) (front rest : List ℕ) → HasRoom cursor (front ++ rest) → HasRoom cursor front
room-front cursor front rest room =
    let e : units_of (front ++ rest) ≡ units_of front + units_of rest = units_of-append front rest in
    let u : cursor.units + units_of (front ++ rest) < 2 ^ 31 = room.units in
    let l : cursor.line + units_of (front ++ rest) < 2 ^ 31 = room.line in
    let k : cursor.column + units_of (front ++ rest) < 2 ^ 31 = room.column in
    record { units = omega arith; line = omega arith; column = omega arith }

pub room-rest : (cursor : Cursor) (front rest : List ℕ) → HasRoom cursor (front ++ rest) → HasRoom (past cursor front) rest
room-rest cursor [] rest room = room
room-rest cursor (character ∷ front) rest room = room-rest (behind cursor character) front rest (behind-room cursor character (front ++ rest) room)

pub room-take : (cursor : Cursor) (size : ℕ) (line : List ℕ) → HasRoom cursor line → HasRoom cursor (take size line)
room-take cursor size line room = room-front cursor (take size line) (drop size line) (rw (take-append-drop size line) room)

pub room-drop : (cursor : Cursor) (size : ℕ) (line : List ℕ) → HasRoom cursor line → HasRoom (past cursor (take size line)) (drop size line)
room-drop cursor size line room = room-rest cursor (take size line) (drop size line) (rw (take-append-drop size line) room)

-- the units of the characters that units spell
pub units_of-characters_of : (units : List ℕ) → AreUnits units → units_of (characters_of units) ≡ length units
units_of-characters_of [] fit = refl
units_of-characters_of (unit ∷ []) fit = let e : width unit ≡ 1 = width-low unit (fit 0) in rw e
units_of-characters_of (unit ∷ next ∷ text) fit =
    at (is_high_surrogate unit && is_low_surrogate next) refl
    (units_of-characters_of text (λ place. fit (suc (suc place)))) (units_of-characters_of (next ∷ text) (λ place. fit (suc place)))
  where
    at : (pair : Bool) → (is_high_surrogate unit && is_low_surrogate next) ≡ pair → units_of (characters_of text) ≡ length text
        → units_of (characters_of (next ∷ text)) ≡ suc (length text)
        → units_of (if pair then surrogate_pair_char unit next ∷ characters_of text else unit ∷ characters_of (next ∷ text)) ≡ suc (suc (length text))
    at true e f g =
        let w : width (surrogate_pair_char unit next) ≡ 2 =
        (let h : nat_le 0x10000 (surrogate_pair_char unit next) ≡ true = le-leb 0x10000 (surrogate_pair_char unit next) (omega arith) in rw h) in
        omega arith
    at false e f g = let w : width unit ≡ 1 = width-low unit (fit 0) in omega arith

-- the first character, where a pair begins the units
pub characters_of-pair : (units : List ℕ) → 1 < length units → is_high_surrogate (get_or units 0 0) ≡ true → is_low_surrogate (get_or units 1 0) ≡ true
    → characters_of units ≡ surrogate_pair_char (get_or units 0 0) (get_or units 1 0) ∷ characters_of (drop 2 units)
characters_of-pair [] inside high low = absurd (omega arith)
characters_of-pair (unit ∷ []) inside high low = absurd (omega arith)
characters_of-pair (unit ∷ next ∷ text) inside high low = rw (high, low)

-- and where none does
pub characters_of-unit : (units : List ℕ) → 0 < length units
    → (1 < length units → is_high_surrogate (get_or units 0 0) ≡ true → is_low_surrogate (get_or units 1 0) ≡ false)
    → characters_of units ≡ get_or units 0 0 ∷ characters_of (drop 1 units)
characters_of-unit [] inside alone = absurd (omega arith)
characters_of-unit (unit ∷ []) inside alone = refl
characters_of-unit (unit ∷ next ∷ text) inside alone =
    elim (cases_Bool (is_high_surrogate unit)) [ inl high ↦ rw (high, alone (omega arith) high) | inr low ↦ rw low ]

-- the step of reading one character
pub next_character : (units found longer : List ℕ) (place size character : ℕ) → found ++ characters_of (drop place units) ≡ characters_of units
    → characters_of (drop place units) ≡ character ∷ characters_of (drop size (drop place units)) → longer ≡ found ++ character ∷ []
    → longer ++ characters_of (drop (place + size) units) ≡ characters_of units
next_character units found longer place size character so_far first more =
    let e : drop size (drop place units) ≡ drop (place + size) units = drop-drop size place units in
    let f : characters_of (drop place units) ≡ character ∷ characters_of (drop (place + size) units) =
    first ∙ ap (λ (rest : List ℕ). character ∷ characters_of rest) e in
    let g : found ++ character ∷ characters_of (drop (place + size) units) ≡ characters_of units = (rw f at so_far) in
    rw more (append_assoc found (character ∷ []) (characters_of (drop (place + size) units)) ∙ g)

pub past-units : (cursor : Cursor) (characters : List ℕ) → (past cursor characters).units ≡ cursor.units + units_of characters
past-units cursor [] = omega arith
past-units cursor (character ∷ characters) =
    let e : (past (behind cursor character) characters).units ≡ (behind cursor character).units + units_of characters =
    past-units (behind cursor character) characters in
    let f : (behind cursor character).units ≡ cursor.units + width character = behind_units (character == 10) refl in
    omega arith
  where
    moved : Bool → Cursor
    moved feed =
        if feed then record { units = cursor.units + 1; line = cursor.line + 1; column = 1 }
        else record { units = cursor.units + width character; line = cursor.line; column = cursor.column + width character }

    behind_units : (feed : Bool) → (character == 10) ≡ feed → (moved feed).units ≡ cursor.units + width character
    behind_units true e = let same : 10 ≡ character = sym (eqb-true character 10 e) in ap (λ (c : ℕ). cursor.units + width c) same
    behind_units false e = refl

pub units_of-take : (size : ℕ) (line : List ℕ) → units_of (take size line) ≤ units_of line
units_of-take zero line = omega arith
units_of-take (suc size) [] = omega arith
units_of-take (suc size) (character ∷ line) = let e : units_of (take size line) ≤ units_of line = units_of-take size line in omega arith

pub units_of-take-le : (size more : ℕ) (line : List ℕ) → size ≤ more → units_of (take size line) ≤ units_of (take more line)
units_of-take-le zero more line below = omega arith
units_of-take-le (suc size) zero line below = absurd (omega arith)
units_of-take-le (suc size) (suc more) [] below = omega arith
units_of-take-le (suc size) (suc more) (character ∷ line) below =
    let e : units_of (take size line) ≤ units_of (take more line) = units_of-take-le size more line (omega arith) in omega arith

-- there are no more characters than units
pub length-characters_of : (units : List ℕ) → length (characters_of units) ≤ length units
length-characters_of [] = omega arith
length-characters_of (unit ∷ []) = omega arith
length-characters_of (unit ∷ next ∷ text) =
    at (is_high_surrogate unit && is_low_surrogate next) (length-characters_of text) (length-characters_of (next ∷ text))
  where
    at : (pair : Bool) → length (characters_of text) ≤ length text → length (characters_of (next ∷ text)) ≤ suc (length text)
        → length (if pair then surrogate_pair_char unit next ∷ characters_of text else unit ∷ characters_of (next ∷ text)) ≤ suc (suc (length text))
    at true e f = omega arith
    at false e f = omega arith

pub are_units-front : (front rest : List ℕ) → AreUnits (front ++ rest) → AreUnits front
are_units-front [] rest units place = omega arith
are_units-front (unit ∷ front) rest units zero = units 0
are_units-front (unit ∷ front) rest units (suc place) = are_units-front front rest (λ p. units (suc p)) place

pub are_units-rest : (front rest : List ℕ) → AreUnits (front ++ rest) → AreUnits rest
are_units-rest [] rest units = units
are_units-rest (unit ∷ front) rest units = are_units-rest front rest (λ p. units (suc p))
