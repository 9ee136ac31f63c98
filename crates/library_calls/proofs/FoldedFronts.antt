-- Slices with which a text begins and that fold to a case fold, by the text's first character.
use Rattle.std.proofs.Common.{◌≡◌, ℕ, ◌<◌, Some, None, Bool, true, false, ◌&&◌, ◌||◌, List, [], ◌∷◌, ◌++◌, length, map, take, drop, refl, ap, ◌∙◌, sym, nat_eq, nat_lt, nat_le, bytes_eq, if◌then◌else◌, arith}
use Rattle.std.proofs.lemmas.List.{append-nil}
use Rattle.std.proofs.lemmas.Bool.{eqb-true}
use Rattle.std.specs.Char.Utf16.{is_high_surrogate, is_low_surrogate, surrogate_pair_char}
use Rattle.std.specs.List.{list_any, starts_with}
use Rattle.vba_base.specs.Fold.{folded, folded_char, folded_unit}
use Rattle.vba_lib.specs.Searching.{begins_with_fold, fronts}
use Rattle.library_calls.specs.View.{behind_fold, ends_inside, first_size}

both_or : (b x y : Bool) → (b && x) || (b && y) ≡ b && (x || y)
both_or true x y = refl
both_or false x y = refl

or_none : (b x : Bool) → (b && x) || false ≡ b && (x || false)
or_none true x = refl
or_none false x = refl

and_none : (b : Bool) → b && false ≡ false
and_none true = refl
and_none false = refl

both_and : (a b c : Bool) → a && (b && c) ≡ (a && b) && c
both_and true b c = refl
both_and false b c = refl

-- a text in two parts is this one where this one begins with the first part and goes on with the second
bytes_eq-append : (a b fold : List ℕ) → bytes_eq (a ++ b) fold ≡ starts_with nat_eq fold a && bytes_eq b (drop (length a) fold)
bytes_eq-append [] b fold = refl
bytes_eq-append (x ∷ a) b [] = refl
bytes_eq-append (x ∷ a) b (y ∷ fold) = ap (λ t. nat_eq x y && t) (bytes_eq-append a b fold) ∙ both_and (nat_eq x y) (starts_with nat_eq fold a) (bytes_eq b (drop (length a) fold))

-- the same of one of several second parts
one_of : List ℕ → List (List ℕ) → Bool
one_of fold fs = list_any (λ f. bytes_eq (folded f) fold) fs

one_behind : List ℕ → List ℕ → List (List ℕ) → Bool
one_behind first fold fs = list_any (λ f. bytes_eq (first ++ folded f) fold) fs

some_behind : (first fold : List ℕ) (fs : List (List ℕ)) → one_behind first fold fs ≡ starts_with nat_eq fold first && one_of (drop (length first) fold) fs
unfolding one_of one_behind
some_behind first fold [] = none (starts_with nat_eq fold first) where
  none : (b : Bool) → false ≡ b && false
  none true = refl
  none false = refl
some_behind first fold (f ∷ fs) =
    let rest = drop (length first) fold in
    let begins = starts_with nat_eq fold first in
    ap (λ t. t || one_behind first fold fs) (bytes_eq-append first (folded f) fold)
    ∙ (ap (λ t. (begins && bytes_eq (folded f) rest) || t) (some_behind first fold fs)
    ∙ both_or begins (bytes_eq (folded f) rest) (one_of rest fs))

-- a unit that is in no pair, and a pair
folded_apart : (unit next : ℕ) (f : List ℕ) → is_high_surrogate unit && is_low_surrogate next ≡ false → folded (unit ∷ next ∷ f) ≡ folded_unit unit ++ folded (next ∷ f)
unfolding folded
folded_apart unit next f apart = rw apart refl

folded_pair : (high low : ℕ) (f : List ℕ) → is_high_surrogate high && is_low_surrogate low ≡ true → folded (high ∷ low ∷ f) ≡ folded_char (surrogate_pair_char high low) ++ folded f
unfolding folded
folded_pair high low f pair = rw pair refl

folded_one : (unit : ℕ) → folded (unit ∷ []) ≡ folded_unit unit
unfolding folded
folded_one unit = refl

folded_none : folded [] ≡ []
unfolding folded
folded_none = refl

-- what comes of each slice behind a unit that is in no pair, and behind a pair
units_behind : (unit next : ℕ) (fold : List ℕ) (fs : List (List ℕ)) → is_high_surrogate unit && is_low_surrogate next ≡ false
    → one_of fold (map (λ f. unit ∷ f) (map (λ f. next ∷ f) fs)) ≡ one_behind (folded_unit unit) fold (map (λ f. next ∷ f) fs)
unfolding one_of one_behind
units_behind unit next fold [] apart = refl
units_behind unit next fold (f ∷ fs) apart =
    ap (λ t. bytes_eq t fold || one_of fold (map (λ f. unit ∷ f) (map (λ f. next ∷ f) fs))) (folded_apart unit next f apart)
    ∙ ap (λ t. bytes_eq (folded_unit unit ++ folded (next ∷ f)) fold || t) (units_behind unit next fold fs apart)

pairs_behind : (high low : ℕ) (fold : List ℕ) (fs : List (List ℕ)) → is_high_surrogate high && is_low_surrogate low ≡ true
    → one_of fold (map (λ f. high ∷ f) (map (λ f. low ∷ f) fs)) ≡ one_behind (folded_char (surrogate_pair_char high low)) fold fs
unfolding one_of one_behind
pairs_behind high low fold [] pair = refl
pairs_behind high low fold (f ∷ fs) pair =
    ap (λ t. bytes_eq t fold || one_of fold (map (λ f. high ∷ f) (map (λ f. low ∷ f) fs))) (folded_pair high low f pair)
    ∙ ap (λ t. bytes_eq (folded_char (surrogate_pair_char high low) ++ folded f) fold || t) (pairs_behind high low fold fs pair)

-- the empty slice folds to the empty fold alone
none_is : (fold : List ℕ) → 0 < length fold → bytes_eq (folded []) fold ≡ false
none_is [] some = absurd (omega arith)
none_is (x ∷ fold) some = rw folded_none refl

-- where the first character is one unit
one_unit : (unit : ℕ) (fold : List ℕ) → bytes_eq (folded (unit ∷ [])) fold ≡ starts_with nat_eq fold (folded (unit ∷ [])) && bytes_eq (folded []) (drop (length (folded (unit ∷ []))) fold)
one_unit unit fold =
    ap (λ t. bytes_eq t fold) (sym (append-nil (folded (unit ∷ []))))
    ∙ (ap (λ t. bytes_eq (folded (unit ∷ []) ++ t) fold) (sym folded_none) ∙ bytes_eq-append (folded (unit ∷ [])) (folded []) fold)

is_apart : (b : Bool) → nat_eq (if b then 2 else 1) 1 ≡ true → b ≡ false
is_apart true e = absurd (cc)
is_apart false e = refl

begins_with_unit : (unit : ℕ) (units fold : List ℕ) → 0 < length fold → nat_eq (first_size (unit ∷ units)) 1 ≡ true
    → begins_with_fold fold (unit ∷ units) ≡ starts_with nat_eq fold (folded (unit ∷ [])) && begins_with_fold (drop (length (folded (unit ∷ []))) fold) units
unfolding one_of one_behind
begins_with_unit unit [] fold some single =
    ap (λ t. t || (bytes_eq (folded (unit ∷ [])) fold || false)) (none_is fold some)
    ∙ (ap (λ t. t || false) (one_unit unit fold)
    ∙ or_none (starts_with nat_eq fold (folded (unit ∷ []))) (bytes_eq (folded []) (drop (length (folded (unit ∷ []))) fold)))
begins_with_unit unit (next ∷ units) fold some single =
    let apart : is_high_surrogate unit && is_low_surrogate next ≡ false = is_apart (is_high_surrogate unit && is_low_surrogate next) single in
    let behind : List (List ℕ) = map (λ f. next ∷ f) (fronts units) in
    let first : List ℕ = folded (unit ∷ []) in
    let rest : List ℕ = drop (length first) fold in
    let begins : Bool = starts_with nat_eq fold first in
    ap (λ t. t || (bytes_eq first fold || one_of fold (map (λ f. unit ∷ f) behind))) (none_is fold some)
    ∙ (ap (λ t. t || one_of fold (map (λ f. unit ∷ f) behind)) (one_unit unit fold)
    ∙ (ap (λ t. (begins && bytes_eq (folded []) rest) || t) (units_behind unit next fold (fronts units) apart ∙ some_behind (folded_unit unit) fold behind)
    ∙ (ap (λ t. (begins && bytes_eq (folded []) rest) || (starts_with nat_eq fold t && one_of (drop (length t) fold) behind)) (sym (folded_one unit))
    ∙ both_or begins (bytes_eq (folded []) rest) (one_of rest behind))))

-- a first unit of a pair, alone
folded_high : (high : ℕ) → is_high_surrogate high ≡ true → folded (high ∷ []) ≡ high ∷ []
folded_high high is = folded_one high ∙ rw (in_range high is) refl where
  in_range : (high : ℕ) → is_high_surrogate high ≡ true → nat_le 0xD800 high && nat_lt high 0xE000 ≡ true
  in_range high is = grind arith

-- where the first character is a pair: a slice may end inside of it
begins_with_pair : (high low : ℕ) (units fold : List ℕ) → 0 < length fold → is_high_surrogate high && is_low_surrogate low ≡ true
    → begins_with_fold fold (high ∷ low ∷ units) ≡ bytes_eq (high ∷ []) fold || (starts_with nat_eq fold (folded (high ∷ low ∷ [])) && begins_with_fold (drop (length (folded (high ∷ low ∷ []))) fold) units)
unfolding one_of one_behind
begins_with_pair high low units fold some pair =
    let character : List ℕ = folded_char (surrogate_pair_char high low) in
    let whole : folded (high ∷ low ∷ []) ≡ character = folded_pair high low [] pair ∙ (ap (λ t. character ++ t) folded_none ∙ append-nil character) in
    let rest : List (List ℕ) = map (λ f. high ∷ f) (map (λ f. low ∷ f) (fronts units)) in
    ap (λ t. t || (bytes_eq (folded (high ∷ [])) fold || one_of fold rest)) (none_is fold some)
    ∙ (ap (λ t. bytes_eq t fold || one_of fold rest) (folded_high high (is_first (is_high_surrogate high) (is_low_surrogate low) pair))
    ∙ (ap (λ t. bytes_eq (high ∷ []) fold || t) (pairs_behind high low fold (fronts units) pair ∙ some_behind character fold (fronts units))
    ∙ ap (λ t. bytes_eq (high ∷ []) fold || (starts_with nat_eq fold t && one_of (drop (length t) fold) (fronts units))) (sym whole)))
  where
    is_first : (a b : Bool) → a && b ≡ true → a ≡ true
    is_first true b e = refl
    is_first false b e = e

-- it doesn't matter which of two texts stands first
nat_eq-other : (a b : ℕ) → nat_eq a b ≡ nat_eq b a
nat_eq-other a b = grind arith

other_way : (unit : ℕ) (fold : List ℕ) → bytes_eq (unit ∷ []) fold ≡ bytes_eq fold (unit ∷ [])
other_way unit [] = refl
other_way unit (x ∷ []) = ap (λ b. b && true) (nat_eq-other unit x)
other_way unit (x ∷ y ∷ fold) = and_none (nat_eq unit x) ∙ sym (and_none (nat_eq x unit))

-- the test by the first character, where no slice ends inside of it
pub begins_step : (fold units : List ℕ) → 0 < length fold → 0 < length units → ends_inside fold (take (first_size units) units) ≡ false
    → begins_with_fold fold units ≡ starts_with nat_eq fold (folded (take (first_size units) units))
    && begins_with_fold (drop (length (folded (take (first_size units) units))) fold) (drop (first_size units) units)
begins_step fold [] some more inside = absurd (omega arith)
begins_step fold (unit ∷ []) some more inside = begins_with_unit unit [] fold some refl
begins_step fold (unit ∷ next ∷ units) some more inside = by (is_high_surrogate unit && is_low_surrogate next) refl where
  by : (b : Bool) → is_high_surrogate unit && is_low_surrogate next ≡ b → begins_with_fold fold (unit ∷ next ∷ units) ≡ starts_with nat_eq fold (folded (take (first_size (unit ∷ next ∷ units)) (unit ∷ next ∷ units)))
      && begins_with_fold (drop (length (folded (take (first_size (unit ∷ next ∷ units)) (unit ∷ next ∷ units)))) fold) (drop (first_size (unit ∷ next ∷ units)) (unit ∷ next ∷ units))
  by true is =
      let no : bytes_eq (unit ∷ []) fold ≡ false = other_way unit fold ∙ (rw is at inside) in
      rw is (begins_with_pair unit next units fold some is ∙ rw no refl)
  by false is =
      let size : nat_eq (first_size (unit ∷ next ∷ units)) 1 ≡ true = rw is refl in
      rw is (begins_with_unit unit (next ∷ units) fold some size)

some_unit : (unit : ℕ) (fold : List ℕ) → bytes_eq fold (unit ∷ []) ≡ true → 0 < length fold
some_unit unit [] e = absurd (cc)
some_unit unit (x ∷ fold) e = omega arith

-- where a slice ends inside of it
pub begins_inside : (fold units : List ℕ) → ends_inside fold (take (first_size units) units) ≡ true → begins_with_fold fold units ≡ true
begins_inside fold [] is = absurd (cc)
begins_inside fold (unit ∷ []) is = absurd (cc)
begins_inside fold (unit ∷ next ∷ units) is = by (is_high_surrogate unit && is_low_surrogate next) refl where
  by : (b : Bool) → is_high_surrogate unit && is_low_surrogate next ≡ b → begins_with_fold fold (unit ∷ next ∷ units) ≡ true
  by true pair =
      let half : bytes_eq fold (unit ∷ []) ≡ true = rw pair at is in
      begins_with_pair unit next units fold (some_unit unit fold half) pair
      ∙ ap (λ t. t || (starts_with nat_eq fold (folded (unit ∷ next ∷ [])) && begins_with_fold (drop (length (folded (unit ∷ next ∷ []))) fold) units)) (other_way unit fold ∙ half)
  by false apart = let no : false ≡ true = rw apart at is in absurd (cc)

-- every text begins with the empty fold, and the empty text with no other
pub begins_with_none : (units : List ℕ) → begins_with_fold [] units ≡ true
begins_with_none [] = rw folded_none refl
begins_with_none (unit ∷ units) = rw folded_none refl

pub empty_begins : (fold : List ℕ) → 0 < length fold → begins_with_fold fold [] ≡ false
empty_begins fold some = ap (λ t. t || false) (none_is fold some)

-- the same in the steps of a walk: what is left of a fold, and the rest of a text with its first character and what is behind it
behind_yes : (fold first after : List ℕ) (b : Bool) → starts_with nat_eq fold first ≡ b → Some after ≡ behind_fold fold first → (b ≡ true) × (after ≡ drop (length first) fold)
behind_yes fold first after true is e = (refl, cc (rw is at e))
behind_yes fold first after false is e = absurd (cc (rw is at e))

behind_no : (fold first : List ℕ) (b : Bool) → starts_with nat_eq fold first ≡ b → None ≡ behind_fold fold first → b ≡ false
behind_no fold first true is e = absurd (cc (rw is at e))
behind_no fold first false is e = refl

pub goes_on : (left rest character behind after : List ℕ) → 0 < length left → 0 < length rest → character ≡ take (first_size rest) rest
    → behind ≡ drop (first_size rest) rest → ends_inside left character ≡ false → Some after ≡ behind_fold left (folded character)
    → begins_with_fold after behind ≡ begins_with_fold left rest
goes_on left rest character behind after some more front back outside is =
    let yes = behind_yes left (folded character) after (starts_with nat_eq left (folded character)) refl is in
    let step = rw (← front) at (begins_step left rest some more (rw front at outside)) in
    let starts : starts_with nat_eq left (folded character) ≡ true = yes.0 in
    rw (yes.1, back) (sym (rw starts at step))

pub stops : (left rest character : List ℕ) → 0 < length left → 0 < length rest → character ≡ take (first_size rest) rest
    → ends_inside left character ≡ false → None ≡ behind_fold left (folded character) → begins_with_fold left rest ≡ false
stops left rest character some more front outside is =
    let no : starts_with nat_eq left (folded character) ≡ false = behind_no left (folded character) (starts_with nat_eq left (folded character)) refl is in
    let step = rw (← front) at (begins_step left rest some more (rw front at outside)) in
    rw no at step

pub ends_there : (left rest character : List ℕ) → character ≡ take (first_size rest) rest → ends_inside left character ≡ true
    → begins_with_fold left rest ≡ true
ends_there left rest character front is = begins_inside left rest (rw front at is)

pub at_end : (left rest : List ℕ) → nat_eq (length left) 0 ≡ true → begins_with_fold left rest ≡ true
at_end [] rest none = begins_with_none rest
at_end (x ∷ left) rest none = let e : length (x ∷ left) ≡ 0 = eqb-true (length (x ∷ left)) 0 none in absurd (omega arith)

pub at_text_end : (left rest : List ℕ) → nat_eq (length left) 0 ≡ false → nat_eq (length rest) 0 ≡ true → begins_with_fold left rest ≡ false
at_text_end [] rest some none = absurd (cc)
at_text_end (x ∷ left) [] some none = empty_begins (x ∷ left) (omega arith)
at_text_end (x ∷ left) (y ∷ rest) some none = let e : length (y ∷ rest) ≡ 0 = eqb-true (length (y ∷ rest)) 0 none in absurd (omega arith)
