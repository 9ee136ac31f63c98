-- Reading finds exactly the numbers that number texts write.
use Rattle.std.proofs.Common.{◌≡◌, ℕ, zero, suc, ◌<◌, Bool, true, false, List, [], ◌∷◌, ◌++◌, Option, Some, None, length, replicate, nat_lt, ◌&&◌, refl, sym, ap, ◌∙◌, subst, arith, inl, inr, ◌↔◌}
use Rattle.std.specs.Prelude.{All, unwrap_or, ◌==◌, if◌then◌else◌}
use Rattle.std.specs.Char.{IsAsciiDigit, is_ascii_digit}
use Rattle.std.specs.List.{prefix_len, list_all}
use Rattle.std.proofs.lemmas.List.{take-append-drop, take_at, drop_at}
use Rattle.std.proofs.lemmas.List.Folds.{length-prefix_len}
use Rattle.std.proofs.lemmas.List.Elements.{All-nil, All-cons, All-head, All-tail, All-same}
use Rattle.std.proofs.lemmas.Bool.{cases_Bool, eqb-true, cond-true, cond-false, and_parts, cond_both, ltb-true, lt-ltb}
use Rattle.std.proofs.lemmas.List.Sums.{take_while-cons}
use Rattle.std.proofs.Math.Numerals.{one-add}
use Rattle.std.proofs.lemmas.Grind.{common_steps}
use Rattle.currency.specs.NumberText.{blank, plus, minus, point, Numeral, Sign, unsigned, plus_sign, minus_sign, sign_text, is_minus, fraction_text, IsNumberText, IsNoNumberText, is_blank, behind_blanks, begins_with_minus, behind_sign, first_digits, behind_digits, first_decimals, behind_decimals, read_digits, read}

digit_passes : (c : ℕ) → IsAsciiDigit c → is_ascii_digit c ≡ true
digit_passes c h = grind arith

passed_digit : (c : ℕ) → is_ascii_digit c ≡ true → IsAsciiDigit c
passed_digit c h = grind arith

-- the parts of any text

blank_first : (u : ℕ) (us : List ℕ) → us ≡ replicate (prefix_len is_blank us) blank ++ behind_blanks us → u ∷ us ≡ replicate (prefix_len is_blank (u ∷ us)) blank ++ behind_blanks (u ∷ us)
blank_first u us e =
    elim (cases_Bool (is_blank u)) [
      | inl yes' ↦ rw (yes', one-add) (let same = eqb-true u blank yes' in cc)
      | inr no' ↦ rw no' refl
    ]

blanks_split : (text : List ℕ) → text ≡ replicate (prefix_len is_blank text) blank ++ behind_blanks text
blanks_split [] = refl
blanks_split (u ∷ us) = blank_first u us (blanks_split us)

-- the sign of a text
sign_of : List ℕ → Sign
sign_of [] = unsigned
sign_of (u ∷ us) = if u == minus then minus_sign else if u == plus then plus_sign else unsigned

sign_split : (text : List ℕ) → (text ≡ sign_text (sign_of text) ++ behind_sign text) × (begins_with_minus text ≡ is_minus (sign_of text))
unfolding sign_of
sign_split [] = (refl, refl)
sign_split (u ∷ us) = grind (arith, common_steps)

digits_split : (text : List ℕ) → text ≡ first_digits text ++ behind_digits text
digits_split text = sym (take-append-drop (prefix_len is_ascii_digit text) text)

digit_first : (u : ℕ) (us : List ℕ) → All IsAsciiDigit (first_digits us) → All IsAsciiDigit (first_digits (u ∷ us))
digit_first u us all =
    elim (cases_Bool (is_ascii_digit u)) [
      | inl yes' ↦ All-same IsAsciiDigit _ (u ∷ first_digits us) (take_while-cons is_ascii_digit u us ∙ cond-true _ _ _ yes') (All-cons IsAsciiDigit u (first_digits us) (passed_digit u yes') all)
      | inr no' ↦ All-same IsAsciiDigit _ [] (take_while-cons is_ascii_digit u us ∙ cond-false _ _ _ no') (All-nil IsAsciiDigit)
    ]

pub digits_are : (text : List ℕ) → All IsAsciiDigit (first_digits text)
digits_are [] = All-nil IsAsciiDigit
digits_are (u ∷ us) = digit_first u us (digits_are us)

-- the decimals of a text, where it begins with a point
decimals_of : List ℕ → Option (List ℕ)
decimals_of [] = None
decimals_of (u ∷ us) = if u == point then Some (first_digits us) else None

decimals_split : (text : List ℕ) → (text ≡ fraction_text (decimals_of text) ++ behind_decimals text) × (first_decimals text ≡ unwrap_or (decimals_of text) [])
unfolding decimals_of
decimals_split [] = (refl, refl)
decimals_split (u ∷ us) = grind (arith, common_steps, digits_split us)

blank_more : (u : ℕ) (us : List ℕ) → list_all is_blank (u ∷ us) ≡ true → (list_all is_blank us ≡ true → us ≡ replicate (length us) blank) → u ∷ us ≡ replicate (length (u ∷ us)) blank
blank_more u us h more = grind (arith, common_steps)

blanks_are : (text : List ℕ) → list_all is_blank text ≡ true → text ≡ replicate (length text) blank
blanks_are [] h = refl
blanks_are (u ∷ us) h = blank_more u us h (blanks_are us)

-- what follows digits, a point and blanks begins with neither
ends : (b : ℕ) → prefix_len is_ascii_digit (replicate b blank) ≡ 0
ends zero = refl
ends (suc b) = refl

-- the digits before what begins with none
digits_prefix : (ds rest : List ℕ) → All IsAsciiDigit ds → prefix_len is_ascii_digit rest ≡ 0 → prefix_len is_ascii_digit (ds ++ rest) ≡ length ds
digits_prefix [] rest all none = none
digits_prefix (d ∷ ds) rest all none =
    rw (digit_passes d (All-head IsAsciiDigit d ds all), digits_prefix ds rest (All-tail IsAsciiDigit d ds all) none) (one-add (length ds))

read_blanks : (b : ℕ) (rest : List ℕ) → prefix_len is_blank rest ≡ 0 → behind_blanks (replicate b blank ++ rest) ≡ rest
read_blanks zero rest none = rw none refl
read_blanks (suc b) rest none = rw one-add (read_blanks b rest none)

blank_end : (b : ℕ) → list_all is_blank (replicate b blank) ≡ true
blank_end zero = refl
blank_end (suc b) = blank_end b

decimals_are : (text : List ℕ) → All IsAsciiDigit (first_decimals text)
decimals_are [] = All-nil IsAsciiDigit
decimals_are (u ∷ us) = cond_both (u == point) (first_digits us) [] (All IsAsciiDigit) (λ _. digits_are us) (λ _. All-nil IsAsciiDigit)

-- what is read behind blanks and a sign is a number text with them
digits_spelled : (before : ℕ) (sign : Sign) (us text : List ℕ) (n : Numeral) → text ≡ replicate before blank ++ (sign_text sign ++ us) → read_digits (is_minus sign) us ≡ Some n → IsNumberText text n
unfolding read_digits
digits_spelled before sign us text n e reading =
    let rest = behind_digits us in
    let end = behind_decimals rest in
    let found : Numeral = record { negative = is_minus sign; whole = first_digits us; fraction = first_decimals rest } in
    elim (cases_Bool (nat_lt 0 (prefix_len is_ascii_digit us) && list_all is_blank end)) [
      | inl yes' ↦
          let tests = and_parts (nat_lt 0 (prefix_len is_ascii_digit us)) (list_all is_blank end) yes' in
          let some : 0 < length (first_digits us) = omega (arith, length-prefix_len is_ascii_digit us, ltb-true 0 (prefix_len is_ascii_digit us) tests.0) in
          let taken : Some found ≡ Some n = sym (cond-true _ (Some found) None yes') ∙ reading in
          let same : found ≡ n = cc in
          subst (λ m. IsNumberText text m) same (record {
            before = before;
            sign = sign;
            decimals = decimals_of rest;
            after = length end;
            spelled = e ∙ ap (λ x. replicate before blank ++ (sign_text sign ++ x)) (digits_split us ∙ ap (λ x. first_digits us ++ x) ((decimals_split rest).0 ∙ ap (λ x. fraction_text (decimals_of rest) ++ x) (blanks_are end tests.1)));
            negative = refl;
            fraction = (decimals_split rest).1;
            some_digit = some;
            digits = record { whole = digits_are us; fraction = decimals_are rest };
          })
      | inr no' ↦ let none : None ≡ Some n = sym (cond-false _ (Some found) None no') ∙ reading in cc
    ]

-- what is read is a number text that writes it
pub read_spells : (text : List ℕ) (n : Numeral) → read text ≡ Some n → IsNumberText text n
unfolding read
read_spells text n reading =
    let signed = behind_blanks text in
    digits_spelled (prefix_len is_blank text) (sign_of signed) (behind_sign signed) text n
    (blanks_split text ∙ ap (λ x. replicate (prefix_len is_blank text) blank ++ x) (sign_split signed).0)
    (rw (sign_split signed).1 at reading)

-- a digit is no blank and no sign
digit_is_none : (w : ℕ) → IsAsciiDigit w → (is_blank w ≡ false) × ((w == plus) ≡ false) × ((w == minus) ≡ false)
digit_is_none w h = (grind arith, grind arith, grind arith)

read_sign : (sign : Sign) (w : ℕ) (ws : List ℕ) → IsAsciiDigit w → (prefix_len is_blank (sign_text sign ++ w ∷ ws) ≡ 0) × (begins_with_minus (sign_text sign ++ w ∷ ws) ≡ is_minus sign) × (behind_sign (sign_text sign ++ w ∷ ws) ≡ w ∷ ws)
read_sign unsigned w ws h =
    let none = digit_is_none w h in
    (rw none.0 refl, none.2, rw (none.1, none.2) refl)
read_sign plus_sign w ws h = (refl, refl, refl)
read_sign minus_sign w ws h = (refl, refl, refl)

read_first : (ds rest : List ℕ) → All IsAsciiDigit ds → prefix_len is_ascii_digit rest ≡ 0 → (first_digits (ds ++ rest) ≡ ds) × (behind_digits (ds ++ rest) ≡ rest)
read_first ds rest all none =
    let n = digits_prefix ds rest all none in
    (rw n (take_at ds rest (length ds) refl), rw n (drop_at ds rest (length ds) refl))

read_decimals : (d : Option (List ℕ)) (after : ℕ) → All IsAsciiDigit (unwrap_or d []) → (first_decimals (fraction_text d ++ replicate after blank) ≡ unwrap_or d []) × (behind_decimals (fraction_text d ++ replicate after blank) ≡ replicate after blank) × (prefix_len is_ascii_digit (fraction_text d ++ replicate after blank) ≡ 0)
read_decimals None zero all = (refl, refl, refl)
read_decimals None (suc after) all = (refl, refl, refl)
read_decimals (Some ds) after all =
    let first = read_first ds (replicate after blank) all (ends after) in
    (first.0, first.1, refl)

digits_read : (negative : Bool) (whole : List ℕ) (d : Option (List ℕ)) (after : ℕ) → 0 < length whole → All IsAsciiDigit whole → All IsAsciiDigit (unwrap_or d []) → read_digits negative (whole ++ (fraction_text d ++ replicate after blank)) ≡ Some (record { negative = negative; whole = whole; fraction = unwrap_or d [] })
unfolding read_digits
digits_read negative whole d after some all_whole all_fraction =
    let decimals = read_decimals d after all_fraction in
    let first = read_first whole (fraction_text d ++ replicate after blank) all_whole decimals.2 in
    let n = digits_prefix whole (fraction_text d ++ replicate after blank) all_whole decimals.2 in
    let more = lt-ltb 0 (length whole) some in
    rw (first.1, first.0, decimals.0, decimals.1, n, more, blank_end after) refl

read_spelled : (before : ℕ) (sign : Sign) (whole : List ℕ) (d : Option (List ℕ)) (after : ℕ) → 0 < length whole → All IsAsciiDigit whole → All IsAsciiDigit (unwrap_or d []) → read (replicate before blank ++ (sign_text sign ++ (whole ++ (fraction_text d ++ replicate after blank)))) ≡ Some (record { negative = is_minus sign; whole = whole; fraction = unwrap_or d [] })
unfolding read
read_spelled before sign [] d after some all_whole all_fraction = absurd (omega arith)
read_spelled before sign (w ∷ ws) d after some all_whole all_fraction =
    let behind = ws ++ (fraction_text d ++ replicate after blank) in
    let first = read_sign sign w behind (All-head IsAsciiDigit w ws all_whole) in
    let signed = read_blanks before (sign_text sign ++ w ∷ behind) first.0 in
    rw (signed, first.1, first.2) (digits_read (is_minus sign) (w ∷ ws) d after some all_whole all_fraction)

-- a number text is read as what it writes
pub spelled_reads : (text : List ℕ) (n : Numeral) → IsNumberText text n → read text ≡ Some n
spelled_reads text n is =
    let with : Bool → List ℕ → Numeral = λ negative fraction. record { negative = negative; whole = n.whole; fraction = fraction } in
    let same : with (is_minus is.sign) (unwrap_or is.decimals []) ≡ n = ap (λ b. with b (unwrap_or is.decimals [])) (sym is.negative) ∙ ap (with n.negative) (sym is.fraction) in
    ap read is.spelled
    ∙ read_spelled is.before is.sign n.whole is.decimals is.after is.some_digit is.digits.whole (subst (All IsAsciiDigit) is.fraction is.digits.fraction)
    ∙ ap Some same

no_number : (text : List ℕ) (found : Option Numeral) → read text ≡ found → IsNoNumberText text → found ≡ None
no_number text None e no' = refl
no_number text (Some n) e no' = absurd (no' n (read_spells text n e))

-- nothing is read exactly where the text is no number text
pub read-none : (text : List ℕ) → (read text ≡ None) ↔ IsNoNumberText text
read-none text = (
  λ none n is. let some = spelled_reads text n is in let clash : ◌≡◌ {A = Option Numeral} None (Some n) = sym none ∙ some in cc,
  λ no'. no_number text (read text) refl no',
)
