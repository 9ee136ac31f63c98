-- Printing, and reading what was printed.
use Rattle.std.proofs.Common.{◌≡◌, ℕ, zero, suc, ◌+◌, ◌-◌, ◌*◌, ◌/◌, ◌%◌, ◌^◌, ◌<◌, ◌≤◌, List, [], ◌∷◌, ◌++◌, length, refl, sym, ap, ◌∙◌, inl, inr, subst, arith, lit<}
use Rattle.std.specs.Prelude.{ℤ, pos, negsuc, ◌<ℤ◌, ◌≤ℤ◌, unsigned_abs}
use Rattle.std.specs.Fmt.{decimal}
use Rattle.std.proofs.Math.Nat.{one-le-pow}
use Rattle.std.proofs.lemmas.Bool.{ne_eqb}
use Rattle.std.proofs.lemmas.Fmt.{decimal_step, decimal_digit}
use Rattle.std.proofs.lemmas.Int.{ints}
use Rattle.std.proofs.lemmas.List.{append_assoc}
use Rattle.std.proofs.lemmas.Nat.{mod_below}
use Rattle.std.proofs.Common.{Bool, true, false, Option, Some, None, Result, Ok, w64, FitsSigned}
use Rattle.std.specs.Prelude.{if◌then◌else◌, All, unwrap_or}
use Rattle.std.specs.Char.{IsAsciiDigit, digit_value}
use Rattle.std.specs.Str.Parse.{digits_value, digits_value_after, AllDigits}
use Rattle.std.proofs.Math.Nat.{pow-suc}
use Rattle.std.proofs.lemmas.Bool.{cases_lt, lt-ltb}
use Rattle.std.proofs.lemmas.Fmt.{decimal_is_IsNumeral_wide}
use Rattle.std.proofs.lemmas.List.{append-nil}
use Rattle.std.proofs.lemmas.List.Elements.{All-nil, All-cons, All-same}
use Rattle.std.proofs.lemmas.Nat.{div-add-mod', div_below}
use Rattle.currency.specs.HalfEven.{nearest}
use Rattle.currency.specs.NumberText.{Numeral, IsNumberText, Sign, sign_text, is_minus, unsigned, minus_sign, fraction_text, signed, read}
use Rattle.currency.specs.Parsed.{rounded, ranged_numeral, parsed}
use Rattle.currency.specs.declared.text.ParseFault.TheVariants.{OutOfRange}
use Rattle.currency.specs.declared.text.ParseFault.{ParseFault}
use Rattle.currency.specs.Range.{is_i64, ranged}
use Rattle.currency.proofs.HalfEvenLaws.{half_even-multiple}
use Rattle.currency.proofs.CutLaws.{digit_value_is, digits_append}
use Rattle.currency.proofs.NumberTextLaws.{spelled_reads}
use Rattle.currency.proofs.ParsedLaws.{signed_half_even}
use Rattle.currency.specs.NumberText.{minus}
use Rattle.currency.specs.Printed.{decimals, printed_size, printed_fraction, printed}

decimals_step : (places part : ℕ) → 0 < part → decimals (suc places) part ≡ (48 + part / 10 ^ places) ∷ decimals places (part % 10 ^ places)
decimals_step places part some = rw (ne_eqb part 0 (λ e. omega arith)) refl

-- one more decimal
pub decimals_more : (text : List ℕ) (places part unit : ℕ) (new whole : List ℕ) → 0 < part → 0 < places → unit ≡ 10 ^ (places - 1) → new ≡ text ++ (48 + part / unit) ∷ [] → text ++ decimals places part ≡ whole → (part % unit < 10 ^ (places - 1)) × (new ++ decimals (places - 1) (part % unit) ≡ whole)
decimals_more text zero part unit new whole some more e f g = absurd (omega arith)
decimals_more text (suc places) part unit new whole some more e f g =
    let back : suc places - 1 ≡ places = omega arith in
    let power : unit ≡ 10 ^ places = e ∙ ap (λ n. 10 ^ n) back in
    rw (back, f, power) (
      mod_below part (10 ^ places) (one-le-pow places 10 (lit< tt)),
      append_assoc text _ _ ∙ ap (λ l. text ++ l) (sym (decimals_step places part some)) ∙ g,
    )

-- one more digit
pub decimal_more : (whole : ℕ) → 10 ≤ whole → whole < 2 ^ 64 → decimal (whole / 10) ++ (48 + whole % 10) ∷ [] ≡ decimal whole
decimal_more whole high small = sym (decimal_step whole high small)

pub decimal_one : (whole : ℕ) → whole < 10 → (48 + whole % 10) ∷ [] ≡ decimal whole
decimal_one whole low = let same : whole % 10 ≡ whole = omega arith in rw same (sym (decimal_digit whole low))

-- printing by the size and the sign
pub printed_negative : (z : ℤ) (size : ℕ) → size ≡ unsigned_abs z → z <ℤ pos 0 → printed z ≡ minus ∷ printed_size size
unfolding printed
printed_negative (pos n) size e h = absurd (omega (arith, ints))
printed_negative (negsuc n) size e h = ap (λ k. minus ∷ printed_size k) (sym e)

pub printed_positive : (z : ℤ) (size : ℕ) → size ≡ unsigned_abs z → pos 0 ≤ℤ z → printed z ≡ printed_size size
unfolding printed
printed_positive (pos n) size e h = ap printed_size (sym e)
printed_positive (negsuc n) size e h = absurd (omega (arith, ints))

-- a text that grew by the parts of an amount
pub negative_parts : (z : ℤ) (size : ℕ) (start middle end : List ℕ) → size ≡ unsigned_abs z → z <ℤ pos 0 → start ≡ minus ∷ [] → middle ≡ start ++ decimal (size / 10000) → end ≡ middle ++ printed_fraction (size % 10000) → end ≡ printed z
negative_parts z size start middle end e under first second third =
    third ∙ ap (λ l. l ++ printed_fraction (size % 10000)) (second ∙ ap (λ l. l ++ decimal (size / 10000)) first)
    ∙ sym (printed_negative z size e under)

pub positive_parts : (z : ℤ) (size : ℕ) (start middle end : List ℕ) → size ≡ unsigned_abs z → pos 0 ≤ℤ z → start ≡ [] → middle ≡ start ++ decimal (size / 10000) → end ≡ middle ++ printed_fraction (size % 10000) → end ≡ printed z
positive_parts z size start middle end e over first second third =
    third ∙ ap (λ l. l ++ printed_fraction (size % 10000)) (second ∙ ap (λ l. l ++ decimal (size / 10000)) first)
    ∙ sym (printed_positive z size e over)

digit_below_ten : (c : ℕ) → digit_value c < 10 → IsAsciiDigit c
digit_below_ten c h = grind arith

all_ascii : (ds : List ℕ) → AllDigits 10 ds → All IsAsciiDigit ds
all_ascii [] all = All-nil IsAsciiDigit
all_ascii (d ∷ ds) all = All-cons IsAsciiDigit d ds (digit_below_ten d all.0) (all_ascii ds all.1)

-- the first of more decimals is a digit
first_decimal : (places part : ℕ) → part < 10 ^ suc places → IsAsciiDigit (48 + part / 10 ^ places)
first_decimal places part h =
    let unit : 0 < 10 ^ places = one-le-pow places 10 (lit< tt) in
    let below : part < 10 * 10 ^ places = omega (arith, pow-suc 10 places) in
    let small = div_below part (10 ^ places) 10 unit below in
    (omega arith, omega arith)

decimals_none : (places part : ℕ) → part ≡ 0 → decimals (suc places) part ≡ []
decimals_none places part e = rw e refl

decimals_are : (places part : ℕ) → part < 10 ^ places → All IsAsciiDigit (decimals places part)
decimals_are zero part h = All-nil IsAsciiDigit
decimals_are (suc places) part h =
    let rest = decimals_are places (part % 10 ^ places) (mod_below part (10 ^ places) (one-le-pow places 10 (lit< tt))) in
    elim (cases_lt 0 part) [
      | inl some ↦ All-same IsAsciiDigit _ _ (decimals_step places part some) (All-cons IsAsciiDigit (48 + part / 10 ^ places) _ (first_decimal places part h) rest)
      | inr none ↦ All-same IsAsciiDigit _ _ (decimals_none places part (omega arith)) (All-nil IsAsciiDigit)
    ]

value_step : (a x d p r r' l : ℕ) → a * p ≡ ((x * 10 + d) * p + r') * l → d * p + r' ≡ r → a * (p * 10) ≡ (x * (p * 10) + r) * (l * 10)
value_step a x d p r r' l e f = omega (arith, ap (λ n. n * l) f)

-- decimals keep the value of the part
decimals_value : (places x part : ℕ) → part < 10 ^ places → digits_value_after 10 x (decimals places part) * 10 ^ places ≡ (x * 10 ^ places + part) * 10 ^ length (decimals places part)
decimals_value zero x part h = omega arith
decimals_value (suc places) x part h =
    let unit = 10 ^ places in
    let some_unit : 0 < unit = one-le-pow places 10 (lit< tt) in
    let digit = part / unit in
    let rest = part % unit in
    elim (cases_lt 0 part) [
      | inl some ↦
          let is_digit = digit_value_is (48 + digit) (first_decimal places part h) in
          let same : x * 10 + digit_value (48 + digit) ≡ x * 10 + digit = omega (arith, is_digit.0) in
          let before = ap (λ n. digits_value_after 10 n (decimals places rest) * unit) same in
          let hence = before ∙ decimals_value places (x * 10 + digit) rest (mod_below part unit some_unit) in
          let more = decimals places rest in
          let all : digits_value_after 10 x ((48 + digit) ∷ more) * 10 ^ suc places ≡ (x * 10 ^ suc places + part) * 10 ^ length ((48 + digit) ∷ more) =
          rw (pow-suc 10 places, pow-suc 10 (length more))
          (value_step (digits_value_after 10 (x * 10 + digit_value (48 + digit)) more) x digit unit part rest (10 ^ length more) hence (div-add-mod' part unit)) in
          subst (λ l. digits_value_after 10 x l * 10 ^ suc places ≡ (x * 10 ^ suc places + part) * 10 ^ length l) (sym (decimals_step places part some)) all
      | inr none ↦
          let zero' : part ≡ 0 = omega arith in
          rw (decimals_none places part zero') (omega (arith, zero'))
    ]

fraction_parts : (part : ℕ) → (d : Option (List ℕ)) × (printed_fraction part ≡ fraction_text d ++ []) × (decimals 4 part ≡ unwrap_or d [])
fraction_parts part =
    elim (cases_lt 0 part) [
      | inl some ↦ (Some (decimals 4 part), rw (ne_eqb part 0 (λ e. omega arith)) (sym (append-nil _)), refl)
      | inr none ↦ let zero' : part ≡ 0 = omega arith in (None, rw zero' refl, rw zero' refl)
    ]

-- the number that so many ten-thousandths are printed as
printed_numeral : Bool → ℕ → Numeral
printed_numeral negative size = record { negative = negative; whole = decimal (size / 10000); fraction = decimals 4 (size % 10000) }

-- its value
printed_value : (negative : Bool) (size : ℕ) → size < 10 ^ 64 → rounded 4 (printed_numeral negative size) ≡ signed negative size
unfolding printed_numeral
printed_value negative size small =
    let part = size % 10000 in
    let below : part < 10 ^ 4 = mod_below size 10000 (lit< tt) in
    let fraction = decimals 4 part in
    let digits = digits_value 10 (decimal (size / 10000) ++ fraction) in
    let q = 10 ^ length fraction in
    let some : 0 < q = one-le-pow (length fraction) 10 (lit< tt) in
    let whole : digits_value 10 (decimal (size / 10000)) ≡ size / 10000 = (decimal_is_IsNumeral_wide (size / 10000) (omega arith)).1 in
    let joined : digits ≡ digits_value_after 10 (size / 10000) fraction =
    digits_append 0 (decimal (size / 10000)) fraction ∙ ap (λ n. digits_value_after 10 n fraction) whole in
    let exact : digits * 10000 ≡ size * q =
    ap (λ n. n * 10000) joined ∙ decimals_value 4 (size / 10000) part below ∙ ap (λ n. n * q) (div-add-mod' size 10000) in
    signed_half_even negative digits 10000 q some
    ∙ ap (λ n. signed negative (nearest n q)) exact
    ∙ ap (signed negative) (ap unsigned_abs (half_even-multiple (pos size) q some))

sign_spelled : (negative : Bool) (size : List ℕ) → (sign : Sign) × ((if negative then minus ∷ size else size) ≡ sign_text sign ++ size) × (negative ≡ is_minus sign)
sign_spelled false size = (unsigned, refl, refl)
sign_spelled true size = (minus_sign, refl, refl)

-- what is printed is a number text
printed_spelled : (negative : Bool) (size : ℕ) → size < 10 ^ 64 → IsNumberText (if negative then minus ∷ printed_size size else printed_size size) (printed_numeral negative size)
unfolding printed_numeral
printed_spelled negative size small =
    let whole = decimal_is_IsNumeral_wide (size / 10000) (omega arith) in
    let fraction = fraction_parts (size % 10000) in
    let size_is : printed_size size ≡ decimal (size / 10000) ++ (fraction_text fraction.0 ++ []) = ap (λ l. decimal (size / 10000) ++ l) fraction.1 in
    let sign = sign_spelled negative (printed_size size) in
    record {
      before = 0;
      sign = sign.0;
      decimals = fraction.0;
      after = 0;
      spelled = sign.1 ∙ ap (λ l. sign_text sign.0 ++ l) size_is;
      negative = sign.2;
      fraction = fraction.2;
      some_digit = whole.0.0;
      digits = record { whole = all_ascii (decimal (size / 10000)) whole.0.1; fraction = decimals_are 4 (size % 10000) (mod_below size 10000 (lit< tt)) };
    }

-- an amount is printed as its size, with its sign
printed_is : (z : ℤ) → (negative : Bool) × (printed z ≡ (if negative then minus ∷ printed_size (unsigned_abs z) else printed_size (unsigned_abs z))) × (signed negative (unsigned_abs z) ≡ z)
unfolding printed
printed_is (pos n) = (false, refl, refl)
printed_is (negsuc n) = (true, refl, refl)

-- reading what is printed finds a number, whose value is the amount
pub printed_reads : (z : ℤ) → unsigned_abs z < 10 ^ 64 → (n : Numeral) × (read (printed z) ≡ Some n) × (rounded 4 n ≡ z)
printed_reads z small =
    let is = printed_is z in
    let size = unsigned_abs z in (
      printed_numeral is.0 size,
      ap read is.1 ∙ spelled_reads _ (printed_numeral is.0 size) (printed_spelled is.0 size small),
      printed_value is.0 size small ∙ is.2,
    )

in_range : (z : ℤ) → FitsSigned w64 z → is_i64 z ≡ true
in_range (pos n) fits = lt-ltb n (2 ^ 63) fits.sfits
in_range (negsuc n) fits = lt-ltb n (2 ^ 63) fits.sfits

size_small : (z : ℤ) → FitsSigned w64 z → unsigned_abs z < 10 ^ 64
size_small (pos n) fits = omega (arith, fits.sfits)
size_small (negsuc n) fits = omega (arith, fits.sfits)

-- what is printed is parsed as the amount
pub parsed_printed : (z : ℤ) → FitsSigned w64 z → parsed 4 (printed z) ≡ Ok z
parsed_printed z fits =
    let reads = printed_reads z (size_small z fits) in
    ap (ranged_numeral 4) reads.1 ∙ ap (ranged OutOfRange) reads.2 ∙ rw (in_range z fits) refl

-- amounts that are printed alike are one amount
pub same_from_printed : (z z' : ℤ) → FitsSigned w64 z → FitsSigned w64 z' → printed z ≡ printed z' → z ≡ z'
same_from_printed z z' fits fits' same =
    let read = parsed_printed z fits in
    let read' = parsed_printed z' fits' in
    let both : ◌≡◌ {A = Result ℤ ParseFault} (Ok z) (Ok z') = sym read ∙ ap (parsed 4) same ∙ read' in
    cc
