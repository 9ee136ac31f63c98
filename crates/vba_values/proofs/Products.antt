-- Products of amounts and whole numbers.
use Rattle.std.proofs.Common.{rules, nat_lt, int_lt, ◌⊎◌, inl, inr, ◌≡◌, ℕ, zero, suc, ◌+◌, ◌*◌, Bool, true, false, ◌||◌, ℤ, pos, negsuc, ◌*ℤ◌, neg_ℤ, IsTrue, lit<, arith, refl, sym, ap, ◌∙◌}
use Rattle.std.specs.Ordering.{int_cmp, nat_cmp}
use Rattle.std.proofs.lemmas.Bool.Decides.{nat_tests}
use Rattle.std.proofs.lemmas.Int.{ints}
use Rattle.std.proofs.Math.IntN.{*ℤ_comm}
use Rattle.std.proofs.Math.Nat.{mul_assoc, mul-zero, zero-mul}
use Rattle.currency.specs.HalfEven.{half_even}
use Rattle.currency.proofs.HalfEvenLaws.{half_even-multiple}
use Rattle.vba_values.specs.declared.types.WholeKind.{WholeKind}
use Rattle.vba_values.specs.declared.types.WholeKind.TheVariants as kind
use Rattle.vba_values.specs.declared.operands.Work.{Work}
use Rattle.vba_values.specs.declared.operands.Work.TheVariants as work
use Rattle.vba_values.specs.Operands.{is_amount, number_of, count_of, kind_beside, empty_beside, wider, work_of}
use Rattle.vba_values.specs.Val.{Val, empty, null, missing, boolean, whole, currency, text, object, array, udt}

abbrev minus : ℕ → ℤ
minus n = neg_ℤ (pos n)

neg_by : (m k : ℕ) → neg_ℤ (pos m) *ℤ pos k ≡ neg_ℤ (pos (m * k))
neg_by zero k = ap pos (zero-mul k) ∙ sym (ap minus (zero-mul k))
neg_by (suc m) k = refl

by_neg : (x m : ℕ) → pos x *ℤ neg_ℤ (pos m) ≡ neg_ℤ (pos (x * m))
by_neg x zero = ap pos (mul-zero x) ∙ sym (ap minus (mul-zero x))
by_neg x (suc m) = refl

neg_by_neg : (x m : ℕ) → negsuc x *ℤ neg_ℤ (pos m) ≡ pos (suc x * m)
neg_by_neg x zero = ap minus (mul-zero (suc x)) ∙ sym (ap pos (mul-zero (suc x)))
neg_by_neg x (suc m) = refl

by_product : (a n : ℤ) (k : ℕ) → a *ℤ (n *ℤ pos k) ≡ (a *ℤ n) *ℤ pos k
by_product (pos x) (pos y) k = ap pos (sym (mul_assoc x y k))
by_product (pos x) (negsuc y) k =
    by_neg x (suc y * k) ∙ ap minus (sym (mul_assoc x (suc y) k)) ∙ sym (neg_by (x * suc y) k)
by_product (negsuc x) (pos y) k =
    ap minus (sym (mul_assoc (suc x) y k)) ∙ sym (neg_by (suc x * y) k)
by_product (negsuc x) (negsuc y) k =
    neg_by_neg x (suc y * k) ∙ ap pos (sym (mul_assoc (suc x) (suc y) k))

-- a whole number scaled, and the product rounded, is the product
scaled_right : (a n : ℤ) → half_even (a *ℤ (n *ℤ pos 10000)) 10000 ≡ a *ℤ n
scaled_right a n =
    ap (λ p. half_even p 10000) (by_product a n 10000) ∙ half_even-multiple (a *ℤ n) 10000 (lit< tt)

amount_by_number : (a : ℤ) (v : Val) → is_amount v ≡ false → half_even (a *ℤ count_of v) 10000 ≡ a *ℤ number_of v
amount_by_number a empty e = scaled_right a (number_of empty)
amount_by_number a null e = scaled_right a (number_of null)
amount_by_number a missing e = scaled_right a (number_of missing)
amount_by_number a (boolean b) e = scaled_right a (number_of (boolean b))
amount_by_number a (whole k z) e = scaled_right a z
amount_by_number a (currency count) e = absurd (cc)
amount_by_number a (text t) e = scaled_right a (number_of (text t))
amount_by_number a (object o) e = scaled_right a (number_of (object o))
amount_by_number a (array b t vs) e = scaled_right a (number_of (array b t vs))
amount_by_number a (udt n vs) e = scaled_right a (number_of (udt n vs))

pub times_number : (a x y : ℤ) (v : Val) → is_amount v ≡ false → x ≡ a → y ≡ number_of v → x *ℤ y ≡ half_even (a *ℤ count_of v) 10000
times_number a x y v e p q =
    ap (λ n. n *ℤ y) p ∙ ap (λ n. a *ℤ n) q ∙ sym (amount_by_number a v e)

pub number_times : (a x y : ℤ) (v w : Val) → is_amount v ≡ false → w ≡ currency a → x ≡ a → y ≡ number_of v → x *ℤ y ≡ half_even (count_of v *ℤ count_of w) 10000
number_times a x y v w e amount p q =
    times_number a x y v e p q
    ∙ ap (λ n. half_even n 10000) (*ℤ_comm a (count_of v) ∙ ap (λ w. count_of v *ℤ count_of w) (sym amount))

-- the wider of two kinds is Currency only where one of them is
wider_currency : (l r : Work) → wider l r ≡ work.Currency → (l ≡ work.Currency) ⊎ (r ≡ work.Currency)
wider_currency work.Currency r e = inl refl
wider_currency (work.Whole k) work.Currency e = inr refl
wider_currency (work.Whole k) (work.Whole j) e = absurd (cc)

empty_beside_whole : (v : Val) → empty_beside v ≡ work.Currency → ⊥
empty_beside_whole empty e = (cc)
empty_beside_whole null e = (cc)
empty_beside_whole missing e = (cc)
empty_beside_whole (boolean b) e = (cc)
empty_beside_whole (whole kind.Byte z) e = (cc)
empty_beside_whole (whole kind.Integer z) e = (cc)
empty_beside_whole (whole kind.Long z) e = (cc)
empty_beside_whole (whole kind.LongLong z) e = (cc)
empty_beside_whole (currency count) e = (cc)
empty_beside_whole (text t) e = (cc)
empty_beside_whole (object o) e = (cc)
empty_beside_whole (array b t vs) e = (cc)
empty_beside_whole (udt n vs) e = (cc)

beside_currency : (v w : Val) → kind_beside v w ≡ work.Currency → is_amount v ≡ true
beside_currency empty w e = absurd (empty_beside_whole w e)
beside_currency null w e = absurd (cc)
beside_currency missing w e = absurd (cc)
beside_currency (boolean b) w e = absurd (cc)
beside_currency (whole k z) w e = absurd (cc)
beside_currency (currency count) w e = refl
beside_currency (text t) w e = absurd (cc)
beside_currency (object o) w e = absurd (cc)
beside_currency (array b t vs) w e = absurd (cc)
beside_currency (udt n vs) w e = absurd (cc)

one_of : (l r : Bool) → (l ≡ true) ⊎ (r ≡ true) → IsTrue (l || r)
one_of true r e = search rules
one_of false true e = search rules
one_of false false e = elim e [ inl p ↦ absurd (cc) | inr p ↦ absurd (cc) ]

pub in_currency : (left right : Val) → work_of left right ≡ work.Currency → IsTrue (is_amount left || is_amount right)
in_currency left right e =
    one_of (is_amount left) (is_amount right)
    (elim (wider_currency (kind_beside left right) (kind_beside right left) e) as (λ _. (is_amount left ≡ true) ⊎ (is_amount right ≡ true)) [ inl p ↦ inl (beside_currency left right p) | inr p ↦ inr (beside_currency right left p) ])

nat_scaled : (x y : ℕ) → nat_lt (x * 10000) (y * 10000) ≡ nat_lt x y
nat_scaled x y = grind (arith, nat_tests)

below_scaled : (x y : ℤ) → int_lt (x *ℤ pos 10000) (y *ℤ pos 10000) ≡ int_lt x y
below_scaled a b = grind (arith, ints)

-- whole numbers compare as their counts do
pub compare_scaled : (a b : ℤ) → int_cmp (a *ℤ pos 10000) (b *ℤ pos 10000) ≡ int_cmp a b
compare_scaled a b = rw (below_scaled a b, below_scaled b a) refl
