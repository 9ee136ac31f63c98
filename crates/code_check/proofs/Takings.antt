-- Operands taken off a stack, and put on it.
use Rattle.std.proofs.Common.{◌≡◌, ℕ, zero, suc, ◌+◌, ◌-◌, ◌<◌, ◌≤◌, Bool, cond, List, [], ◌∷◌, ◌++◌, length, reverse, take, drop, map, get_or, remove, Option, None, inl, inr, refl, sym, ap, ◌∙◌, arith, append_assoc}
use Rattle.std.specs.Prelude.{slice_index_or}
use Rattle.std.proofs.lemmas.Bool.{cases_lt}
use Rattle.std.proofs.lemmas.List.{reverse-append, take-append-drop, length-drop, length-reverse, length-map, map-append, append-nil, take_more}
use Rattle.std.proofs.lemmas.Grind.{reverse_onto}
use Rattle.pcode.specs.WellFormed as plain
use Rattle.pcode.specs.WellFormed.{Way, a_value, value_off, taken_off, kinds_pushed, kinds_reordered}
use Rattle.code_check.specs.declared.operands.Kind.{Kind}
use Rattle.code_check.specs.declared.operands.Kind.TheVariants.{Value, Path}
use Rattle.code_check.specs.Effects.{values_off}
use Rattle.code_check.specs.View.{kind_view, kinds_view}

pushed_is : (xs ks : List plain.Kind) → kinds_pushed xs ks ≡ reverse xs ++ ks
pushed_is [] ks = refl
pushed_is (x ∷ xs) ks = pushed_is xs (x ∷ ks) ∙ sym (ap (λ l. l ++ ks) (reverse_onto xs x []) ∙ append_assoc (reverse xs) (x ∷ []) ks)

map_reverse : (xs : List Kind) → map kind_view (reverse xs) ≡ reverse (map kind_view xs)
map_reverse [] = refl
map_reverse (x ∷ xs) =
    ap (map kind_view) (reverse_onto xs x []) ∙ map-append kind_view (reverse xs) (x ∷ []) ∙ ap (λ l. l ++ kind_view x ∷ []) (map_reverse xs)
    ∙ sym (reverse_onto (map kind_view xs) (kind_view x) [])

-- the operands of a stack with more on it
pushed_views : (old xs : List Kind) → kinds_view (old ++ xs) ≡ kinds_pushed (map kind_view xs) (kinds_view old)
pushed_views old xs =
    ap (map kind_view) (reverse-append old xs) ∙ map-append kind_view (reverse xs) (reverse old)
    ∙ ap (λ l. l ++ kinds_view old) (map_reverse xs) ∙ sym (pushed_is (map kind_view xs) (kinds_view old))

too_few : (n : ℕ) (ks xs : List plain.Kind) (go : List plain.Kind → List plain.Kind → Option Way) → length ks < n → taken_off n ks xs go ≡ None
too_few zero ks xs go h = absurd (omega arith)
too_few (suc n) [] xs go h = refl
too_few (suc n) (x ∷ ks) xs go h = too_few n ks (x ∷ xs) go (omega arith)

taken : (xs : List plain.Kind) (m : ℕ) (ks ys : List plain.Kind) (go : List plain.Kind → List plain.Kind → Option Way)
    → taken_off (length xs + m) (kinds_pushed xs ks) ys go ≡ taken_off m ks (xs ++ ys) go
taken [] m ks ys go = let e : 0 + m ≡ m = omega arith in ap (λ k. taken_off k ks ys go) e
taken (x ∷ xs) m ks ys go =
    let e : length (x ∷ xs) + m ≡ length xs + suc m = omega arith in
    ap (λ k. taken_off k (kinds_pushed xs (x ∷ ks)) ys go) e ∙ taken xs (suc m) (x ∷ ks) ys go

pub took_none : (n : ℕ) (all : List Kind) (go : List plain.Kind → List plain.Kind → Option Way) → length all < n → taken_off n (kinds_view all) [] go ≡ None
took_none n all go h = too_few n (kinds_view all) [] go (omega (arith, length-map (reverse all) kind_view, length-reverse all))

pub took_some : (n : ℕ) (all : List Kind) (go : List plain.Kind → List plain.Kind → Option Way) → n ≤ length all
    → taken_off n (kinds_view all) [] go ≡ go (map kind_view (drop (length all - n) all)) (kinds_view (take (length all - n) all))
took_some n all go h =
    let k = length all - n in
    let xs = map kind_view (drop k all) in
    let ks = kinds_view (take k all) in
    let len : n ≡ length xs + 0 = omega (arith, length-drop k all, length-map (drop k all) kind_view) in
    let split : kinds_view all ≡ kinds_pushed xs ks = ap kinds_view (sym (take-append-drop k all)) ∙ pushed_views (take k all) (drop k all) in
    ap (λ m. taken_off m (kinds_view all) [] go) len ∙ ap (λ l. taken_off (length xs + 0) l [] go) split ∙ taken xs 0 ks [] go ∙ ap (λ l. go l ks) (append-nil xs)

-- one more value
pub values_more : (n i : ℕ) (b : Bool) (old new : List plain.Kind) → i < n → ((go : List plain.Kind → Option Way) → value_off old go ≡ cond b (go new) None) → (go : List plain.Kind → Option Way)
    → values_off (n - i) old go ≡ cond b (values_off (n - (i + 1)) new go) None
values_more n i b old new h found go =
    let e : n - i ≡ suc (n - (i + 1)) = omega arith in
    ap (λ k. values_off k old go) e ∙ found (λ js. values_off (n - (i + 1)) js go)

-- arguments in another order, one more
pushed_more : (xs : List plain.Kind) (x : plain.Kind) (ks : List plain.Kind) → kinds_pushed (xs ++ x ∷ []) ks ≡ x ∷ kinds_pushed xs ks
pushed_more [] x ks = refl
pushed_more (y ∷ xs) x ks = pushed_more xs x (y ∷ ks)

reordered_append : (a b : List ℕ) (xs : List plain.Kind) → kinds_reordered (a ++ b) xs ≡ kinds_reordered a xs ++ kinds_reordered b xs
reordered_append [] b xs = refl
reordered_append (i ∷ a) b xs = ap (λ l. slice_index_or xs i a_value ∷ l) (reordered_append a b xs)

pub reordered_more : (order : List ℕ) (i : ℕ) (xs ks : List plain.Kind) → i < length order
    → kinds_pushed (kinds_reordered (take (i + 1) order) xs) ks ≡ slice_index_or xs (get_or order i 0) a_value ∷ kinds_pushed (kinds_reordered (take i order) xs) ks
reordered_more order i xs ks h =
    ap (λ l. kinds_pushed (kinds_reordered l xs) ks) (take_more order i 0 h)
    ∙ ap (λ l. kinds_pushed l ks) (reordered_append (take i order) (get_or order i 0 ∷ []) xs)
    ∙ pushed_more (kinds_reordered (take i order) xs) (slice_index_or xs (get_or order i 0) a_value) ks

-- a value that is lifted
abbrev lifted : (List plain.Kind → Option Way) → List plain.Kind → List plain.Kind → Option Way
lifted go xs js = value_off js (λ is. go (a_value ∷ kinds_pushed xs is))

pub lift_none : (n : ℕ) (all : List Kind) (go : List plain.Kind → Option Way) → length all ≤ n → taken_off n (kinds_view all) [] (λ xs js. value_off js (λ is. go (a_value ∷ kinds_pushed xs is))) ≡ None
lift_none n all go h =
    elim (cases_lt (length all) n) [
      | inl lt ↦ took_none n all (lifted go) lt
      | inr le ↦ (let z : length all - n ≡ 0 = omega arith in
          took_some n all (lifted go) le ∙ ap (λ k. lifted go (map kind_view (drop k all)) (kinds_view (take k all))) z)
    ]

-- the operands with the one below so many of them
split_at : (n : ℕ) (all : List Kind) (x : Kind) → n < length all → x ≡ get_or all (length all - n - 1) x
    → kinds_view (take (length all - n) all) ≡ kind_view x ∷ kinds_view (take (length all - n - 1) all)
split_at n all x h e =
    let k = length all - n - 1 in
    let s : length all - n ≡ k + 1 = omega arith in
    ap (λ m. kinds_view (take m all)) s ∙ ap kinds_view (take_more all k x (omega arith)) ∙ ap (λ y. kinds_view (take k all ++ y ∷ [])) (sym e) ∙ pushed_views (take k all) (x ∷ [])

pub lift_path : (n : ℕ) (all : List Kind) (go : List plain.Kind → Option Way) → n < length all → Path ≡ get_or all (length all - n - 1) Path
    → taken_off n (kinds_view all) [] (λ xs js. value_off js (λ is. go (a_value ∷ kinds_pushed xs is))) ≡ None
lift_path n all go h e = took_some n all (lifted go) (omega arith) ∙ ap (lifted go (map kind_view (drop (length all - n) all))) (split_at n all Path h e)

pub lift_value : (n : ℕ) (all new : List Kind) (go : List plain.Kind → Option Way) → n < length all → Value ≡ get_or all (length all - n - 1) Value → new ≡ remove all (length all - n - 1) ++ Value ∷ []
    → taken_off n (kinds_view all) [] (λ xs js. value_off js (λ is. go (a_value ∷ kinds_pushed xs is))) ≡ go (kinds_view new)
lift_value n all new go h e after =
    let k = length all - n - 1 in
    let s : length all - n ≡ suc k = omega arith in
    took_some n all (lifted go) (omega arith) ∙ ap (lifted go (map kind_view (drop (length all - n) all))) (split_at n all Value h e)
    ∙ ap (λ m. go (a_value ∷ kinds_pushed (map kind_view (drop m all)) (kinds_view (take k all)))) s
    ∙ ap (λ l. go (a_value ∷ l)) (sym (pushed_views (take k all) (drop (suc k) all)))
    ∙ ap go (sym (pushed_views (remove all k) (Value ∷ [])) ∙ ap kinds_view (sym after))
