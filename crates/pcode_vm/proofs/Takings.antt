-- Operands taken off a stack, and put on it.
use Rattle.std.proofs.Common.{◌≡◌, ℕ, zero, suc, ◌-◌, ◌<◌, ◌≤◌, List, [], ◌∷◌, ◌++◌, length, reverse, take, drop, map, refl, sym, ap, ◌∙◌, arith, append_assoc}
use Rattle.std.proofs.lemmas.List.{reverse-append, take-append-drop, length-drop, length-reverse, length-map, map-append, append-nil}
use Rattle.std.proofs.lemmas.Grind.{reverse_onto}
use Rattle.vba_meaning.specs.Memory as plain
use Rattle.run_memory.specs.declared.frame.Slot.{Slot}
use Rattle.run_memory.specs.View.{slot_view}
use Rattle.pcode.specs.Machine.{Move, Sticks, take_args, pushed}

pushed_is : (xs st : List plain.Slot) → pushed xs st ≡ reverse xs ++ st
pushed_is [] st = refl
pushed_is (x ∷ xs) st = pushed_is xs (x ∷ st) ∙ sym (ap (λ l. l ++ st) (reverse_onto xs x []) ∙ append_assoc (reverse xs) (x ∷ []) st)

map_reverse : (xs : List Slot) → map slot_view (reverse xs) ≡ reverse (map slot_view xs)
map_reverse [] = refl
map_reverse (x ∷ xs) =
    ap (map slot_view) (reverse_onto xs x []) ∙ map-append slot_view (reverse xs) (x ∷ []) ∙ ap (λ l. l ++ slot_view x ∷ []) (map_reverse xs)
    ∙ sym (reverse_onto (map slot_view xs) (slot_view x) [])

-- the operands of a stack with more on it
pub pushed_views : (old xs : List Slot) → map slot_view (reverse (old ++ xs)) ≡ pushed (map slot_view xs) (map slot_view (reverse old))
pushed_views old xs =
    ap (map slot_view) (reverse-append old xs) ∙ map-append slot_view (reverse xs) (reverse old)
    ∙ ap (λ l. l ++ map slot_view (reverse old)) (map_reverse xs) ∙ sym (pushed_is (map slot_view xs) (map slot_view (reverse old)))

too_few : (n : ℕ) (st xs : List plain.Slot) (go : List plain.Slot → List plain.Slot → Move) → length st < n → take_args n st xs go ≡ Sticks
too_few zero st xs go h = absurd (omega arith)
too_few (suc n) [] xs go h = refl
too_few (suc n) (x ∷ st) xs go h = too_few n st (x ∷ xs) go (omega arith)

all_taken_onto : (xs st ys : List plain.Slot) (go : List plain.Slot → List plain.Slot → Move) → take_args (length xs) (reverse xs ++ st) ys go ≡ go (xs ++ ys) st
all_taken_onto xs st ys go = by_length (length xs) xs st ys refl where
  last_of : (xs : List plain.Slot) (k : ℕ) → length xs ≡ suc k → (zs : List plain.Slot) × ((z : plain.Slot) × ((xs ≡ zs ++ z ∷ []) × (length zs ≡ k)))
  last_of [] k e = absurd (omega arith)
  last_of (x ∷ []) k e = ([], (x, (refl, omega arith)))
  last_of (x ∷ y ∷ ys) zero e = absurd (omega arith)
  last_of (x ∷ y ∷ ys) (suc k) e = let r = last_of (y ∷ ys) k (omega arith) in (x ∷ r.0, (r.1.0, (ap (λ l. x ∷ l) r.1.1.0, omega (arith, r.1.1.1))))

  by_length : (k : ℕ) (xs st ys : List plain.Slot) → length xs ≡ k → take_args k (reverse xs ++ st) ys go ≡ go (xs ++ ys) st
  by_length zero [] st ys e = refl
  by_length zero (x ∷ xs) st ys e = absurd (omega arith)
  by_length (suc k) xs st ys e =
      let r = last_of xs k e in
      ap (λ l. take_args (suc k) (reverse l ++ st) ys go) r.1.1.0
      ∙ ap (λ l. take_args (suc k) (l ++ st) ys go) (reverse-append r.0 (r.1.0 ∷ []))
      ∙ by_length k r.0 st (r.1.0 ∷ ys) r.1.1.1
      ∙ ap (λ l. go l st) (sym (append_assoc r.0 (r.1.0 ∷ []) ys) ∙ ap (λ l. l ++ ys) (sym r.1.1.0))

pub took_none : (n : ℕ) (all : List Slot) (go : List plain.Slot → List plain.Slot → Move) → length all < n → take_args n (map slot_view (reverse all)) [] go ≡ Sticks
took_none n all go h = too_few n (map slot_view (reverse all)) [] go (omega (arith, length-map (reverse all) slot_view, length-reverse all))

pub took_some : (n : ℕ) (all : List Slot) (go : List plain.Slot → List plain.Slot → Move) → n ≤ length all
    → take_args n (map slot_view (reverse all)) [] go ≡ go (map slot_view (drop (length all - n) all)) (map slot_view (reverse (take (length all - n) all)))
took_some n all go h =
    let k = length all - n in
    let xs = drop k all in
    let ys = take k all in
    let len : n ≡ length (map slot_view xs) = omega (arith, length-drop k all, length-map xs slot_view) in
    let split : map slot_view (reverse all) ≡ reverse (map slot_view xs) ++ map slot_view (reverse ys) =
    ap (λ l. map slot_view (reverse l)) (sym (take-append-drop k all)) ∙ ap (map slot_view) (reverse-append ys xs)
    ∙ map-append slot_view (reverse xs) (reverse ys) ∙ ap (λ l. l ++ map slot_view (reverse ys)) (map_reverse xs) in
    ap (λ m. take_args m (map slot_view (reverse all)) [] go) len ∙ ap (λ l. take_args (length (map slot_view xs)) l [] go) split
    ∙ all_taken_onto (map slot_view xs) (map slot_view (reverse ys)) [] go ∙ ap (λ l. go l (map slot_view (reverse ys))) (append-nil (map slot_view xs))
