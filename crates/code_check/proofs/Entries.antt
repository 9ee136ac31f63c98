-- The tables of a code.
use Rattle.std.proofs.Common.{◌≡◌, ◌↔◌, ℕ, zero, suc, ◌+◌, ◌<◌, ◌≤◌, Bool, true, List, [], ◌∷◌, ◌++◌, length, map, take, drop, get_or, Some, refl, sym, ap, ◌∙◌, subst, arith, add-one}
use Rattle.std.specs.Prelude.{slice_get, slice_index}
use Rattle.std.proofs.lemmas.List.{drop_all, get_or_past, map-append, take_all, take_more}
use Rattle.bound_project.specs.Whole.{All}
use Rattle.pcode.specs.Instructions.{Code, Begin, list_or, entry_of}
use Rattle.pcode.specs.WellFormed.{IsStatement, statement_count, first_address, IsOf, BeginsAt}
use Rattle.code_check.specs.Questions.{AreFrom}

-- where the first procedure from one on that has statements begins
pub first_skips : (t : List (List ℕ)) (p end : ℕ) → length (list_or (slice_get t p)) ≡ 0 → p < length t → first_address (drop p t) end ≡ first_address (drop (p + 1) t) end
first_skips [] p end e h = absurd (omega arith)
first_skips ([] ∷ t) zero end e h = refl
first_skips ((a ∷ es) ∷ t) zero end e h = absurd (omega (arith, e))
first_skips (x ∷ t) (suc p) end e h = first_skips t p end e (omega arith) ∙ (let s : suc (p + 1) ≡ suc p + 1 = omega arith in ap (λ k. first_address (drop k (x ∷ t)) end) s)

pub first_taken : (t : List (List ℕ)) (p end : ℕ) → 0 < length (list_or (slice_get t p)) → first_address (drop p t) end ≡ slice_index (list_or (slice_get t p)) 0
first_taken [] p end h = absurd (omega arith)
first_taken ([] ∷ t) zero end h = absurd (omega arith)
first_taken ((a ∷ es) ∷ t) zero end h = refl
first_taken (x ∷ t) (suc p) end h = first_taken t p end h

pub first_past : (t : List (List ℕ)) (p end : ℕ) → length t ≤ p → first_address (drop p t) end ≡ end
first_past t p end h = ap (λ l. first_address l end) (drop_all p t h)

-- only a procedure that has a table has statements
has_table : (t : List (List ℕ)) (p i : ℕ) → i < length (list_or (slice_get t p)) → p < length t
has_table [] p i h = absurd (omega arith)
has_table (x ∷ t) zero i h = omega arith
has_table (x ∷ t) (suc p) i h = omega (arith, has_table t p i h)

pub statement_within : (code : Code) (p i : ℕ) → IsStatement code p i → p < length code.entries
statement_within code p i h = has_table code.entries p i h

pub none_past : (t : List (List ℕ)) (p : ℕ) → length t ≤ p → length (list_or (slice_get t p)) ≡ 0
none_past [] p h = refl
none_past (x ∷ t) zero h = absurd (omega arith)
none_past (x ∷ t) (suc p) h = none_past t p (omega arith)

entry_past : (t : List (List ℕ)) (p : ℕ) → length t ≤ p → slice_index (list_or (slice_get t p)) 0 ≡ 0
entry_past [] p h = refl
entry_past (x ∷ t) zero h = absurd (omega arith)
entry_past (x ∷ t) (suc p) h = entry_past t p (omega arith)

pub starts_past : (code : Code) (p : ℕ) → length code.starts ≡ length code.entries → length code.entries ≤ p → slice_index code.starts p ≡ entry_of code p 0
starts_past code p e h = get_or_past code.starts p 0 (omega (arith, e)) ∙ sym (entry_past code.entries p h)

-- the addresses of a procedure
pub no_address : (code : Code) (p : ℕ) → statement_count code p ≡ 0 → AreFrom code p 0 0
no_address code p e = λ pc. (λ of. absurd (omega (arith, of.0, e)), λ h. absurd (omega (arith, h.1)))

pub addresses_are : (code : Code) (p first end : ℕ) → 0 < statement_count code p → first ≡ entry_of code p 0 → end ≡ first_address (drop (p + 1) code.entries) (length code.instrs) → AreFrom code p first end
addresses_are code p first end h f e =
    let last : end ≡ first_address (drop (suc p) code.entries) (length code.instrs) = e ∙ ap (λ k. first_address (drop k code.entries) (length code.instrs)) (add-one p) in
    λ pc. (λ of. (omega (arith, of.1, f), omega (arith, of.2, last)), λ at. (h, omega (arith, at.0, f), omega (arith, at.1, last)))

-- a statement begins among them, or doesn't
pub begins_low : (code : Code) (p first end i a : ℕ) → AreFrom code p first end → a ≡ entry_of code p i → a < first → BeginsAt code p i (entry_of code p i) → ⊥
begins_low code p first end i a from e h b = omega (arith, ((from (entry_of code p i)).0 b.1).0, e, h)

pub begins_high : (code : Code) (p first end i a : ℕ) → AreFrom code p first end → a ≡ entry_of code p i → end ≤ a → BeginsAt code p i (entry_of code p i) → ⊥
begins_high code p first end i a from e h b = omega (arith, ((from (entry_of code p i)).0 b.1).1, e, h)

pub begins_if : (code : Code) (p first end i a : ℕ) (b : Bool) → AreFrom code p first end → a ≡ entry_of code p i → first ≤ a → a < end → ((b ≡ true) ↔ (slice_get code.instrs a ≡ Some (Begin i)))
    → ((b ≡ true) ↔ BeginsAt code p i (entry_of code p i))
begins_if code p first end i a b from e low high f =
    let of : IsOf code p a = (from a).1 (low, high) in
    (λ t. subst (λ n. BeginsAt code p i n) e (f.0 t, of), λ h. f.1 (ap (slice_get code.instrs) e ∙ h.0))

-- what holds of each item of a list, by places
all_push : {A : Type 0} (P : A → Type 0) (xs : List A) (x : A) → All P xs → P x → All P (xs ++ x ∷ [])
all_push P [] x h k = (k, tt)
all_push P (y ∷ xs) x h k = (h.0, all_push P xs x h.1 k)

pub all_more : {A B : Type 0} (P : B → Type 0) (f : A → B) (xs : List A) (k : ℕ) (d : A) → k < length xs → All P (map f (take k xs)) → P (f (get_or xs k d)) → All P (map f (take (k + 1) xs))
all_more P f xs k d h before here =
    subst (All P) (sym (ap (map f) (take_more xs k d h) ∙ map-append f (take k xs) (get_or xs k d ∷ []))) (all_push P (map f (take k xs)) (f (get_or xs k d)) before here)

pub all_end : {A B : Type 0} (P : B → Type 0) (f : A → B) (xs : List A) (k : ℕ) → length xs ≤ k → All P (map f (take k xs)) → All P (map f xs)
all_end P f xs k h before = subst (λ l. All P (map f l)) (take_all k xs h) before

pub all_at : {A B : Type 0} (P : B → Type 0) (f : A → B) (xs : List A) (k : ℕ) (d : A) → k < length xs → All P (map f xs) → P (f (get_or xs k d))
all_at P f [] k d h all = absurd (omega arith)
all_at P f (x ∷ xs) zero d h all = all.0
all_at P f (x ∷ xs) (suc k) d h all = all_at P f xs k d (omega arith) all.1

-- the same of a list itself
pub all_numbers_more : (P : ℕ → Type 0) (xs : List ℕ) (k : ℕ) → k < length xs → All P (take k xs) → P (get_or xs k 0) → All P (take (k + 1) xs)
all_numbers_more P xs k h before here = subst (All P) (sym (take_more xs k 0 h)) (all_push P (take k xs) (get_or xs k 0) before here)

pub all_numbers_end : (P : ℕ → Type 0) (xs : List ℕ) (k : ℕ) → length xs ≤ k → All P (take k xs) → All P xs
all_numbers_end P xs k h before = subst (All P) (take_all k xs h) before

pub all_numbers_at : (P : ℕ → Type 0) (xs : List ℕ) (k : ℕ) → k < length xs → All P xs → P (get_or xs k 0)
all_numbers_at P [] k h all = absurd (omega arith)
all_numbers_at P (x ∷ xs) zero h all = all.0
all_numbers_at P (x ∷ xs) (suc k) h all = all_numbers_at P xs k (omega arith) all.1
