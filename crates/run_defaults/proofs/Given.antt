-- Arguments, one by one.
use Rattle.std.proofs.Common.{◌≡◌, ℕ, suc, ◌-◌, ◌≤◌, List, [], ◌∷◌, ◌++◌, length, get_or, take, drop, map, Some, None, true, false, refl, ap, sym, ◌∙◌, arith}
use Rattle.std.proofs.lemmas.Slice.{first_rest}
use Rattle.std.proofs.lemmas.List.{length-map}
use Rattle.run_memory.specs.declared.frame.Slot.{Slot as RustSlot}
use Rattle.run_memory.specs.View.{slot_view}
use Rattle.std.specs.Prelude.{ℤ, pos, ◌-ℤ◌}
use Rattle.vba_values.specs.Types as type
use Rattle.vba_values.specs.Val.{Val, Vals, empty, array, vals_of}
use Rattle.bound_project.specs.Project.{Parameter}
use Rattle.vba_meaning.specs.Memory.{Slot, value, path, value_in, Memory}
use Rattle.vba_meaning.specs.Effects.{Fine, on_fine, packed, slot_left_out, slot_value, slot_values}
use Rattle.vba_meaning.specs.Defaults.{slot_given, slots_in}

pub no_value_is_empty : (x : Slot) → value_in (Some x) ≡ None → slot_value x ≡ empty
no_value_is_empty (value v) h = absurd cc
no_value_is_empty (path p) h = refl

-- one slot more
pub values_more : (xs : List RustSlot) (x : RustSlot) → slot_values (map slot_view (xs ++ x ∷ [])) ≡ slot_values (map slot_view xs) ++ slot_value (slot_view x) ∷ []
values_more [] x = refl
values_more (y ∷ ys) x = ap (λ l. slot_value (slot_view y) ∷ l) (values_more ys x)

values_again : (vs : List Val) → slot_values (map value vs) ≡ vs
values_again [] = refl
values_again (v ∷ vs) = ap (λ l. v ∷ l) (values_again vs)

as_many_values : (xs : List Slot) → length (map value (slot_values xs)) ≡ length xs
as_many_values [] = refl
as_many_values (x ∷ xs) = ap (λ n. suc n) (as_many_values xs)

-- the values alone are packed
pub packed_values : (xs : List Slot) → packed (map value (slot_values xs)) ≡ packed xs
packed_values xs = rw (values_again (slot_values xs), as_many_values xs) refl

pub packed_first : (v : Val) (xs : List Slot) → packed (value v ∷ map value (slot_values xs)) ≡ packed (value v ∷ xs)
packed_first v xs = packed_values (value v ∷ xs)

pub packed_again : (x : RustSlot) (v : Val) (xs ys all : List RustSlot) → slot_view x ≡ value v → ys ≡ xs → all ≡ x ∷ ys
    → packed (map slot_view all) ≡ packed (value v ∷ map value (slot_values (map slot_view xs)))
packed_again x v xs ys all e f g = rw (g, f, e) (sym (packed_first v (map slot_view xs)))

-- the first one and those behind it
pub first_behind : {A B : Type 0} (f : A → B) (xs : List A) (x : A) → 1 ≤ length xs → x ≡ get_or xs 0 x → f x ∷ map f (take (length xs - 1) (drop 1 xs)) ≡ map f xs
first_behind f xs x h e = ap (λ y. f y ∷ map f (take (length xs - 1) (drop 1 xs))) e ∙ sym (ap (λ l. map f l) (first_rest xs x (omega (arith, h))))

-- parameters without arguments
pub none_given : (qs : List Parameter) (m : Memory) → slots_in qs [] m ≡ Fine (map slot_left_out qs) m
none_given [] m = refl
none_given (q ∷ qs) m = rw (none_given qs m) refl

-- a parameter with an argument
pub slots_many : (q : Parameter) (qs : List Parameter) (v : Val) (vs : List Val) (m : Memory) → q.many ≡ true
    → slots_in (q ∷ qs) (v ∷ vs) m ≡ Fine (value (packed (map value (v ∷ vs))) ∷ []) m
slots_many q qs v vs m h = rw h refl

pub slots_more : (q : Parameter) (qs : List Parameter) (v : Val) (vs : List Val) (m : Memory) → q.many ≡ false
    → slots_in (q ∷ qs) (v ∷ vs) m ≡ on_fine (slot_given q v m) (λ x m1. on_fine (slots_in qs vs m1) (λ xs m2. Fine (x ∷ xs) m2))
slots_more q qs v vs m h = rw h refl
