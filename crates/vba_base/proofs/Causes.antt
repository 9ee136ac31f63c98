-- What callers of files and sinks need of counts and of bytes taken, over several calls.
use Rattle.std.proofs.Common.{◌≡◌, ℕ, ◌+◌, ◌-◌, ◌^◌, ◌≤◌, min, Bool, true, false, List, [], ◌++◌, take, length, Option, Some, None, refl, sym, ap, subst, ◌∙◌, arith, append-nil, append_assoc}
use Rattle.std.proofs.Math.Seq.{take-append-add, take-length}
use Rattle.std.proofs.lemmas.List.{take-append-le, take_min, length-take}
use Rattle.vba_base.specs.Causes.{Rose, RoseOnly, IsPrefix, Adds, AddsPrefix}

-- a count that rose and rose again has risen
pub rose_twice : (a b c : ℕ) → Rose a b → Rose b c → Rose a c
rose_twice a b c p q = omega arith

-- a count that rose has risen after a later call too
pub rose_before : (failed : Bool) (a b c : ℕ) → Rose a b → RoseOnly failed b c → Rose a c
rose_before true a b c p q = rose_twice a b c p q
rose_before false a b c p q = subst (Rose a) (sym q) p

-- a count that rises at a later call has risen from before the earlier one
pub rose_after : (failed : Bool) (a b c : ℕ) → RoseOnly failed a b → Rose b c → Rose a c
rose_after true a b c p q = rose_twice a b c p q
rose_after false a b c p q = subst (λ n. Rose n c) p q

-- a count up to the greatest u64 that rose isn't less than before
pub rose_up : (a b : ℕ) → a ≤ 2 ^ 64 - 1 → Rose a b → a ≤ b
rose_up a b h p = omega arith

-- no bytes are a prefix of any bytes
pub prefix_none : (whole : List ℕ) → IsPrefix [] whole
prefix_none whole = refl

-- all the bytes are a prefix of them
pub prefix_whole : (whole : List ℕ) → IsPrefix whole whole
prefix_whole whole = sym (take-length whole)

-- a prefix is one of more bytes too
pub prefix_longer : (bytes whole more : List ℕ) → IsPrefix bytes whole → IsPrefix bytes (whole ++ more)
prefix_longer bytes whole more p =
    let shorter : length bytes ≤ length whole = omega (arith, ap length p, length-take (length bytes) whole) in
    p ∙ sym (take-append-le (length bytes) whole more shorter)

-- a sink that isn't called adds nothing
pub adds_none : (old : Option (List ℕ)) → Adds old old []
adds_none None = refl
adds_none (Some old) = ap Some (sym (append-nil old))

-- pieces that are added one after the other are added as one
pub adds_twice : (a b c : Option (List ℕ)) (first second : List ℕ) → Adds a b first → Adds b c second → Adds a c (first ++ second)
adds_twice None b c first second p q = subst (λ (o : Option (List ℕ)). Adds o c second) p q
adds_twice (Some a) b c first second p q =
    subst (λ (o : Option (List ℕ)). Adds o c second) p q ∙ ap Some (append_assoc a first second)

-- a sink that isn't called added a prefix of any bytes
pub adds_prefix_none : (old : Option (List ℕ)) (bytes : List ℕ) → AddsPrefix old old bytes
adds_prefix_none old bytes = record { count = 0; added = adds_none old }

-- what is added whole is added as a prefix
pub adds_prefix_whole : (old new : Option (List ℕ)) (bytes : List ℕ) → Adds old new bytes → AddsPrefix old new bytes
adds_prefix_whole old new bytes p = record { count = length bytes; added = subst (Adds old new) (sym (take-length bytes)) p }

-- a piece and then a prefix of the next are a prefix of both
pub adds_prefix_after : (a b c : Option (List ℕ)) (first second : List ℕ) → Adds a b first → AddsPrefix b c second → AddsPrefix a c (first ++ second)
adds_prefix_after a b c first second p q = record {
  count = length first + q.count;
  added = subst (Adds a c) (sym (take-append-add first second q.count)) (adds_twice a b c first (take q.count second) p q.added);
}

take_less : (bytes more : List ℕ) (n : ℕ) → take (min n (length bytes)) (bytes ++ more) ≡ take n bytes
take_less bytes more n = take-append-le (min n (length bytes)) bytes more (omega arith) ∙ take_min n bytes

-- a prefix is one of more bytes too
pub adds_prefix_longer : (old new : Option (List ℕ)) (bytes more : List ℕ) → AddsPrefix old new bytes → AddsPrefix old new (bytes ++ more)
adds_prefix_longer old new bytes more p = record {
  count = min p.count (length bytes);
  added = subst (Adds old new) (sym (take_less bytes more p.count)) p.added;
}
