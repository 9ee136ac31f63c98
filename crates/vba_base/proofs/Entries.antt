-- A list of names and their bytes as a finite map: what the first place of a name tells, and writing there.
use Rattle.std.proofs.Common.{◌≡◌, ℕ, suc, zero, ◌+◌, ◌<◌, Bool, true, false, cond, not, ◌||◌, ◌&&◌, is_some, List, [], ◌∷◌, ◌++◌, length, get_or, set, position, bytes_eq, string_bytes, String, Vec, Some, None, refl, sym, ap, subst, ◌∙◌, arith}
use Rattle.std.proofs.lemmas.Slice.Eq.{bytes_eq-Decides}
use Rattle.std.proofs.lemmas.Map.Text.{is_eq-slice_cmp}
use Rattle.std.proofs.lemmas.List.Quantifiers.{position-Some}
use Rattle.std.proofs.lemmas.Iterator.Adapters.{position_from-zero}
use Rattle.std.proofs.lemmas.List.{map-append}
use Rattle.std.specs.List.{position_from, list_any}
use Rattle.std.specs.Ordering.{nat_cmp, eq_by_cmp}
use Rattle.std.proofs.lemmas.Cmp.{nat_list_cmp_total}
use Rattle.std.specs.Cmp.Lexicographic.{slice_cmp}
use Rattle.std.specs.FinMap.{find, from_entries, get-from_entries, get-insert, same_map, from_entries_push, slice_cmp-IsAntisymmetric, nat_cmp-IsAntisymmetric, IsAntisymmetric}
use Rattle.std.specs.declared.alloc.Global.{Global}
use Rattle.vba_base.specs.Map.{bytes_of, with_bytes}
use Rattle.vba_base.specs.Memory.{entries_of, names_of, are_different}

abbrev Entry : Type 0
Entry = String Global × Vec ℕ Global

-- the entry has this name
abbrev pub has_name : List ℕ → Entry → Bool
has_name name e = bytes_eq name (string_bytes e.0)

same_names : IsAntisymmetric (slice_cmp nat_cmp)
same_names = slice_cmp-IsAntisymmetric nat_cmp-IsAntisymmetric

-- names that tie are the same
tied : (q name : List ℕ) → eq_by_cmp (slice_cmp nat_cmp) q name ≡ true → q ≡ name
tied q name t = (bytes_eq-Decides q name).0 (sym (is_eq-slice_cmp q name) ∙ t)

none_from : (name : List ℕ) (i : ℕ) (es : List Entry) → position_from (has_name name) i es ≡ None → find (slice_cmp nat_cmp) name (entries_of es) ≡ None
none_from name i [] n = refl
none_from name i (e ∷ es) n =
    elim (has_name name e) as (λ b. has_name name e ≡ b → cond b (Some i) (position_from (has_name name) (i + 1) es) ≡ None → find (slice_cmp nat_cmp) name (entries_of (e ∷ es)) ≡ None) [
      | true ↦ λ t m. cc
      | false ↦ λ t m. ap (λ b. cond b (Some e.1.items) (find (slice_cmp nat_cmp) name (entries_of es))) (is_eq-slice_cmp name (string_bytes e.0) ∙ t) ∙ none_from name (i + 1) es m
    ] refl n

some_from : (name : List ℕ) (i : ℕ) (es : List Entry) → is_some (position_from (has_name name) i es) ≡ list_any (bytes_eq name) (names_of es)
some_from name i [] = refl
some_from name i (e ∷ es) =
    elim (has_name name e) as (λ b. is_some (cond b (Some i) (position_from (has_name name) (i + 1) es)) ≡ (b || list_any (bytes_eq name) (names_of es))) [
      | true ↦ refl
      | false ↦ some_from name (i + 1) es
    ]

-- a name has a place where it is among the names
pub some_place : (name : List ℕ) (es : List Entry) → is_some (position (has_name name) es) ≡ list_any (bytes_eq name) (names_of es)
some_place name es = ap is_some (position_from-zero (has_name name) es) ∙ some_from name 0 es

-- names are different where the first has no place among the others, and those are different
pub different_first : (name : List ℕ) (es : List Entry) (e : Entry) (others : List Entry) (b : Bool) → es ≡ e ∷ others → name ≡ string_bytes e.0 → is_some (position (has_name name) others) ≡ b
    → are_different (names_of es) ≡ (not b && are_different (names_of others))
different_first name es e others b split same at =
    ap (λ l. are_different (names_of l)) split
    ∙ ap (λ c. not c && are_different (names_of others)) (ap (λ n. list_any (bytes_eq n) (names_of others)) (sym same) ∙ sym (some_place name others) ∙ at)

-- where no entry has the name, the map doesn't hold it
pub bytes_of-none : (name : List ℕ) (es : List Entry) → position (has_name name) es ≡ None → find (slice_cmp nat_cmp) name (entries_of es) ≡ None
bytes_of-none name es n = none_from name 0 es (sym (position_from-zero (has_name name) es) ∙ n)

found_at : (name : List ℕ) (es : List Entry) (i : ℕ) (d : Entry) → i < length es → has_name name (get_or es i d) ≡ true → ((k : ℕ) → k < i → has_name name (get_or es k d) ≡ false) → find (slice_cmp nat_cmp) name (entries_of es) ≡ Some (get_or es i d).1.items
found_at name [] i d h t f = absurd (omega arith)
found_at name (e ∷ es) zero d h t f =
    ap (λ b. cond b (Some e.1.items) (find (slice_cmp nat_cmp) name (entries_of es))) (is_eq-slice_cmp name (string_bytes e.0) ∙ t)
found_at name (e ∷ es) (suc i) d h t f =
    ap (λ b. cond b (Some e.1.items) (find (slice_cmp nat_cmp) name (entries_of es))) (is_eq-slice_cmp name (string_bytes e.0) ∙ f 0 (omega arith))
    ∙ found_at name es i d (omega arith) t (λ k g. f (suc k) (omega arith))

shadowed : {A : Type 0} (b : Bool) (x y z : A) → cond b x z ≡ cond b x (cond b y z)
shadowed true x y z = refl
shadowed false x y z = refl

swapped : {A : Type 0} (a b : Bool) (x y z : A) → (a ≡ true → b ≡ true → ⊥) → cond a x (cond b y z) ≡ cond b y (cond a x z)
swapped true true x y z apart = absurd (apart refl refl)
swapped true false x y z apart = refl
swapped false b x y z apart = refl

replaced_at : (name : List ℕ) (es : List Entry) (i : ℕ) (d : Entry) (v : Vec ℕ Global) (q : List ℕ) → i < length es → has_name name (get_or es i d) ≡ true → ((k : ℕ) → k < i → has_name name (get_or es k d) ≡ false)
    → find (slice_cmp nat_cmp) q (entries_of (set es i ((get_or es i d).0, v))) ≡ cond (eq_by_cmp (slice_cmp nat_cmp) q name) (Some v.items) (find (slice_cmp nat_cmp) q (entries_of es))
replaced_at name [] i d v q h t f = absurd (omega arith)
replaced_at name (e ∷ es) zero d v q h t f =
    subst (λ n. find (slice_cmp nat_cmp) q (entries_of ((e.0, v) ∷ es)) ≡ cond (eq_by_cmp (slice_cmp nat_cmp) q n) (Some v.items) (find (slice_cmp nat_cmp) q (entries_of (e ∷ es)))) (sym ((bytes_eq-Decides name (string_bytes e.0)).0 t))
    (shadowed (eq_by_cmp (slice_cmp nat_cmp) q (string_bytes e.0)) (Some v.items) (Some e.1.items) (find (slice_cmp nat_cmp) q (entries_of es)))
replaced_at name (e ∷ es) (suc i) d v q h t f =
    ap (cond (eq_by_cmp (slice_cmp nat_cmp) q (string_bytes e.0)) (Some e.1.items)) (replaced_at name es i d v q (omega arith) t (λ k g. f (suc k) (omega arith)))
    ∙ swapped (eq_by_cmp (slice_cmp nat_cmp) q (string_bytes e.0)) (eq_by_cmp (slice_cmp nat_cmp) q name) _ _ _
    (λ a b. let other = f 0 (omega arith) in
    let same = (bytes_eq-Decides name (string_bytes e.0)).1 (sym (tied q name b) ∙ tied q (string_bytes e.0) a) in cc)

-- the map holds what stands at the first place of the name
pub bytes_of-some : (name : List ℕ) (es : List Entry) (i : ℕ) (d : Entry) → position (has_name name) es ≡ Some i → bytes_of (from_entries (entries_of es)) name ≡ Some (get_or es i d).1.items
bytes_of-some name es i d p =
    let at = position-Some (has_name name) es i d p in
    get-from_entries nat_list_cmp_total (entries_of es) name ∙ found_at name es i d at.0 at.1 at.2

pub bytes_of-nothing : (name : List ℕ) (es : List Entry) → position (has_name name) es ≡ None → bytes_of (from_entries (entries_of es)) name ≡ None
bytes_of-nothing name es p = get-from_entries nat_list_cmp_total (entries_of es) name ∙ bytes_of-none name es p

-- new bytes at the first place of the name are the map with these bytes
pub replaced : (name : List ℕ) (es : List Entry) (i : ℕ) (d : Entry) (v : Vec ℕ Global) → position (has_name name) es ≡ Some i → from_entries (entries_of (set es i ((get_or es i d).0, v))) ≡ with_bytes (from_entries (entries_of es)) name v.items
replaced name es i d v p =
    let at = position-Some (has_name name) es i d p in
    same_map nat_list_cmp_total same_names _ _ (λ q.
    get-from_entries nat_list_cmp_total _ q ∙ replaced_at name es i d v q at.0 at.1 at.2
    ∙ sym (get-insert nat_list_cmp_total (from_entries (entries_of es)) name v.items q ∙ ap (cond (eq_by_cmp (slice_cmp nat_cmp) q name) (Some v.items)) (get-from_entries nat_list_cmp_total (entries_of es) q)))

-- an entry at the end, whose name is new, is the map with its bytes
pub added : (name : List ℕ) (es : List Entry) (e : Entry) → string_bytes e.0 ≡ name → position (has_name name) es ≡ None → from_entries (entries_of (es ++ e ∷ [])) ≡ with_bytes (from_entries (entries_of es)) name e.1.items
added name es e same p =
    ap from_entries (map-append (λ (e : Entry). (string_bytes e.0, e.1.items)) es (e ∷ []))
    ∙ from_entries_push nat_list_cmp_total same_names (entries_of es) (string_bytes e.0) e.1.items (bytes_of-none (string_bytes e.0) es (ap (λ n. position (has_name n) es) same ∙ p))
    ∙ ap (λ n. with_bytes (from_entries (entries_of es)) n e.1.items) same
