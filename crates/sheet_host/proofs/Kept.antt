-- The written cells of pages: they stand in rising order, and a look-up goes by the page.
use Rattle.std.proofs.Common.{◌≡◌, ℕ, ◌<◌, Bool, true, false, cond, List, [], ◌∷◌, ◌++◌, Option, Some, None, T, refl, sym, ap, subst, ◌∙◌, arith}
use Rattle.std.specs.Prelude.{◌&&◌}
use Rattle.std.specs.List.{AllByRecursion}
use Rattle.std.specs.List.Sorted.{IsStrictlySortedBy}
use Rattle.std.specs.Map.{keys_of, lookup}
use Rattle.std.specs.BTreeMap.{is_at}
use mathlib.Core.Bool.{true≢false}
use Rattle.std.specs.Option.{option_and_then}
use Rattle.std.specs.FinMap.{get, entries, find, is_sorted, entries-from_sorted, get-from_sorted}
use Rattle.std.specs.FinMap.Entries.{below_all}
use Rattle.std.specs.Ordering.{is_lt, nat_cmp}
use Rattle.std.specs.Cmp.{eq_by_cmp_equiv}
use Rattle.std.specs.declared.cmp.Ordering.TheVariants.{Less}
use Rattle.std.proofs.lemmas.Map.{NonePasses, lookup-none}
use Rattle.std.proofs.lemmas.Map.Entries.{none_past_head}
use Rattle.std.proofs.lemmas.Map.Keys.{IsDistinct-from_sorted, sorted_head, sorted_tail}
use Rattle.sheet_host.specs.declared.cell.CellValue.{CellValue}
use Rattle.sheet_host.specs.Pages.{Slot, Page, page_of, with_slot, cells_of_slots, cells_of_pages, kept, slot_in, slot_at, AllOfPage, AllPages, ArePages}
use Rattle.sheet_host.specs.Sheets.{Position, position_cmp}
use Rattle.sheet_host.proofs.Positions.{position_total, at_same, at_number, number_at, number_less, page_less}

-- a position is before all keys
abbrev Before : {X : Type 0} → Position → List (Position × X) → Type 0
Before p es = AllByRecursion (λ q. position_cmp p q ≡ Less) (keys_of es)

abbrev Rising : {X : Type 0} → List (Position × X) → Type 0
Rising es = IsStrictlySortedBy position_cmp (keys_of es)

before_slots : (p : Position) (slots : List (Position × Slot)) → Before p slots → Before p (cells_of_slots slots)
before_slots p [] h = tt
before_slots p (slot ∷ slots) h = by_slot slot.1 (before_slots p slots h.1) where
  by_slot : (s : Slot) → Before p (cells_of_slots slots) → Before p (with_slot slot.0 s (cells_of_slots slots))
  by_slot None later = later
  by_slot (Some value) later = (h.0, later)

rising_slots : (slots : List (Position × Slot)) → Rising slots → Rising (cells_of_slots slots)
unfolding IsStrictlySortedBy
rising_slots [] h = tt
rising_slots (slot ∷ slots) h = by_slot slot.1 (rising_slots slots h.1) where
  by_slot : (s : Slot) → Rising (cells_of_slots slots) → Rising (with_slot slot.0 s (cells_of_slots slots))
  by_slot None later = later
  by_slot (Some value) later = (before_slots slot.0 slots h.0, later)

before_append : {X : Type 0} (p : Position) (xs ys : List (Position × X)) → Before p xs → Before p ys → Before p (xs ++ ys)
before_append p [] ys h k = k
before_append p (x ∷ xs) ys h k = (h.0, before_append p xs ys h.1 k)

rising_append : {X : Type 0} (xs ys : List (Position × X)) → Rising xs → Rising ys → AllByRecursion (λ x. Before x.0 ys) xs → Rising (xs ++ ys)
unfolding IsStrictlySortedBy
rising_append [] ys h k all = k
rising_append (x ∷ xs) ys h k all = (before_append x.0 xs ys h.0 all.0, rising_append xs ys h.1 k all.1)

-- the cells of later pages come later
before_page : (p : Position) (number : ℕ) (slots : List (Position × Slot)) → page_of p.0 < number → AllOfPage number slots → Before p slots
before_page p number [] later own = tt
before_page p number (slot ∷ slots) later own = (page_less p slot.0 (subst (λ n. page_of p.0 < n) (sym own.0) later), before_page p number slots later own.2)

before_pages : (p : Position) (pages : List (ℕ × Page)) → AllByRecursion (λ n. nat_cmp (page_of p.0) n ≡ Less) (keys_of pages) → AllPages pages → Before p (cells_of_pages pages)
before_pages p [] later each = tt
before_pages p (page ∷ pages) later each =
    before_append p (cells_of_slots page.1.entries) (cells_of_pages pages)
    (before_slots p page.1.entries (before_page p page.0 page.1.entries (number_less _ _ later.0) each.0.own)) (before_pages p pages later.1 each.1)

all_before : (number : ℕ) (slots : List (Position × Slot)) (pages : List (ℕ × Page)) → AllOfPage number slots
    → AllByRecursion (λ n. nat_cmp number n ≡ Less) (keys_of pages) → AllPages pages → AllByRecursion (λ x. Before x.0 (cells_of_pages pages)) (cells_of_slots slots)
all_before number [] pages own later each = tt
all_before number (slot ∷ slots) pages own later each = by_slot slot.1 (all_before number slots pages own.2 later each) where
  by_slot : (s : Slot) → AllByRecursion (λ x. Before x.0 (cells_of_pages pages)) (cells_of_slots slots) → AllByRecursion (λ x. Before x.0 (cells_of_pages pages)) (with_slot slot.0 s (cells_of_slots slots))
  by_slot None rest = rest
  by_slot (Some value) rest = (before_pages slot.0 pages (subst (λ m. AllByRecursion (λ n. nat_cmp m n ≡ Less) (keys_of pages)) (sym own.0) later) each, rest)

rising_all : (pages : List (ℕ × Page)) → IsStrictlySortedBy nat_cmp (keys_of pages) → AllPages pages → Rising (cells_of_pages pages)
unfolding IsStrictlySortedBy
rising_all [] r each = tt
rising_all (page ∷ pages) r each =
    rising_append (cells_of_slots page.1.entries) (cells_of_pages pages) (rising_slots page.1.entries each.0.rising) (rising_all pages r.1 each.1)
    (all_before page.0 page.1.entries pages each.0.own r.0 each.1)

pub rising_pages : (pages : List (ℕ × Page)) → ArePages pages → Rising (cells_of_pages pages)
rising_pages pages are = rising_all pages are.rising are.each

-- the same as a test
and_T : (a b : Bool) → T a → T b → T (a && b)
and_T true b p q = q
and_T false b p q = p

before_test : {X : Type 0} (p : Position) (es : List (Position × X)) → Before p es → T (below_all position_cmp p es)
before_test p [] h = tt
before_test p (e ∷ es) h = and_T _ _ (subst (λ o. T (is_lt o)) (sym h.0) tt) (before_test p es h.1)

rising_test : {X : Type 0} (es : List (Position × X)) → Rising es → T (is_sorted position_cmp es)
unfolding IsStrictlySortedBy
rising_test [] h = tt
rising_test (e ∷ es) h = and_T _ _ (before_test e.0 es h.0) (rising_test es h.1)

pub entries_kept : (pages : List (ℕ × Page)) → ArePages pages → entries (kept pages) ≡ cells_of_pages pages
entries_kept pages are = entries-from_sorted position_cmp (cells_of_pages pages) (rising_test _ (rising_pages pages are))

-- a look-up among cells
abbrev pub look : {X : Type 0} → Position → List (Position × X) → Option X
look q es = lookup (is_at (position_cmp q)) es

find_look : {X : Type 0} (q : Position) (es : List (Position × X)) → find position_cmp q es ≡ look q es
find_look q [] = refl
find_look q (e ∷ es) = ap (cond (is_at (position_cmp q) e.0) (Some e.1)) (find_look q es)

none_slots : (test : Position → Bool) (slots : List (Position × Slot)) → NonePasses test slots → NonePasses test (cells_of_slots slots)
none_slots test [] h = tt
none_slots test (slot ∷ slots) h = by_slot slot.1 (none_slots test slots h.1) where
  by_slot : (s : Slot) → NonePasses test (cells_of_slots slots) → NonePasses test (with_slot slot.0 s (cells_of_slots slots))
  by_slot None later = later
  by_slot (Some value) later = (h.0, later)

none_append : {X : Type 0} (test : Position → Bool) (xs ys : List (Position × X)) → NonePasses test xs → NonePasses test ys → NonePasses test (xs ++ ys)
none_append test [] ys h k = k
none_append test (x ∷ xs) ys h k = (h.0, none_append test xs ys h.1 k)

-- what a slot holds, where there is one
abbrev pub held : Option Slot → Option CellValue
held None = None
held (Some slot) = slot

look_slots : (q : Position) (slots : List (Position × Slot)) → Rising slots → look q (cells_of_slots slots) ≡ held (slot_in slots q)
look_slots q [] h = refl
look_slots q (slot ∷ slots) h = by_slot slot.1 (is_at (position_cmp q) slot.0) refl (look_slots q slots (sorted_tail position_cmp slot.0 (keys_of slots) h)) where
  later : is_at (position_cmp q) slot.0 ≡ true → look q (cells_of_slots slots) ≡ None
  later e = lookup-none (is_at (position_cmp q)) (cells_of_slots slots) (none_slots (is_at (position_cmp q)) slots
      (none_past_head (eq_by_cmp_equiv position_total) q slot slots (IsDistinct-from_sorted position_cmp (keys_of (slot ∷ slots)) h) e))

  by_slot : (s : Slot) (b : Bool) → is_at (position_cmp q) slot.0 ≡ b → look q (cells_of_slots slots) ≡ held (slot_in slots q)
      → look q (with_slot slot.0 s (cells_of_slots slots)) ≡ held (cond (is_at (position_cmp q) slot.0) (Some s) (slot_in slots q))
  by_slot None true e rest = later e ∙ ap (λ b. held (cond b (Some None) (slot_in slots q))) (sym e)
  by_slot None false e rest = rest ∙ ap (λ b. held (cond b (Some None) (slot_in slots q))) (sym e)
  by_slot (Some value) true e rest =
      ap (λ b. cond b (Some value) (look q (cells_of_slots slots))) e ∙ ap (λ b. held (cond b (Some (Some value)) (slot_in slots q))) (sym e)
  by_slot (Some value) false e rest =
      ap (λ b. cond b (Some value) (look q (cells_of_slots slots))) e ∙ rest ∙ ap (λ b. held (cond b (Some (Some value)) (slot_in slots q))) (sym e)

look_append : {X : Type 0} (q : Position) (xs ys : List (Position × X)) → NonePasses (is_at (position_cmp q)) xs → look q (xs ++ ys) ≡ look q ys
look_append q [] ys h = refl
look_append q (x ∷ xs) ys h = ap (λ b. cond b (Some x.1) (look q (xs ++ ys))) h.0 ∙ look_append q xs ys h.1

look_front : {X : Type 0} (q : Position) (xs ys : List (Position × X)) → look q ys ≡ None → look q (xs ++ ys) ≡ look q xs
look_front q [] ys h = h
look_front q (x ∷ xs) ys h = ap (cond (is_at (position_cmp q) x.0) (Some x.1)) (look_front q xs ys h)

-- no slot of another page is that of a position
pub not_true : (b : Bool) → (b ≡ true → ⊥) → b ≡ false
not_true true h = absurd (h refl)
not_true false h = refl

other_page : (q : Position) (number : ℕ) (slots : List (Position × Slot)) → (page_of q.0 ≡ number → ⊥) → AllOfPage number slots → NonePasses (is_at (position_cmp q)) slots
other_page q number [] apart own = tt
other_page q number (slot ∷ slots) apart own = (
  not_true _ (λ e. apart (ap (λ p. page_of p.0) (at_same q slot.0 e) ∙ own.0)),
  other_page q number slots apart own.2,
)

later_pages : (q : Position) (pages : List (ℕ × Page)) → AllByRecursion (λ n. nat_cmp (page_of q.0) n ≡ Less) (keys_of pages) → AllPages pages → NonePasses (is_at (position_cmp q)) (cells_of_pages pages)
later_pages q [] later each = tt
later_pages q (page ∷ pages) later each =
    none_append (is_at (position_cmp q)) (cells_of_slots page.1.entries) (cells_of_pages pages)
    (none_slots (is_at (position_cmp q)) page.1.entries (other_page q page.0 page.1.entries (λ e. let less : page_of q.0 < page.0 = number_less (page_of q.0) page.0 later.0 in absurd (omega (arith, e, less))) each.0.own))
    (later_pages q pages later.1 each.1)

-- the slot at a position in the page that is found
abbrev pub in_page : Position → Option Page → Option Slot
in_page q o = option_and_then (λ p. slot_in p.entries q) o

look_pages : (q : Position) (pages : List (ℕ × Page)) → IsStrictlySortedBy nat_cmp (keys_of pages) → AllPages pages → look q (cells_of_pages pages) ≡ held (slot_at pages q)
look_pages q [] r each = refl
look_pages q (page ∷ pages) r each = by_page (is_at (nat_cmp (page_of q.0)) page.0) refl (look_pages q pages (sorted_tail nat_cmp page.0 (keys_of pages) r) each.1) where
  by_page : (b : Bool) → is_at (nat_cmp (page_of q.0)) page.0 ≡ b → look q (cells_of_pages pages) ≡ held (slot_at pages q)
      → look q (cells_of_slots page.1.entries ++ cells_of_pages pages) ≡ held (slot_at (page ∷ pages) q)
  by_page true e rest =
      look_front q (cells_of_slots page.1.entries) (cells_of_pages pages) (lookup-none _ _ (later_pages q pages
      (subst (λ m. AllByRecursion (λ n. nat_cmp m n ≡ Less) (keys_of pages)) (sym (at_number _ _ e)) (sorted_head nat_cmp page.0 (keys_of pages) r)) each.1))
      ∙ look_slots q page.1.entries each.0.rising
      ∙ ap (λ b. held (in_page q (cond b (Some page.1) (lookup (is_at (nat_cmp (page_of q.0))) pages)))) (sym e)
  by_page false e rest =
      look_append q (cells_of_slots page.1.entries) (cells_of_pages pages)
      (none_slots _ page.1.entries (other_page q page.0 page.1.entries (λ same. true≢false (sym (number_at _ _ same) ∙ e)) each.0.own))
      ∙ rest
      ∙ ap (λ b. held (in_page q (cond b (Some page.1) (lookup (is_at (nat_cmp (page_of q.0))) pages)))) (sym e)

-- a look-up among the cells of pages goes by the page
pub get_kept : (pages : List (ℕ × Page)) (q : Position) → ArePages pages → get (kept pages) q ≡ held (slot_at pages q)
get_kept pages q are =
    get-from_sorted position_cmp (cells_of_pages pages) q (rising_test _ (rising_pages pages are)) ∙ find_look q (cells_of_pages pages) ∙ look_pages q pages are.rising are.each
