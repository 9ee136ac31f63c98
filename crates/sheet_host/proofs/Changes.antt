-- What taking room and writing a cell leave of the pages.
use Rattle.std.proofs.Common.{◌≡◌, ℕ, Bool, true, false, cond, List, [], ◌∷◌, ◌++◌, Option, Some, None, Result, Ok, Err, refl, sym, ap, subst, ◌∙◌}
use Rattle.std.specs.Prelude.{IfOk, IsTrue, OnErr, OnOk, is_none, is_some, unwrap_or}
use Rattle.std.specs.Option.{option_and_then}
use Rattle.std.specs.List.Sorted.{IsStrictlySortedBy}
use Rattle.std.specs.Map.{keys_of, lookup, set_value}
use Rattle.std.specs.BTreeMap.{is_at, insert_entry}
use Rattle.std.specs.FinMap.{get, insert, get-insert, same_map}
use Rattle.std.specs.Ordering.{is_eq, nat_cmp, match_ordering, eq_by_cmp}
use Rattle.std.specs.Cmp.{eq_by_cmp_equiv}
use Rattle.std.specs.declared.cmp.Ordering.{Ordering}
use Rattle.std.specs.declared.cmp.Ordering.TheVariants.{Less, Equal, Greater}
use mathlib.Core.Bool.{true≢false}
use Rattle.sheet_host.specs.declared.cell.CellValue.{CellValue}
use Rattle.sheet_host.specs.OneCell.{is_slot_unwritten}
use Rattle.sheet_host.specs.Pages.{Slot, Page, page_of, with_slot, cells_of_slots, cells_of_pages, kept, slot_in, slot_at, slots_with, HasSlotIn, HasSlot, AllOfPage, IsPage, AllPages, ArePages}
use Rattle.sheet_host.specs.Sheets.{Position, position_cmp}
use Rattle.sheet_host.specs.Size.{IsInside}
use Rattle.std.proofs.lemmas.Map.{lookup-set_value, keys-set_value}
use Rattle.std.specs.FinMap.{from_sorted}
use Rattle.sheet_host.proofs.Kept.{held, in_page, get_kept, not_true}
use Rattle.sheet_host.proofs.Positions.{position_total, same_position, at_same, at_number, number_at, number_equal}

-- the slots of a page, with one written or one more
pub own_set : (number : ℕ) (test : Position → Bool) (slots : List (Position × Slot)) (s : Slot) → AllOfPage number slots → AllOfPage number (set_value test slots s)
own_set number test [] s h = tt
own_set number test (slot ∷ slots) s h = by_test (test slot.0) (own_set number test slots s h.2) where
  by_test : (b : Bool) → AllOfPage number (set_value test slots s) → AllOfPage number (cond b ((slot.0, s) ∷ slots) (slot ∷ set_value test slots s))
  by_test true rest = (h.0, h.1, h.2)
  by_test false rest = (h.0, h.1, rest)

pub own_insert : (number : ℕ) (p : Position) (slots : List (Position × Slot)) (s : Slot) → page_of p.0 ≡ number → IsInside p.0 p.1
    → AllOfPage number slots → AllOfPage number (insert_entry position_cmp slots p s)
own_insert number p [] s is inside h = (is, inside, tt)
own_insert number p (slot ∷ slots) s is inside h = by_order (position_cmp p slot.0) (own_insert number p slots s is inside h.2) where
  by_order : (o : Ordering) → AllOfPage number (insert_entry position_cmp slots p s) → AllOfPage number (match_ordering o ((p, s) ∷ slot ∷ slots) ((slot.0, s) ∷ slots) (slot ∷ insert_entry position_cmp slots p s))
  by_order Less rest = (is, inside, h)
  by_order Equal rest = (h.0, h.1, h.2)
  by_order Greater rest = (h.0, h.1, rest)

-- a new slot holds no cell
pub cells_insert : (p : Position) (slots : List (Position × Slot)) → lookup (is_at (position_cmp p)) slots ≡ None
    → cells_of_slots (insert_entry position_cmp slots p None) ≡ cells_of_slots slots
cells_insert p [] none = refl
cells_insert p (slot ∷ slots) none = by_order (position_cmp p slot.0) refl (cells_insert p slots) where
  by_order : (o : Ordering) → position_cmp p slot.0 ≡ o → (lookup (is_at (position_cmp p)) slots ≡ None → cells_of_slots (insert_entry position_cmp slots p None) ≡ cells_of_slots slots)
      → cells_of_slots (match_ordering o ((p, None) ∷ slot ∷ slots) ((slot.0, None) ∷ slots) (slot ∷ insert_entry position_cmp slots p None)) ≡ cells_of_slots (slot ∷ slots)
  by_order Less e rest = refl
  by_order Equal e rest = absurd (true≢false (ap is_some (ap (λ o. cond (is_eq o) (Some slot.1) (lookup (is_at (position_cmp p)) slots)) (sym e) ∙ none)))
  by_order Greater e rest =
      ap (with_slot slot.0 slot.1) (rest (ap (λ o. cond (is_eq o) (Some slot.1) (lookup (is_at (position_cmp p)) slots)) (sym e) ∙ none))

-- the pages, with one changed or one more
pub pages_set : (n : ℕ) (pages : List (ℕ × Page)) (page : Page) → AllPages pages → IsPage n page.entries → AllPages (set_value (is_at (nat_cmp n)) pages page)
pages_set n [] page h is = tt
pages_set n (e ∷ es) page h is = by_test (is_at (nat_cmp n) e.0) refl (pages_set n es page h.1 is) where
  by_test : (b : Bool) → is_at (nat_cmp n) e.0 ≡ b → AllPages (set_value (is_at (nat_cmp n)) es page) → AllPages (cond b ((e.0, page) ∷ es) (e ∷ set_value (is_at (nat_cmp n)) es page))
  by_test true at rest = (subst (λ m. IsPage m page.entries) (at_number n e.0 at) is, h.1)
  by_test false at rest = (h.0, rest)

pub pages_insert : (n : ℕ) (pages : List (ℕ × Page)) (page : Page) → AllPages pages → IsPage n page.entries → AllPages (insert_entry nat_cmp pages n page)
pages_insert n [] page h is = (is, tt)
pages_insert n (e ∷ es) page h is = by_order (nat_cmp n e.0) refl (pages_insert n es page h.1 is) where
  by_order : (o : Ordering) → nat_cmp n e.0 ≡ o → AllPages (insert_entry nat_cmp es n page) → AllPages (match_ordering o ((n, page) ∷ e ∷ es) ((e.0, page) ∷ es) (e ∷ insert_entry nat_cmp es n page))
  by_order Less at rest = (is, h)
  by_order Equal at rest = (subst (λ m. IsPage m page.entries) (number_equal n e.0 at) is, h.1)
  by_order Greater at rest = (h.0, rest)

pub cells_set : (n : ℕ) (pages : List (ℕ × Page)) (old new : Page) → lookup (is_at (nat_cmp n)) pages ≡ Some old → cells_of_slots new.entries ≡ cells_of_slots old.entries
    → cells_of_pages (set_value (is_at (nat_cmp n)) pages new) ≡ cells_of_pages pages
cells_set n [] old new found same = refl
cells_set n (e ∷ es) old new found same = by_test (is_at (nat_cmp n) e.0) refl (λ later. cells_set n es old new later same) where
  by_test : (b : Bool) → is_at (nat_cmp n) e.0 ≡ b → (lookup (is_at (nat_cmp n)) es ≡ Some old → cells_of_pages (set_value (is_at (nat_cmp n)) es new) ≡ cells_of_pages es)
      → cells_of_pages (cond b ((e.0, new) ∷ es) (e ∷ set_value (is_at (nat_cmp n)) es new)) ≡ cells_of_pages (e ∷ es)
  by_test true at rest =
      let here : Some e.1 ≡ Some old = ap (λ b. cond b (Some e.1) (lookup (is_at (nat_cmp n)) es)) (sym at) ∙ found in
      ap (λ cells. cells ++ cells_of_pages es) (same ∙ ap (λ o. cells_of_slots (unwrap_or o old).entries) (sym here))
  by_test false at rest = ap (λ cells. cells_of_slots e.1.entries ++ cells) (rest (ap (λ b. cond b (Some e.1) (lookup (is_at (nat_cmp n)) es)) (sym at) ∙ found))

pub cells_page : (n : ℕ) (pages : List (ℕ × Page)) (new : Page) → lookup (is_at (nat_cmp n)) pages ≡ None → cells_of_slots new.entries ≡ []
    → cells_of_pages (insert_entry nat_cmp pages n new) ≡ cells_of_pages pages
cells_page n [] new none empty = ap (λ cells. cells ++ []) empty
cells_page n (e ∷ es) new none empty = by_order (nat_cmp n e.0) refl (λ later. cells_page n es new later empty) where
  by_order : (o : Ordering) → nat_cmp n e.0 ≡ o → (lookup (is_at (nat_cmp n)) es ≡ None → cells_of_pages (insert_entry nat_cmp es n new) ≡ cells_of_pages es)
      → cells_of_pages (match_ordering o ((n, new) ∷ e ∷ es) ((e.0, new) ∷ es) (e ∷ insert_entry nat_cmp es n new)) ≡ cells_of_pages (e ∷ es)
  by_order Less at rest = ap (λ cells. cells ++ cells_of_pages (e ∷ es)) empty
  by_order Equal at rest = absurd (true≢false (ap is_some (ap (λ o. cond (is_eq o) (Some e.1) (lookup (is_at (nat_cmp n)) es)) (sym at) ∙ none)))
  by_order Greater at rest =
      ap (λ cells. cells_of_slots e.1.entries ++ cells) (rest (ap (λ o. cond (is_eq o) (Some e.1) (lookup (is_at (nat_cmp n)) es)) (sym at) ∙ none))

-- the pages have this page under its number, and else what they had
abbrev pub PutsPage : List (ℕ × Page) → List (ℕ × Page) → ℕ → Page → Type 0
PutsPage old new n page = (m : ℕ) → lookup (is_at (nat_cmp m)) new ≡ cond (is_at (nat_cmp n) m) (Some page) (lookup (is_at (nat_cmp m)) old)

slot_put : (old new : List (ℕ × Page)) (n : ℕ) (page : Page) → PutsPage old new n page → (q : Position)
    → slot_at new q ≡ cond (is_at (nat_cmp n) (page_of q.0)) (slot_in page.entries q) (slot_at old q)
slot_put old new n page puts q = ap (in_page q) (puts (page_of q.0)) ∙ by_test (is_at (nat_cmp n) (page_of q.0)) where
  by_test : (b : Bool) → in_page q (cond b (Some page) (lookup (is_at (nat_cmp (page_of q.0))) old)) ≡ cond b (slot_in page.entries q) (slot_at old q)
  by_test true = refl
  by_test false = refl

pub room_put : (old new : List (ℕ × Page)) (n : ℕ) (page : Page) → PutsPage old new n page → (p : Position) → n ≡ page_of p.0 → HasSlotIn page.entries p → HasSlot new p
room_put old new n page puts p is has =
    subst (λ o. IsTrue (is_some o)) (sym (slot_put old new n page puts p ∙ ap (λ b. cond b (slot_in page.entries p) (slot_at old p)) (number_at n (page_of p.0) is))) has

pub keeps_put : (old new : List (ℕ × Page)) (n : ℕ) (page : Page) → PutsPage old new n page
    → ((q : Position) → n ≡ page_of q.0 → HasSlot old q → HasSlotIn page.entries q) → (q : Position) → HasSlot old q → HasSlot new q
keeps_put old new n page puts keeps q has = subst (λ o. IsTrue (is_some o)) (sym (slot_put old new n page puts q)) (by_test (is_at (nat_cmp n) (page_of q.0)) refl) where
  by_test : (b : Bool) → is_at (nat_cmp n) (page_of q.0) ≡ b → IsTrue (is_some (cond b (slot_in page.entries q) (slot_at old q)))
  by_test true at = keeps q (at_number n (page_of q.0) at) has
  by_test false at = has

-- the slot of a position is that in the page which is found
pub slot_found : (pages : List (ℕ × Page)) (page : Option Page) (n : ℕ) (q : Position) → lookup (is_at (nat_cmp n)) pages ≡ page → n ≡ page_of q.0 → slot_at pages q ≡ option_and_then (λ p. slot_in p.entries q) page
slot_found pages page n q found is = ap (λ m. option_and_then (λ p. slot_in p.entries q) (lookup (is_at (nat_cmp m)) pages)) (sym is) ∙ ap (λ o. option_and_then (λ p. slot_in p.entries q) o) found

held_cond : (b : Bool) (value : CellValue) (o : Option Slot) → held (cond b (Some (Some value)) o) ≡ cond b (Some value) (held o)
held_cond true value o = refl
held_cond false value o = refl

-- a page with a cell written: that cell was written, and no other
pub kept_written : (old new : List (ℕ × Page)) (n : ℕ) (after : Page) (p : Position) (value : CellValue) → ArePages old → ArePages new → n ≡ page_of p.0 → PutsPage old new n after
    → ((q : Position) → n ≡ page_of q.0 → slot_in after.entries q ≡ cond (is_at (position_cmp p) q) (Some (Some value)) (slot_at old q))
    → kept new ≡ insert (kept old) p value
kept_written old new n after p value are are' is puts writes = same_map position_total same_position (kept new) (insert (kept old) p value) by_position where
  turned : (q : Position) → is_at (position_cmp p) q ≡ eq_by_cmp position_cmp q p
  turned q = (eq_by_cmp_equiv position_total).symm p q

  by_page : (q : Position) (b : Bool) → is_at (nat_cmp n) (page_of q.0) ≡ b
      → held (cond b (slot_in after.entries q) (slot_at old q)) ≡ cond (eq_by_cmp position_cmp q p) (Some value) (held (slot_at old q))
  by_page q true at =
      ap held (writes q (at_number n (page_of q.0) at)) ∙ held_cond (is_at (position_cmp p) q) value (slot_at old q)
      ∙ ap (λ b. cond b (Some value) (held (slot_at old q))) (turned q)
  by_page q false at =
      ap (λ b. cond b (Some value) (held (slot_at old q)))
      (sym (not_true (eq_by_cmp position_cmp q p) (λ e. true≢false (sym (number_at n (page_of q.0) (is ∙ ap (λ r. page_of r.0) (sym (at_same q p e)))) ∙ at))))

  by_position : (q : Position) → get (kept new) q ≡ get (insert (kept old) p value) q
  by_position q =
      get_kept new q are' ∙ ap held (slot_put old new n after puts q) ∙ by_page q (is_at (nat_cmp n) (page_of q.0)) refl
      ∙ ap (cond (eq_by_cmp position_cmp q p) (Some value)) (sym (get_kept old q are)) ∙ sym (get-insert position_total (kept old) p value q)

-- the same, where the page was there
pub kept_put : (old new : List (ℕ × Page)) (n : ℕ) (before after : Page) (p : Position) (value : CellValue)
    → ArePages old → ArePages new → n ≡ page_of p.0 → lookup (is_at (nat_cmp n)) old ≡ Some before → PutsPage old new n after
    → ((q : Position) → slot_in after.entries q ≡ cond (is_at (position_cmp p) q) (Some (Some value)) (slot_in before.entries q))
    → kept new ≡ insert (kept old) p value
kept_put old new n before after p value are are' is found puts writes =
    kept_written old new n after p value are are' is puts
    (λ q same. writes q ∙ ap (λ o. cond (is_at (position_cmp p) q) (Some (Some value)) o) (sym (slot_found old (Some before) n q found same)))

-- and where there was none
pub kept_new : (old new : List (ℕ × Page)) (n : ℕ) (before : List (Position × Slot)) (after : Page) (p : Position) (value : CellValue)
    → ArePages old → ArePages new → n ≡ page_of p.0 → lookup (is_at (nat_cmp n)) old ≡ None → before ≡ [] → PutsPage old new n after
    → ((q : Position) → slot_in after.entries q ≡ cond (is_at (position_cmp p) q) (Some (Some value)) (slot_in before q))
    → kept new ≡ insert (kept old) p value
kept_new old new n before after p value are are' is none empty puts writes =
    kept_written old new n after p value are are' is puts
    (λ q same. writes q ∙ ap (λ o. cond (is_at (position_cmp p) q) (Some (Some value)) o)
    (ap (λ slots. slot_in slots q) empty ∙ sym (slot_found old None n q none same)))

-- whether nothing was written at a position
unwritten_held : (o : Option Slot) → is_slot_unwritten o ≡ is_none (held o)
unwritten_held None = refl
unwritten_held (Some None) = refl
unwritten_held (Some (Some value)) = refl

pub added_found : (pages : List (ℕ × Page)) (page : Page) (n : ℕ) (p : Position) → ArePages pages → lookup (is_at (nat_cmp n)) pages ≡ Some page → n ≡ page_of p.0
    → is_slot_unwritten (slot_in page.entries p) ≡ is_none (get (kept pages) p)
added_found pages page n p are found is =
    ap is_slot_unwritten (sym (slot_found pages (Some page) n p found is)) ∙ unwritten_held (slot_at pages p) ∙ ap is_none (sym (get_kept pages p are))

pub added_new : (pages : List (ℕ × Page)) (slots : List (Position × Slot)) (n : ℕ) (p : Position) → ArePages pages → lookup (is_at (nat_cmp n)) pages ≡ None → n ≡ page_of p.0 → slots ≡ []
    → is_slot_unwritten (slot_in slots p) ≡ is_none (get (kept pages) p)
added_new pages slots n p are none is empty =
    ap (λ s. is_slot_unwritten (slot_in s p)) empty ∙ ap is_slot_unwritten (sym (slot_found pages None n p none is)) ∙ unwritten_held (slot_at pages p)
    ∙ ap is_none (sym (get_kept pages p are))

-- what holds of a result holds of it in other words
pub on_ok : {A E : Type 0} (P Q : Type 0) (r : Result A E) → OnOk r P → (P → Q) → OnOk r Q
on_ok P Q (Ok x) h means = means h
on_ok P Q (Err e) h means = h

pub on_err : {A E : Type 0} (P Q : Type 0) (r : Result A E) → OnErr r P → (P → Q) → OnErr r Q
on_err P Q (Ok x) h means = h
on_err P Q (Err e) h means = means h

pub if_ok : {A E : Type 0} (P Q : A → Type 0) (r : Result A E) → ((x : A) → P x → Q x) → IfOk r P → IfOk r Q
if_ok P Q (Ok x) means h = means x h
if_ok P Q (Err e) means h = h

-- a page that is found has slots of its own rows
pub found_page : (n : ℕ) (pages : List (ℕ × Page)) (page : Page) → AllPages pages → lookup (is_at (nat_cmp n)) pages ≡ Some page → IsPage n page.entries
found_page n [] page h found = absurd (true≢false (ap is_some (sym found)))
found_page n (e ∷ es) page h found = by_test (is_at (nat_cmp n) e.0) refl (found_page n es page h.1) where
  by_test : (b : Bool) → is_at (nat_cmp n) e.0 ≡ b → (lookup (is_at (nat_cmp n)) es ≡ Some page → IsPage n page.entries) → IsPage n page.entries
  by_test true at rest =
      let here : Some e.1 ≡ Some page = ap (λ b. cond b (Some e.1) (lookup (is_at (nat_cmp n)) es)) (sym at) ∙ found in
      subst (λ m. IsPage m page.entries) (sym (at_number n e.0 at)) (subst (λ (p : Page). IsPage e.0 p.entries) (ap (λ o. unwrap_or o page) here) h.0)
  by_test false at rest = rest (ap (λ b. cond b (Some e.1) (lookup (is_at (nat_cmp n)) es)) (sym at) ∙ found)

pub are_set : (n : ℕ) (old new : List (ℕ × Page)) (page : Page) → ArePages old → new ≡ set_value (is_at (nat_cmp n)) old page → IsPage n page.entries
    → IsStrictlySortedBy nat_cmp (keys_of new) → ArePages new
are_set n old new page are is page_is sorted = record { rising = sorted; each = subst AllPages (sym is) (pages_set n old page are.each page_is) }

pub are_insert : (n : ℕ) (old mid new : List (ℕ × Page)) (page : Page) → ArePages old → mid ≡ old → new ≡ insert_entry nat_cmp mid n page → IsPage n page.entries
    → IsStrictlySortedBy nat_cmp (keys_of new) → ArePages new
are_insert n old mid new page are same is page_is sorted =
    record { rising = sorted; each = subst AllPages (sym is) (pages_insert n mid page (subst AllPages (sym same) are.each) page_is) }

pub kept_set : (n : ℕ) (old new : List (ℕ × Page)) (before after : Page) → new ≡ set_value (is_at (nat_cmp n)) old after → lookup (is_at (nat_cmp n)) old ≡ Some before
    → cells_of_slots after.entries ≡ cells_of_slots before.entries → kept new ≡ kept old
kept_set n old new before after is found same = ap from_sorted (ap cells_of_pages is ∙ cells_set n old before after found same)

pub kept_insert : (n : ℕ) (old mid new : List (ℕ × Page)) (page : Page) → mid ≡ old → new ≡ insert_entry nat_cmp mid n page → lookup (is_at (nat_cmp n)) old ≡ None
    → cells_of_slots page.entries ≡ [] → kept new ≡ kept old
kept_insert n old mid new page same is none empty =
    ap from_sorted (ap cells_of_pages (is ∙ ap (λ es. insert_entry nat_cmp es n page) same) ∙ cells_page n old page none empty)

pub new_page : (n : ℕ) (slots : List (Position × Slot)) → slots ≡ [] → IsStrictlySortedBy position_cmp (keys_of slots) → IsPage n slots
new_page n slots empty sorted = record { rising = sorted; own = subst (AllOfPage n) (sym empty) tt }

pub page_with : (n : ℕ) (p : Position) (value : CellValue) (slots slots' : List (Position × Slot)) → slots' ≡ slots_with p value slots → IsPage n slots → IsPage n slots'
page_with n p value slots slots' is was = subst (IsPage n) (sym is) (record {
  rising = subst (IsStrictlySortedBy position_cmp) (sym (keys-set_value (is_at (position_cmp p)) slots (Some value))) was.rising;
  own = own_set n (is_at (position_cmp p)) slots (Some value) was.own;
})

-- a position without a page has no slot
pub no_slot : (pages : List (ℕ × Page)) (n : ℕ) (q : Position) → lookup (is_at (nat_cmp n)) pages ≡ None → n ≡ page_of q.0 → HasSlot pages q → ⊥
no_slot pages n q none is has = true≢false (sym has ∙ ap is_some (slot_found pages None n q none is))

-- a position with a slot has one in its page
pub has_found : (pages : List (ℕ × Page)) (page : Page) (n : ℕ) (q : Position) → lookup (is_at (nat_cmp n)) pages ≡ Some page → n ≡ page_of q.0 → HasSlot pages q → HasSlotIn page.entries q
has_found pages page n q found is has = ap is_some (sym (slot_found pages (Some page) n q found is)) ∙ has

-- writing a slot that is there
pub slot_written : (p : Position) (value : CellValue) (slots slots' : List (Position × Slot)) → slots' ≡ slots_with p value slots → HasSlotIn slots p → (q : Position)
    → slot_in slots' q ≡ cond (is_at (position_cmp p) q) (Some (Some value)) (slot_in slots q)
slot_written p value slots slots' is has q =
    ap (λ es. slot_in es q) is
    ∙ lookup-set_value (eq_by_cmp_equiv position_total) (is_at (position_cmp p)) (λ x y e. ap (λ r. is_at (position_cmp r) y) (at_same p x e)) q (Some value) slots has

pub some_cond : {X : Type 0} (b : Bool) (x : X) (o : Option X) → IsTrue (is_some o) → IsTrue (is_some (cond b (Some x) o))
some_cond true x o h = refl
some_cond false x o h = h

pub set_absent : {X : Type 0} (p : Position) (es : List (Position × X)) (x : X) → lookup (is_at (position_cmp p)) es ≡ None → set_value (is_at (position_cmp p)) es x ≡ es
set_absent p [] x none = refl
set_absent p (e ∷ es) x none = by_test (is_at (position_cmp p) e.0) refl (set_absent p es x) where
  by_test : (b : Bool) → is_at (position_cmp p) e.0 ≡ b → (lookup (is_at (position_cmp p)) es ≡ None → set_value (is_at (position_cmp p)) es x ≡ es) → cond b ((e.0, x) ∷ es) (e ∷ set_value (is_at (position_cmp p)) es x) ≡ e ∷ es
  by_test true at rest = absurd (true≢false (ap is_some (ap (λ b. cond b (Some e.1) (lookup (is_at (position_cmp p)) es)) (sym at) ∙ none)))
  by_test false at rest = ap (λ t. e ∷ t) (rest (ap (λ b. cond b (Some e.1) (lookup (is_at (position_cmp p)) es)) (sym at) ∙ none))

pub none_from : {X : Type 0} (o : Option X) (b : Bool) → b ≡ is_some o → b ≡ false → o ≡ None
none_from None b e f = refl
none_from (Some x) b e f = absurd (true≢false (sym e ∙ f))
