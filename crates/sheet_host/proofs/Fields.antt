-- Rows of fields, and the sheets that keep them.
use Rattle.std.proofs.Common.{◌≡◌, ℕ, zero, suc, ◌-◌, ◌<◌, ◌≤◌, List, [], ◌∷◌, ◌++◌, Result, Ok, Err, length, sym, ap, subst, ◌∙◌, arith, lit≤}
use Rattle.std.specs.Prelude.{slice_index_or, slice_set, OnOk, OnErr}
use Rattle.std.specs.List.Sorted.{IsStrictlySortedBy}
use Rattle.std.specs.FinMap.{len, empty_of_len, len-entries}
use Rattle.std.proofs.lemmas.List.{length-append, length-set}
use Rattle.sheet_host.specs.Pages.{Page, ArePages, IsKept, AllShort, kept}
use Rattle.sheet_host.specs.Sheets.{SheetContent, Cells, no_content}
use Rattle.sheet_host.proofs.Kept.{entries_kept}

abbrev Rows : Type 0
Rows = List (List (List ℕ))

-- each row is short
pub short_row : (rows : Rows) (i : ℕ) → AllShort rows → length (slice_index_or rows i []) ≤ 16384
short_row [] i h = lit≤ tt
short_row (row ∷ rows) zero h = h.0
short_row (row ∷ rows) (suc i) h = short_row rows i h.1

short_push : (rows : Rows) → AllShort rows → AllShort (rows ++ [] ∷ [])
short_push [] h = (lit≤ tt, tt)
short_push (first ∷ rows) h = (h.0, short_push rows h.1)

short_set : (rows : Rows) (i : ℕ) (row : List (List ℕ)) → AllShort rows → length row ≤ 16384 → AllShort (slice_set rows i row)
short_set [] i row h few = tt
short_set (first ∷ rows) zero row h few = (few, h.1)
short_set (first ∷ rows) (suc i) row h few = (h.0, short_set rows i row h.1 few)

-- the rows as they were, or with a row more
pub kept_row : {T E : Type 0} (result : Result T E) (rows rows' : Rows) (pages : List (ℕ × Page)) (written : ℕ) → IsKept rows pages written
    → OnOk result (rows' ≡ rows ++ [] ∷ []) → OnErr result (rows' ≡ rows) → length rows < 1048576 → IsKept rows' pages written
kept_row (Ok x) rows rows' pages written was is same room = subst (λ r. IsKept r pages written) (sym is) (record {
  few = push_few rows room;
  short = short_push rows was.short;
  paged = was.paged;
  count = was.count;
}) where
  push_few : (rows : Rows) → length rows < 1048576 → length (rows ++ [] ∷ []) ≤ 1048576
  push_few rows room = omega (arith, length-append rows ([] ∷ []))
kept_row (Err e) rows rows' pages written was is same room = subst (λ r. IsKept r pages written) (sym same) was

-- the rows as they were, or with a field more in the last row
pub kept_field : {T E : Type 0} (result : Result T E) (rows rows' : Rows) (text : List ℕ) (pages : List (ℕ × Page)) (written : ℕ) → IsKept rows pages written
    → OnOk result (rows' ≡ slice_set rows (length rows - 1) (slice_index_or rows (length rows - 1) [] ++ text ∷ [])) → OnErr result (rows' ≡ rows)
    → length (slice_index_or rows (length rows - 1) []) < 16384 → IsKept rows' pages written
kept_field (Ok x) rows rows' text pages written was is same room = subst (λ r. IsKept r pages written) (sym is) (record {
  few = subst (λ n. n ≤ 1048576) (sym (length-set rows (length rows - 1) (slice_index_or rows (length rows - 1) [] ++ text ∷ []))) was.few;
  short = short_set rows (length rows - 1) (slice_index_or rows (length rows - 1) [] ++ text ∷ []) was.short (longer (slice_index_or rows (length rows - 1) []) room);
  paged = was.paged;
  count = was.count;
}) where
  longer : (fields : List (List ℕ)) → length fields < 16384 → length (fields ++ text ∷ []) ≤ 16384
  longer fields room = omega (arith, length-append fields (text ∷ []))
kept_field (Err e) rows rows' text pages written was is same room = subst (λ r. IsKept r pages written) (sym same) was

-- a sheet without rows and pages
abbrev pub content : Rows → Cells → SheetContent
content rows cells = record { rows = rows; cells = cells }

no_pages : ArePages []
unfolding IsStrictlySortedBy
no_pages = record { rising = tt; each = tt }

len_none : len (kept []) ≡ 0
len_none = len-entries (kept []) ∙ ap length (entries_kept [] no_pages)

pub kept_none : (rows : Rows) (pages : List (ℕ × Page)) → rows ≡ [] → pages ≡ [] → IsKept rows pages 0
kept_none rows pages no_rows none = subst (λ r. IsKept r pages 0) (sym no_rows) (subst (λ p. IsKept [] p 0) (sym none) (record {
  few = lit≤ tt;
  short = tt;
  paged = no_pages;
  count = sym len_none;
}))

pub view_none : (rows : Rows) (pages : List (ℕ × Page)) → rows ≡ [] → pages ≡ [] → content rows (kept pages) ≡ no_content
view_none rows pages no_rows none =
    ap (λ r. content r (kept pages)) no_rows ∙ ap (λ p. content [] (kept p)) none ∙ ap (content []) (empty_of_len (kept []) len_none)
