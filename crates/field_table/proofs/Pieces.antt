-- Lists in pieces.
use Rattle.std.proofs.Common.{◌≡◌, ℕ, zero, suc, ◌+◌, ◌-◌, ◌<◌, ◌≤◌, List, [], ◌∷◌, ◌++◌, length, take, drop, refl, sym, ap, ◌∙◌, arith, add-one}
use Rattle.std.specs.Prelude.{slice_range, slice_index_or, slice_set}
use Rattle.std.proofs.lemmas.List.{length-drop, drop-append-le, take-append-le, take_rest, drop_all, get_or-take, get_or-drop, get_or_past}
use Rattle.field_table.specs.Table.{next_start, pieces, RiseTo}

pub length_pieces : {A : Type 0} (items : List A) (starts : List ℕ) → length (pieces items starts) ≡ length starts
length_pieces items [] = refl
length_pieces items (start ∷ starts) = ap suc (length_pieces items starts)

-- the places are not past the end
pub next_below : (end : ℕ) (starts : List ℕ) → RiseTo end starts → next_start starts end ≤ end
next_below end [] rise = omega arith
next_below end (start ∷ starts) rise = let rest = next_below end starts rise.1 in let first = rise.0 in omega (arith, rest, first)

pub rise_later : (end later : ℕ) (starts : List ℕ) → end ≤ later → RiseTo end starts → RiseTo later starts
rise_later end later [] le rise = tt
rise_later end later (start ∷ []) le rise = (omega (arith, le, rise.0), tt)
rise_later end later (start ∷ next ∷ starts) le rise = (rise.0, rise_later end later (next ∷ starts) le rise.1)

-- a place more, at the end
pub rise_more : (end : ℕ) (starts : List ℕ) → RiseTo end starts → RiseTo end (starts ++ end ∷ [])
rise_more end [] rise = (omega arith, tt)
rise_more end (start ∷ []) rise = (rise.0, (omega arith, tt))
rise_more end (start ∷ next ∷ starts) rise = (rise.0, rise_more end (next ∷ starts) rise.1)

-- a range behind which something is added
pub range_before : {A : Type 0} (items more : List A) (start end : ℕ) → start ≤ end → end ≤ length items
    → slice_range (items ++ more) start end ≡ slice_range items start end
range_before items more start end le inside =
    ap (take (end - start)) (drop-append-le start items more (omega arith))
    ∙ take-append-le (end - start) (drop start items) more (omega (arith, length-drop start items))

range_to_end : {A : Type 0} (items : List A) (start : ℕ) → slice_range items start (length items) ≡ drop start items
range_to_end items start = take_rest items start

-- a piece more, which is empty
pub piece_opened : {A : Type 0} (items : List A) (starts : List ℕ) → RiseTo (length items) starts
    → pieces items (starts ++ length items ∷ []) ≡ pieces items starts ++ [] ∷ []
piece_opened items [] rise = ap (λ piece. piece ∷ []) (range_to_end items (length items) ∙ drop_all (length items) items (omega arith))
piece_opened items (start ∷ []) rise = ap (λ rest. slice_range items start (length items) ∷ rest) (piece_opened items [] tt)
piece_opened items (start ∷ next ∷ starts) rise = ap (λ rest. slice_range items start next ∷ rest) (piece_opened items (next ∷ starts) rise.1)

-- the last piece is longer
pub piece_grown : {A : Type 0} (items more : List A) (starts : List ℕ) (i : ℕ) → RiseTo (length items) starts → length starts ≡ i + 1
    → pieces (items ++ more) starts ≡ slice_set (pieces items starts) i (slice_index_or (pieces items starts) i [] ++ more)
piece_grown items more [] i rise is = absurd (omega (arith, is))
piece_grown items more (start ∷ []) zero rise is =
    ap (λ piece. piece ∷ []) (range_to_end (items ++ more) start ∙ drop-append-le start items more rise.0
    ∙ ap (λ piece. piece ++ more) (sym (range_to_end items start)))
piece_grown items more (start ∷ []) (suc i) rise is = absurd (omega (arith, is))
piece_grown items more (start ∷ next ∷ starts) zero rise is = absurd (omega (arith, is))
piece_grown items more (start ∷ next ∷ starts) (suc i) rise is =
    let inside = next_below (length items) (next ∷ starts) rise.1 in
    ap (λ piece. piece ∷ pieces (items ++ more) (next ∷ starts)) (range_before items more start next rise.0 inside)
    ∙ ap (λ rest. slice_range items start next ∷ rest) (piece_grown items more (next ∷ starts) i rise.1 (omega (arith, is)))

-- a piece at its place
pub piece_at : {A : Type 0} (items : List A) (starts : List ℕ) (i : ℕ) → i < length starts
    → slice_index_or (pieces items starts) i [] ≡ slice_range items (slice_index_or starts i 0) (slice_index_or starts (i + 1) (length items))
piece_at items [] i lt = absurd (omega arith)
piece_at items (start ∷ []) zero lt = refl
piece_at items (start ∷ []) (suc i) lt = absurd (omega arith)
piece_at items (start ∷ next ∷ starts) zero lt = refl
piece_at items (start ∷ next ∷ starts) (suc i) lt = rw add-one (rw add-one at (piece_at items (next ∷ starts) i (omega arith)))

-- a place, the one behind it and the end
pub places_rise : (end : ℕ) (starts : List ℕ) (i : ℕ) → RiseTo end starts → i < length starts → slice_index_or starts i 0 ≤ slice_index_or starts (i + 1) end
places_rise end [] i rise lt = absurd (omega arith)
places_rise end (start ∷ []) zero rise lt = rise.0
places_rise end (start ∷ []) (suc i) rise lt = absurd (omega arith)
places_rise end (start ∷ next ∷ starts) zero rise lt = rise.0
places_rise end (start ∷ next ∷ starts) (suc i) rise lt = rw add-one (rw add-one at (places_rise end (next ∷ starts) i rise.1 (omega arith)))

pub place_below : (end : ℕ) (starts : List ℕ) (i : ℕ) → RiseTo end starts → slice_index_or starts i end ≤ end
place_below end [] i rise = omega arith
place_below end (start ∷ starts) zero rise = next_below end (start ∷ starts) rise
place_below end (start ∷ starts) (suc i) rise = place_below end starts i rise.1

-- an item of a range
pub range_item : {A : Type 0} (items : List A) (start end i : ℕ) (d : A) → i < end - start
    → slice_index_or (slice_range items start end) i d ≡ slice_index_or items (start + i) d
range_item items start end i d lt = get_or-take (end - start) (drop start items) i d lt ∙ get_or-drop start items i d

pub range_length : {A : Type 0} (items : List A) (start end : ℕ) → end ≤ length items → length (slice_range items start end) ≡ end - start
range_length items start end inside = grind (arith, Rattle.std.proofs.lemmas.List.length-take (end - start) (drop start items), length-drop start items)

-- a piece that isn't there, and the length of one that is
pub no_piece : {A : Type 0} (items : List A) (starts : List ℕ) (i : ℕ) → length starts ≤ i → slice_index_or (pieces items starts) i [] ≡ []
no_piece items starts i le = get_or_past (pieces items starts) i [] (omega (arith, le, length_pieces items starts))

-- how many items a piece has
pub piece_length : {A : Type 0} (items : List A) (starts : List ℕ) (i first end : ℕ) → RiseTo (length items) starts → i < length starts
    → first ≡ slice_index_or starts i 0 → end ≡ slice_index_or starts (i + 1) (length items) → end - first ≡ length (slice_index_or (pieces items starts) i [])
piece_length items starts i first end rise lt begins ends =
    let inside : end ≤ length items = rw ends (place_below (length items) starts (i + 1) rise) in
    sym (range_length items first end inside)
    ∙ ap (λ k. length (slice_range items k end)) begins
    ∙ ap (λ k. length (slice_range items (slice_index_or starts i 0) k)) ends
    ∙ ap length (sym (piece_at items starts i lt))

-- an item of a piece
pub piece_item : {A : Type 0} (items : List A) (starts : List ℕ) (i j first end : ℕ) (d : A) → i < length starts
    → first ≡ slice_index_or starts i 0 → end ≡ slice_index_or starts (i + 1) (length items) → j < end - first
    → slice_index_or items (first + j) d ≡ slice_index_or (slice_index_or (pieces items starts) i []) j d
piece_item items starts i j first end d lt begins ends inside =
    sym (range_item items first end j d inside)
    ∙ ap (λ k. slice_index_or (slice_range items k end) j d) begins
    ∙ ap (λ k. slice_index_or (slice_range items (slice_index_or starts i 0) k) j d) ends
    ∙ ap (λ piece. slice_index_or piece j d) (sym (piece_at items starts i lt))
