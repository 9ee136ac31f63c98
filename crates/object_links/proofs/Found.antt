-- The stored links that follow a row of changes are those that looking finds.
use Rattle.std.proofs.Common.{◌≡◌, ℕ, zero, suc, ◌+◌, Bool, true, false, not, cond, List, [], ◌∷◌, ◌++◌, map, Option, Some, None, refl, sym, ap, ◌∙◌, subst, arith}
use Rattle.std.specs.Prelude.{◌==◌, ◌||◌, if◌then◌else◌, slice_index_or, slice_set}
use Rattle.std.proofs.lemmas.Bool.{eqb-true, eq-eqb}
use Rattle.vba_values.specs.declared.object.ObjRef.TheVariants.{Heap}
use Rattle.vba_values.specs.Val.{empty}
use Rattle.vba_events.specs.declared.linked.Linked.{Linked}
use Rattle.vba_events.specs.Links.{Linking, unlinked, is_of_field}
use Rattle.vba_events.specs.Order.{in_order}
use Rattle.vba_events.proofs.Order.{filter_order, filter_append}
use Rattle.sheet_host.specs.Books.{Sheets}
use Rattle.bound_project.specs.Project.{Declarations, Project, class_at}
use Rattle.vba_meaning.specs.Memory.{Memory, Object, no_object, object_at}
use Rattle.vba_meaning.specs.Effects.{is_collection, is_with_events, renumbered}
use Rattle.vba_meaning.specs.Events.{source_of, links_in, links_from, links}
use Rattle.vba_meaning.specs.Objects.{new_instance}
use Rattle.vba_meaning.specs.Meaning.{meaning}
use Rattle.memory_changes.specs.Among.{is_among}
use Rattle.memory_changes.specs.Changes.{Change, aside, takes, connects, disconnects, has_items, makes, has_told, goes, lends, lends_none, lends_again, raise_ends, enters, empties, leaves, keeps, drops, Row, none, first}
use Rattle.memory_changes.proofs.Steps.{meant_row}
use Rattle.object_links.specs.Stored.{without_sink, object_id, linked_after, linked_along, linking, Once, NamesOnce, AreFound, AreMeant}
use Rattle.object_links.proofs.Lists.{at_number, own_links, AllLinks, apart_test, own_sinks, from_sinks, set_same, field_set, number_off, order_sourced}
use Rattle.object_links.proofs.Connects.{OnceIn, IsBelow, NumbersBelow, new_link, Fits, AllFit, number_on}

-- ---- an object goes

all_gone : (n : ℕ) (ls : List Linked) → AllLinks (λ l. l.sink.0 ≡ n) ls → without_sink n ls ≡ []
all_gone n [] h = refl
all_gone n (l ∷ ls) h = ap (λ b. cond (not b) (l ∷ without_sink n ls) (without_sink n ls)) (eq-eqb l.sink.0 n h.0) ∙ all_gone n ls h.1

none_gone : (n : ℕ) (ls : List Linked) → AllLinks (λ l. l.sink.0 ≡ n → ⊥) ls → without_sink n ls ≡ ls
none_gone n [] h = refl
none_gone n (l ∷ ls) h = ap (λ b. cond (not b) (l ∷ without_sink n ls) (without_sink n ls)) (apart_test l.sink.0 n h.0) ∙ ap (λ ks. l ∷ ks) (none_gone n ls h.1)

sink_append : (n : ℕ) (ls ks : List Linked) → without_sink n (ls ++ ks) ≡ without_sink n ls ++ without_sink n ks
sink_append n ls ks = filter_append (λ l. not (l.sink.0 == n)) ls ks

elsewhere : (k n : ℕ) (ls : List Linked) → (k ≡ n → ⊥) → AllLinks (λ l. l.sink.0 ≡ k) ls → AllLinks (λ l. l.sink.0 ≡ n → ⊥) ls
elsewhere k n [] h g = tt
elsewhere k n (l ∷ ls) h g = (λ e. h (sym g.0 ∙ e), elsewhere k n ls h g.1)

gone_links : (k n o : ℕ) (bs : List (Option Object)) → n ≡ k + o → links_from k (slice_set bs o None) ≡ without_sink n (links_from k bs)
gone_links k n zero [] e = refl
gone_links k n (suc o) [] e = refl
gone_links k n zero (None ∷ bs) e =
    let is : n ≡ k = omega (arith, e) in sym (none_gone n (links_from (suc k) bs) (from_sinks (suc k) bs n (omega (arith, is))))
gone_links k n zero (Some b ∷ bs) e =
    let is : n ≡ k = omega (arith, e) in
    let own : without_sink n (own_links k b) ≡ [] = all_gone n (own_links k b) (subst (λ j. AllLinks (λ l. l.sink.0 ≡ j) (own_links k b)) (sym is) (own_sinks k b b.set_numbers)) in
    sym (sink_append n (own_links k b) (links_from (suc k) bs) ∙ ap (λ ls. ls ++ without_sink n (links_from (suc k) bs)) own
    ∙ none_gone n (links_from (suc k) bs) (from_sinks (suc k) bs n (omega (arith, is))))
gone_links k n (suc o) (None ∷ bs) e = gone_links (suc k) n o bs (omega (arith, e))
gone_links k n (suc o) (Some c ∷ bs) e =
    let apart : k ≡ n → ⊥ = λ f. absurd (omega (arith, e, f)) in
    ap (λ ls. own_links k c ++ ls) (gone_links (suc k) n o bs (omega (arith, e)))
    ∙ ap (λ ls. ls ++ without_sink n (links_from (suc k) bs)) (sym (none_gone n (own_links k c) (elsewhere k n (own_links k c) apart (own_sinks k c c.set_numbers))))
    ∙ sym (sink_append n (own_links k c) (links_from (suc k) bs))

-- ---- an object is made: none of its variables has a source

unset : (n : ℕ) (b : Object) (is : List ℕ) → links_in n b (map (λ i. (i, None)) is) ≡ []
unset n b [] = refl
unset n b (i ∷ is) = unset n b is

made_links : (d : Declarations) (c k : ℕ) (bs : List (Option Object)) → links_from k (bs ++ Some (new_instance d c) ∷ []) ≡ links_from k bs
made_links d c k [] = ap (λ ls. ls ++ []) (unset k (new_instance d c) (class_at d c).with_events)
made_links d c k (None ∷ bs) = made_links d c (suc k) bs
made_links d c k (Some b ∷ bs) = ap (λ ls. own_links k b ++ ls) (made_links d c (suc k) bs)

-- ---- what is known of all objects

unfit : (x : ℕ) → Fits x no_object
unfit x = record { once = tt; below = tt; plain = λ e. refl }

fit_at : (x : ℕ) (bs : List (Option Object)) (o : ℕ) → AllFit x bs → Fits x (at_number bs o)
fit_at x [] zero h = unfit x
fit_at x [] (suc o) h = unfit x
fit_at x (None ∷ bs) zero h = unfit x
fit_at x (Some b ∷ bs) zero h = h.0
fit_at x (None ∷ bs) (suc o) h = fit_at x bs o h
fit_at x (Some b ∷ bs) (suc o) h = fit_at x bs o h.1

fit_set : (x : ℕ) (bs : List (Option Object)) (o : ℕ) (b : Object) → Fits x b → AllFit x bs → AllFit x (slice_set bs o (Some b))
fit_set x [] zero b f h = h
fit_set x [] (suc o) b f h = h
fit_set x (None ∷ bs) zero b f h = (f, h)
fit_set x (Some c ∷ bs) zero b f h = (f, h.1)
fit_set x (None ∷ bs) (suc o) b f h = fit_set x bs o b f h
fit_set x (Some c ∷ bs) (suc o) b f h = (h.0, fit_set x bs o b f h.1)

fit_gone : (x : ℕ) (bs : List (Option Object)) (o : ℕ) → AllFit x bs → AllFit x (slice_set bs o None)
fit_gone x [] zero h = h
fit_gone x [] (suc o) h = h
fit_gone x (None ∷ bs) zero h = h
fit_gone x (Some c ∷ bs) zero h = h.1
fit_gone x (None ∷ bs) (suc o) h = fit_gone x bs o h
fit_gone x (Some c ∷ bs) (suc o) h = (h.0, fit_gone x bs o h.1)

fit_more : (x : ℕ) (bs : List (Option Object)) (b : Object) → Fits x b → AllFit x bs → AllFit x (bs ++ Some b ∷ [])
fit_more x [] b f h = (f, tt)
fit_more x (None ∷ bs) b f h = fit_more x bs b f h
fit_more x (Some c ∷ bs) b f h = (h.0, fit_more x bs b f h.1)

is_below_more : (x : ℕ) (y : Option ℕ) → IsBelow x y → IsBelow (x + 1) y
is_below_more x None h = tt
is_below_more x (Some y) h = omega (arith, h)

below_more : (x : ℕ) (es : List (ℕ × Option ℕ)) → NumbersBelow x es → NumbersBelow (x + 1) es
below_more x [] h = tt
below_more x (e ∷ es) h = (is_below_more x e.1 h.0, below_more x es h.1)

fit_up : (x : ℕ) (bs : List (Option Object)) → AllFit x bs → AllFit (x + 1) bs
fit_up x [] h = tt
fit_up x (None ∷ bs) h = fit_up x bs h
fit_up x (Some b ∷ bs) h = (record { once = h.0.once; below = below_more x b.set_numbers h.0.below; plain = h.0.plain }, fit_up x bs h.1)

same_names : (i j : ℕ) (x : Option ℕ) (es : List (ℕ × Option ℕ)) → is_with_events j (renumbered i x es) ≡ is_with_events j es
same_names i j x [] = refl
same_names i j x (e ∷ es) = ap (λ b. (e.0 == j) || b) (same_names i j x es)

once_renumbered : (i : ℕ) (x : Option ℕ) (es : List (ℕ × Option ℕ)) → OnceIn es → OnceIn (renumbered i x es)
once_renumbered i x [] h = tt
once_renumbered i x (e ∷ es) h = (same_names i e.0 x es ∙ h.0, once_renumbered i x es h.1)

below_renumbered : (x i : ℕ) (y : Option ℕ) (es : List (ℕ × Option ℕ)) → IsBelow x y → NumbersBelow x es → NumbersBelow x (renumbered i y es)
below_renumbered x i y [] g h = tt
below_renumbered x i y (e ∷ es) g h = (by_test (e.0 == i), below_renumbered x i y es g h.1) where
  by_test : (t : Bool) → IsBelow x (if t then y else e.1)
  by_test true = g
  by_test false = h.0

none_renumbered : (i : ℕ) (x : Option ℕ) (es : List (ℕ × Option ℕ)) → es ≡ [] → renumbered i x es ≡ []
none_renumbered i x es e = ap (renumbered i x) e

fit_renumbered : (x i : ℕ) (y : Option ℕ) (b : Object) → IsBelow x y → Fits x b → Fits x (record b { set_numbers = renumbered i y b.set_numbers })
fit_renumbered x i y b g h = record {
  once = once_renumbered i y b.set_numbers h.once;
  below = below_renumbered x i y b.set_numbers g h.below;
  plain = λ e. none_renumbered i y b.set_numbers (h.plain e);
}

-- a new object
once_made : (is : List ℕ) → Once is → OnceIn (map (λ i. (i, None)) is)
once_made [] h = tt
once_made (i ∷ is) h = (among i is ∙ h.0, once_made is h.1) where
  among : (j : ℕ) (js : List ℕ) → is_with_events j (map (λ i. (i, None)) js) ≡ is_among j js
  among j [] = refl
  among j (k ∷ ks) = ap (λ b. (k == j) || b) (among j ks)

below_made : (x : ℕ) (is : List ℕ) → NumbersBelow x (map (λ i. (i, None)) is)
below_made x [] = tt
below_made x (i ∷ is) = (tt, below_made x is)

fit_made : (d : Declarations) → NamesOnce d → (x c : ℕ) → Fits x (new_instance d c)
fit_made d h x zero = record { once = once_made (class_at d 0).with_events (h 0); below = below_made x (class_at d 0).with_events; plain = λ e. refl }
fit_made d h x (suc c) = record { once = once_made (class_at d (suc c)).with_events (h (suc c)); below = below_made x (class_at d (suc c)).with_events; plain = λ e. absurd cc }

-- ---- one change

module _ (d : Declarations) (names : NamesOnce d) where
  abbrev Holds : Memory → Type 0
  Holds m = AllFit m.next_set m.objects

  with_links : (ls ks : List Linked) (x : ℕ) → ls ≡ ks → ◌≡◌ {A = Linking} (record { links = ls; next = x }) (record { links = ks; next = x })
  with_links ls ks x e = ap {B = Linking} (λ js. record { links = js; next = x }) e

  collection_plain : (m : Memory) (o : ℕ) → Holds m → is_collection (Heap (object_id o)) m ≡ true → (object_at m o).set_numbers ≡ []
  collection_plain m o h e = (fit_at m.next_set m.objects o h).plain (eqb-true (object_at m o).class 0 e)

  pub change_holds : (m m1 : Memory) → Change d m m1 → Holds m → Holds m1
  change_holds m _ (aside m1 a) h = subst (λ x. AllFit x m1.objects) (sym a.next_set) (subst (λ bs. AllFit m.next_set bs) (sym a.objects) h)
  change_holds m _ (takes o i old v e) h =
      let f = fit_at m.next_set m.objects o h in fit_set m.next_set m.objects o _ (record { once = f.once; below = f.below; plain = f.plain }) h
  change_holds m _ (connects o i e) h =
      let f = fit_at (m.next_set + 1) m.objects o (fit_up m.next_set m.objects h) in
      fit_set (m.next_set + 1) m.objects o _ (fit_renumbered (m.next_set + 1) i (Some m.next_set) (object_at m o) (omega arith) f) (fit_up m.next_set m.objects h)
  change_holds m _ (disconnects o i e) h = fit_set m.next_set m.objects o _ (fit_renumbered m.next_set i None (object_at m o) tt (fit_at m.next_set m.objects o h)) h
  change_holds m _ (has_items o vs keys e) h =
      let f = fit_at m.next_set m.objects o h in fit_set m.next_set m.objects o _ (record { once = f.once; below = f.below; plain = f.plain }) h
  change_holds m _ (makes c) h = fit_more m.next_set m.objects (new_instance d c) (fit_made d names m.next_set c) h
  change_holds m _ (has_told o) h = let f = fit_at m.next_set m.objects o h in fit_set m.next_set m.objects o _ (record { once = f.once; below = f.below; plain = f.plain }) h
  change_holds m _ (goes o) h = fit_gone m.next_set m.objects o h
  change_holds m _ (lends p) h = h
  change_holds m _ lends_none h = h
  change_holds m _ (lends_again xs) h = h
  change_holds m _ (raise_ends xs) h = h
  change_holds m _ (enters called p me xs) h = h
  change_holds m _ empties h = h
  change_holds m _ leaves h = h
  change_holds m _ (keeps i k) h = h
  change_holds m _ (drops i) h = h

  -- the object of a number has the links of its numbers alone
  no_links : (n : ℕ) (b : Object) (es : List (ℕ × Option ℕ)) → es ≡ [] → links_in n b es ≡ []
  no_links n b es e = ap (links_in n b) e

  told_links : (n : ℕ) (b : Object) (es : List (ℕ × Option ℕ)) → links_in n (record b { told = true }) es ≡ links_in n b es
  told_links n b [] = refl
  told_links n b ((i, None) ∷ es) = told_links n b es
  told_links n b ((i, Some x) ∷ es) = ap (λ ls. record { source = source_of (slice_index_or b.fields i empty); sink = object_id n; field = i; number = x } ∷ ls) (told_links n b es)

  pub change_links : (m m1 : Memory) → (c : Change d m m1) → Holds m → linked_after m c (linking m) ≡ linking m1
  change_links m _ (aside m1 a) h = with_links (links m) (links m1) m.next_set (ap (λ bs. in_order (links_from 0 bs)) (sym a.objects)) ∙ ap {B = Linking} (λ x. record { links = links m1; next = x }) (sym a.next_set)
  change_links m _ (takes o i old v e) h = with_links _ _ m.next_set (sym (ap in_order (field_set 0 o o i m.objects v old (omega arith) e) ∙ order_sourced _ o i (links_from 0 m.objects)))
  change_links m _ (connects o i e) h =
      with_links _ _ (m.next_set + 1) (sym (number_on 0 o o i m.next_set m.objects (omega arith) h e ∙ ap (λ ls. ls ++ new_link o i (object_at m o) m.next_set ∷ []) (sym (filter_order (λ l. not (is_of_field (object_id o) i l)) (links_from 0 m.objects)))))
  change_links m _ (disconnects o i e) h =
      with_links _ _ m.next_set (filter_order (λ l. not (is_of_field (object_id o) i l)) (links_from 0 m.objects) ∙ ap in_order (sym (number_off 0 o o i m.objects (omega arith))))
  change_links m _ (has_items o vs keys e) h =
      let plain = collection_plain m o h e in
      with_links _ _ m.next_set (ap in_order (sym (set_same 0 o o m.objects _ (omega arith) (no_links o (record (object_at m o) { fields = vs; keys = keys }) (object_at m o).set_numbers plain ∙ sym (no_links o (object_at m o) (object_at m o).set_numbers plain)))))
  change_links m _ (makes c) h = with_links _ _ m.next_set (ap in_order (sym (made_links d c 0 m.objects)))
  change_links m _ (has_told o) h = with_links _ _ m.next_set (ap in_order (sym (set_same 0 o o m.objects _ (omega arith) (told_links o (object_at m o) (object_at m o).set_numbers))))
  change_links m _ (goes o) h = with_links _ _ m.next_set (filter_order (λ l. not (l.sink.0 == o)) (links_from 0 m.objects) ∙ ap in_order (sym (gone_links 0 o o m.objects (omega arith))))
  change_links m _ (lends p) h = refl
  change_links m _ lends_none h = refl
  change_links m _ (lends_again xs) h = refl
  change_links m _ (raise_ends xs) h = refl
  change_links m _ (enters called p me xs) h = refl
  change_links m _ empties h = refl
  change_links m _ leaves h = refl
  change_links m _ (keeps i k) h = refl
  change_links m _ (drops i) h = refl

  -- ---- a row of changes

  pub along : {m m1 : Memory} (row : Row d m m1) (l : Linking) → Holds m → l ≡ linking m → linked_along row l ≡ linking m1
  along (none m) l h e = e
  along (first m m1 m2 c row) l h e = along row (linked_after m c l) (change_holds m m1 c h) (ap (linked_after m c) e ∙ change_links m m1 c h)

  pub found : (book : Sheets) → AreFound d book
  found book m row = along row unlinked tt refl

pub meant : (pr : Project) (book : Sheets) (turns : ℕ) → NamesOnce pr.declared → AreMeant pr book turns
meant pr book turns names = let row = meant_row pr book turns in (row, found pr.declared names book (meaning pr book turns).state.memory row)
