-- Entries of a map as links: what an insertion, a removal and a look-up are for the links.
use Rattle.std.proofs.Common.{◌≡◌, ℕ, ◌<◌, Bool, true, false, cond, not, ◌⊎◌, inl, inr, List, [], ◌∷◌, ◌++◌, map, Option, Some, None, refl, sym, ap, ◌∙◌, arith}
use Rattle.std.specs.Prelude.{◌||◌, ◌&&◌}
use Rattle.std.specs.List.{filter, list_any, IsDistinct, AllByRecursion}
use Rattle.std.specs.List.Sorted.{IsStrictlySortedBy}
use Rattle.std.specs.Cmp.{IsTotalOrder}
use Rattle.std.specs.Map.{keys_of, lookup, remove_entry}
use Rattle.std.specs.BTreeMap.{insert_entry, is_at}
use Rattle.std.specs.Ordering.{is_eq, match_ordering}
use Rattle.std.specs.declared.cmp.Ordering.{Ordering}
use Rattle.std.specs.declared.cmp.Ordering.TheVariants.{Less, Equal, Greater}
use Rattle.std.proofs.lemmas.Map.{NonePasses}
use Rattle.std.proofs.lemmas.Map.Entries.{none_below_head}
use Rattle.std.proofs.lemmas.Map.Keys.{IsDistinct-head, IsDistinct-tail, sorted_tail}
use mathlib.Core.Bool.{true≢false}
use Rattle.vba_events.specs.declared.linked.Linked.{Linked}
use Rattle.vba_events.specs.Order.{in_order, AllBelow}
use Rattle.vba_events.proofs.Order.{order_greatest, order_more}

or_left : (a b : Bool) → b ≡ false → (a || b) ≡ true → a ≡ true
or_left true b off h = refl
or_left false b off h = absurd (true≢false (sym h ∙ off))

or_false : (a : Bool) → (a || false) ≡ a
or_false true = refl
or_false false = refl

module _ {K X : Type 0} (link : K × X → Linked) where
  pub filter_links : (p : Linked → Bool) (es : List (K × X)) → filter p (map link es) ≡ map link (filter (λ e. p (link e)) es)
  filter_links p [] = refl
  filter_links p (e ∷ es) = by_test (p (link e)) (filter_links p es) where
    by_test : (b : Bool) → filter p (map link es) ≡ map link (filter (λ e. p (link e)) es)
        → cond b (link e ∷ filter p (map link es)) (filter p (map link es)) ≡ map link (cond b (e ∷ filter (λ e. p (link e)) es) (filter (λ e. p (link e)) es))
    by_test true r = ap (λ t. link e ∷ t) r
    by_test false r = r

  pub remove_absent : (test : K → Bool) (es : List (K × X)) → NonePasses test es → remove_entry test es ≡ es
  remove_absent test [] h = refl
  remove_absent test (e ∷ es) h = ap (λ b. cond b es (e ∷ remove_entry test es)) h.0 ∙ ap (λ t. e ∷ t) (remove_absent test es h.1)

  -- what is put in and taken out again
  pub removed_again : (R : K → K → Ordering) (k : K) (v : X) (es : List (K × X)) → is_at (R k) k ≡ true → NonePasses (is_at (R k)) es → remove_entry (is_at (R k)) (insert_entry R es k v) ≡ es
  removed_again R k v [] itself h = ap (λ b. cond b [] ((k, v) ∷ [])) itself
  removed_again R k v (e ∷ es) itself h = by_test (R k e.0) h.0 (removed_again R k v es itself h.1) where
    by_test : (o : Ordering) → is_eq o ≡ false → remove_entry (is_at (R k)) (insert_entry R es k v) ≡ es
        → remove_entry (is_at (R k)) (match_ordering o ((k, v) ∷ e ∷ es) ((e.0, v) ∷ es) (e ∷ insert_entry R es k v)) ≡ e ∷ es
    by_test Less differs r = ap (λ b. cond b (e ∷ es) ((k, v) ∷ remove_entry (is_at (R k)) (e ∷ es))) itself
    by_test Equal differs r = absurd (true≢false differs)
    by_test Greater differs r = ap (λ b. cond b (insert_entry R es k v) (e ∷ remove_entry (is_at (R k)) (insert_entry R es k v))) h.0 ∙ ap (λ t. e ∷ t) r

  -- a new key with the greatest number
  pub inserted_new : (R : K → K → Ordering) (k : K) (v : X) (es : List (K × X)) → NonePasses (is_at (R k)) es → AllBelow (link (k, v)).number (map link es)
      → in_order (map link (insert_entry R es k v)) ≡ in_order (map link es) ++ link (k, v) ∷ []
  inserted_new R k v [] none below = refl
  inserted_new R k v (e ∷ es) none below = by_test (R k e.0) none.0 (inserted_new R k v es none.1 below.1) where
    by_test : (o : Ordering) → is_eq o ≡ false → in_order (map link (insert_entry R es k v)) ≡ in_order (map link es) ++ link (k, v) ∷ []
        → in_order (map link (match_ordering o ((k, v) ∷ e ∷ es) ((e.0, v) ∷ es) (e ∷ insert_entry R es k v))) ≡ in_order (map link (e ∷ es)) ++ link (k, v) ∷ []
    by_test Less differs r = order_greatest (link (k, v)) (map link (e ∷ es)) below
    by_test Equal differs r = absurd (true≢false differs)
    by_test Greater differs r = order_more (link e) (link (k, v)) (map link (insert_entry R es k v)) (map link es) below.0 r

  -- a key with the greatest number, in the place of what it had
  pub inserted_over : (R : K → K → Ordering) → IsTotalOrder R → (k : K) (v : X) → ((x : K) → is_at (R k) x ≡ true → x ≡ k) → (es : List (K × X)) → IsStrictlySortedBy R (keys_of es)
      → AllBelow (link (k, v)).number (map link es)
      → in_order (map link (insert_entry R es k v)) ≡ in_order (map link (remove_entry (is_at (R k)) es)) ++ link (k, v) ∷ []
  inserted_over R total k v tight [] sorted below = refl
  inserted_over R total k v tight (e ∷ es) sorted below = by_test (R k e.0) refl (inserted_over R total k v tight es (sorted_tail R e.0 (keys_of es) sorted) below.1) where
    by_test : (o : Ordering) → R k e.0 ≡ o → in_order (map link (insert_entry R es k v)) ≡ in_order (map link (remove_entry (is_at (R k)) es)) ++ link (k, v) ∷ []
        → in_order (map link (match_ordering o ((k, v) ∷ e ∷ es) ((e.0, v) ∷ es) (e ∷ insert_entry R es k v)))
        ≡ in_order (map link (cond (is_eq (R k e.0)) es (e ∷ remove_entry (is_at (R k)) es))) ++ link (k, v) ∷ []
    by_test Less is r =
        order_greatest (link (k, v)) (map link (e ∷ es)) below
        ∙ ap (λ t. in_order (map link t) ++ link (k, v) ∷ []) (sym (remove_absent (is_at (R k)) (e ∷ es) (none_below_head total k e es sorted is)))
    by_test Equal is r =
        ap (λ x. in_order (link (x, v) ∷ map link es)) (tight e.0 (ap is_eq is))
        ∙ order_greatest (link (k, v)) (map link es) below.1
        ∙ ap (λ b. in_order (map link (cond b es (e ∷ remove_entry (is_at (R k)) es))) ++ link (k, v) ∷ []) (sym (ap is_eq is))
    by_test Greater is r =
        rest_below (remove_entry (is_at (R k)) es) r
        ∙ ap (λ b. in_order (map link (cond b es (e ∷ remove_entry (is_at (R k)) es))) ++ link (k, v) ∷ []) (sym (ap is_eq is)) where
          rest_below : (rest : List (K × X)) → in_order (map link (insert_entry R es k v)) ≡ in_order (map link rest) ++ link (k, v) ∷ []
              → in_order (map link (e ∷ insert_entry R es k v)) ≡ in_order (map link (e ∷ rest)) ++ link (k, v) ∷ []
          rest_below rest h = order_more (link e) (link (k, v)) (map link (insert_entry R es k v)) (map link rest) below.0 h

  pub inserted_below : (n : ℕ) (R : K → K → Ordering) (k : K) (v : X) → ((x : K) → is_at (R k) x ≡ true → x ≡ k) → (es : List (K × X)) → (link (k, v)).number < n
      → AllBelow n (map link es) → AllBelow n (map link (insert_entry R es k v))
  inserted_below n R k v tight [] lt below = (lt, tt)
  inserted_below n R k v tight (e ∷ es) lt below = by_test (R k e.0) refl (inserted_below n R k v tight es lt below.1) where
    at_key : (x : K) → x ≡ k → (link (x, v)).number < n
    at_key x is = omega (arith, lt, ap (λ y. (link (y, v)).number) is)

    by_test : (o : Ordering) → R k e.0 ≡ o → AllBelow n (map link (insert_entry R es k v))
        → AllBelow n (map link (match_ordering o ((k, v) ∷ e ∷ es) ((e.0, v) ∷ es) (e ∷ insert_entry R es k v)))
    by_test Less is r = (lt, below)
    by_test Equal is r = (at_key e.0 (tight e.0 (ap is_eq is)), below.1)
    by_test Greater is r = (below.0, r)

  -- the links of keys among which the sought one is the first
  module _ (same : K → K → Bool) (k : K) (alike : (x y : K) → same k x ≡ true → same k y ≡ same x y) where
    others : (x : K) → same k x ≡ true → (es : List (K × X)) → AllByRecursion (λ y. same x y ≡ false) (keys_of es) → NonePasses (same k) es
    others x is [] h = tt
    others x is (e ∷ es) h = (alike x e.0 is ∙ h.0, others x is es h.1)

    none_any : (p : Linked → Bool) → ((e : K × X) → same k e.0 ≡ false → p (link e) ≡ false) → (es : List (K × X)) → NonePasses (same k) es → list_any p (map link es) ≡ false
    none_any p not_p [] h = refl
    none_any p not_p (e ∷ es) h = ap (λ b. b || list_any p (map link es)) (not_p e h.0) ∙ none_any p not_p es h.1

    none_left_out : (p : Linked → Bool) → ((e : K × X) → same k e.0 ≡ false → p (link e) ≡ false) → (es : List (K × X)) → NonePasses (same k) es → filter (λ l. not (p l)) (map link es) ≡ map link es
    none_left_out p not_p [] h = refl
    none_left_out p not_p (e ∷ es) h =
        ap (λ b. cond (not b) (link e ∷ filter (λ l. not (p l)) (map link es)) (filter (λ l. not (p l)) (map link es))) (not_p e h.0)
        ∙ ap (λ t. link e ∷ t) (none_left_out p not_p es h.1)

    -- taking out a key leaves out what p finds, where p finds the key's entry and no other
    pub removed : (p : Linked → Bool) → ((e : K × X) → same k e.0 ≡ false → p (link e) ≡ false) → (es : List (K × X)) → IsDistinct same (keys_of es)
        → ((e : K × X) → same k e.0 ≡ true → p (link e) ≡ true) ⊎ (list_any p (map link es) ≡ true)
        → map link (remove_entry (same k) es) ≡ filter (λ l. not (p l)) (map link es)
    removed p not_p [] once hit = refl
    removed p not_p (e ∷ es) once hit = by_test (same k e.0) refl (λ found. removed p not_p es (IsDistinct-tail same e.0 (keys_of es) once) found) where
      head_hit : (is : same k e.0 ≡ true) → NonePasses (same k) es → ((e : K × X) → same k e.0 ≡ true → p (link e) ≡ true) ⊎ (list_any p (map link (e ∷ es)) ≡ true) → p (link e) ≡ true
      head_hit is none (inl all) = all e is
      head_hit is none (inr any) = or_left (p (link e)) (list_any p (map link es)) (none_any p not_p es none) any

      tail_hit : (is : same k e.0 ≡ false) → ((e : K × X) → same k e.0 ≡ true → p (link e) ≡ true) ⊎ (list_any p (map link (e ∷ es)) ≡ true) → ((e : K × X) → same k e.0 ≡ true → p (link e) ≡ true) ⊎ (list_any p (map link es) ≡ true)
      tail_hit is (inl all) = inl all
      tail_hit is (inr any) = inr (ap (λ b. b || list_any p (map link es)) (sym (not_p e is)) ∙ any)

      by_test : (b : Bool) → same k e.0 ≡ b
          → (((e : K × X) → same k e.0 ≡ true → p (link e) ≡ true) ⊎ (list_any p (map link es) ≡ true) → map link (remove_entry (same k) es) ≡ filter (λ l. not (p l)) (map link es))
          → map link (cond (same k e.0) es (e ∷ remove_entry (same k) es)) ≡ filter (λ l. not (p l)) (map link (e ∷ es))
      by_test true is later =
          let none = others e.0 is es (IsDistinct-head same e.0 (keys_of es) once) in
          ap (λ b. map link (cond b es (e ∷ remove_entry (same k) es))) is
          ∙ sym (none_left_out p not_p es none)
          ∙ ap (λ b. cond (not b) (link e ∷ filter (λ l. not (p l)) (map link es)) (filter (λ l. not (p l)) (map link es))) (sym (head_hit is none hit))
      by_test false is later =
          ap (λ b. map link (cond b es (e ∷ remove_entry (same k) es))) is
          ∙ ap (λ t. link e ∷ t) (later (tail_hit is hit))
          ∙ ap (λ b. cond (not b) (link e ∷ filter (λ l. not (p l)) (map link es)) (filter (λ l. not (p l)) (map link es))) (sym (not_p e is))

    abbrev pub finds : (X → Bool) → Option X → Bool
    finds q None = false
    finds q (Some v) = q v

    -- what stands among the links is found at its key
    pub any_found : (p : Linked → Bool) (q : X → Bool) → ((e : K × X) → p (link e) ≡ (same k e.0 && q e.1)) → (es : List (K × X)) → IsDistinct same (keys_of es)
        → list_any p (map link es) ≡ finds q (lookup (same k) es)
    any_found p q agrees [] once = refl
    any_found p q agrees (e ∷ es) once = by_test (same k e.0) refl (any_found p q agrees es (IsDistinct-tail same e.0 (keys_of es) once)) where
      misses : (e : K × X) → same k e.0 ≡ false → p (link e) ≡ false
      misses e differs = agrees e ∙ ap (λ b. b && q e.1) differs

      by_test : (b : Bool) → same k e.0 ≡ b → list_any p (map link es) ≡ finds q (lookup (same k) es)
          → (p (link e) || list_any p (map link es)) ≡ finds q (cond (same k e.0) (Some e.1) (lookup (same k) es))
      by_test true is later =
          let none = others e.0 is es (IsDistinct-head same e.0 (keys_of es) once) in
          ap (λ b. p (link e) || b) (none_any p misses es none)
          ∙ or_false (p (link e)) ∙ agrees e ∙ ap (λ b. b && q e.1) is
          ∙ ap (λ b. finds q (cond b (Some e.1) (lookup (same k) es))) (sym is)
      by_test false is later =
          ap (λ b. b || list_any p (map link es)) (misses e is)
          ∙ later
          ∙ ap (λ b. finds q (cond b (Some e.1) (lookup (same k) es))) (sym is)
