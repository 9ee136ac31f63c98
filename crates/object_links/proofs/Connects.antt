-- A variable of an object is connected: its link comes last.
use Rattle.std.proofs.Common.{◌≡◌, ℕ, zero, suc, ◌+◌, ◌<◌, Bool, true, false, List, [], ◌∷◌, ◌++◌, Option, Some, None, refl, sym, ap, ◌∙◌, subst, arith}
use Rattle.std.specs.Prelude.{◌==◌, ◌||◌, if◌then◌else◌, slice_index_or, slice_set}
use Rattle.std.proofs.lemmas.Bool.{eqb-true, eqb-false, or_parts}
use Rattle.vba_values.specs.Val.{empty}
use Rattle.vba_events.specs.declared.linked.Linked.{Linked}
use Rattle.vba_events.specs.Links.{is_of_field, without_field}
use Rattle.vba_events.specs.Order.{in_order, AllBelow}
use Rattle.vba_events.proofs.Order.{order_greatest}
use Rattle.vba_meaning.specs.Memory.{Object}
use Rattle.vba_meaning.specs.Effects.{is_with_events, renumbered}
use Rattle.vba_meaning.specs.Events.{source_of, link_of, links_in, links_from}
use Rattle.object_links.specs.Stored.{object_id}
use Rattle.object_links.proofs.Lists.{at_number, own_links, AllLinks, all_kept, none_of, others_of, from_sinks, other_entry, own_entry, without_append, order_behind, below_append}

-- each variable stands once among the numbers of an object's Sets
abbrev pub OnceIn : List (ℕ × Option ℕ) → Type 0
OnceIn [] = Unit {0}
OnceIn (e ∷ es) = (is_with_events e.0 es ≡ false) × OnceIn es

-- these numbers are below one
abbrev pub IsBelow : ℕ → Option ℕ → Type 0
IsBelow x None = Unit {0}
IsBelow x (Some y) = y < x

abbrev pub NumbersBelow : ℕ → List (ℕ × Option ℕ) → Type 0
NumbersBelow x [] = Unit {0}
NumbersBelow x (e ∷ es) = IsBelow x e.1 × NumbersBelow x es

pub one_below : (x n : ℕ) (b : Object) (j : ℕ) (y : Option ℕ) → IsBelow x y → AllBelow x (link_of n b j y)
one_below x n b j None h = tt
one_below x n b j (Some y) h = (h, tt)

pub own_below : (x n : ℕ) (b : Object) (es : List (ℕ × Option ℕ)) → NumbersBelow x es → AllBelow x (links_in n b es)
own_below x n b [] h = tt
own_below x n b (e ∷ es) h = below_append x (link_of n b e.0 e.1) (links_in n b es) (one_below x n b e.0 e.1 h.0) (own_below x n b es h.1)

-- where a variable isn't among them
none_among : (n i : ℕ) (b : Object) (es : List (ℕ × Option ℕ)) → is_with_events i es ≡ false → AllLinks (λ l. is_of_field (object_id n) i l ≡ false) (links_in n b es)
none_among n i b [] h = tt
none_among n i b ((j, y) ∷ es) h = let parts = or_parts (j == i) (is_with_events i es) h in by_entry y parts.0 (none_among n i b es parts.1) where
  by_entry : (x : Option ℕ) → (j == i) ≡ false → AllLinks (λ l. is_of_field (object_id n) i l ≡ false) (links_in n b es) → AllLinks (λ l. is_of_field (object_id n) i l ≡ false) (link_of n b j x ++ links_in n b es)
  by_entry None e more = more
  by_entry (Some x) e more = ((other_entry n i b j (Some x) (eqb-false j i e)).0, more)

same_numbers : (i : ℕ) (x : Option ℕ) (es : List (ℕ × Option ℕ)) → is_with_events i es ≡ false → renumbered i x es ≡ es
same_numbers i x [] h = refl
same_numbers i x ((j, y) ∷ es) h =
    let parts = or_parts (j == i) (is_with_events i es) h in ap (λ t. (j, if t then x else y) ∷ renumbered i x es) parts.0 ∙ ap (λ fs. (j, y) ∷ fs) (same_numbers i x es parts.1)

-- the link of a variable that takes a number
abbrev pub new_link : ℕ → (field : ℕ) → Object → (number : ℕ) → Linked
new_link n i b x = record { source = source_of (slice_index_or b.fields i empty); sink = object_id n; field = i; number = x }

assoc : (ls js hs : List Linked) → (ls ++ js) ++ hs ≡ ls ++ (js ++ hs)
assoc [] js hs = refl
assoc (l ∷ ls) js hs = ap (λ xs. l ∷ xs) (assoc ls js hs)

-- among the links of its object, before others
on_links : (n i x : ℕ) (b : Object) (es : List (ℕ × Option ℕ)) (ks : List Linked) → is_with_events i es ≡ true → OnceIn es → NumbersBelow x es → AllBelow x ks
    → in_order (links_in n b (renumbered i (Some x) es) ++ ks) ≡ in_order (without_field (object_id n) i (links_in n b es) ++ ks) ++ new_link n i b x ∷ []
on_links n i x b [] ks is once below h = absurd cc
on_links n i x b ((j, y) ∷ es) ks is once below h = by_test (j == i) refl is (λ g. on_links n i x b es ks g once.1 below.1 h) where
  by_test : (t : Bool) → (j == i) ≡ t → (t || is_with_events i es) ≡ true
      → (is_with_events i es ≡ true → in_order (links_in n b (renumbered i (Some x) es) ++ ks) ≡ in_order (without_field (object_id n) i (links_in n b es) ++ ks) ++ new_link n i b x ∷ [])
      → in_order ((link_of n b j (if t then Some x else y) ++ links_in n b (renumbered i (Some x) es)) ++ ks) ≡ in_order (without_field (object_id n) i (link_of n b j y ++ links_in n b es) ++ ks) ++ new_link n i b x ∷ []
  by_test true e g more =
      let same : j ≡ i = eqb-true j i e in
      let none : is_with_events i es ≡ false = subst (λ q. is_with_events q es ≡ false) same once.0 in
      let rest : without_field (object_id n) i (link_of n b j y ++ links_in n b es) ≡ links_in n b es =
      without_append n i (link_of n b j y) (links_in n b es) ∙ ap (λ ls. ls ++ without_field (object_id n) i (links_in n b es)) (own_entry n i b j y same) ∙ all_kept n i (links_in n b es) (none_among n i b es none) in
      ap (λ q. in_order ((new_link n q b x ∷ links_in n b (renumbered i (Some x) es)) ++ ks)) same
      ∙ ap (λ fs. in_order ((new_link n i b x ∷ links_in n b fs) ++ ks)) (same_numbers i (Some x) es none)
      ∙ order_greatest (new_link n i b x) (links_in n b es ++ ks) (below_append x (links_in n b es) ks (own_below x n b es below.1) h)
      ∙ ap (λ ls. in_order (ls ++ ks) ++ new_link n i b x ∷ []) (sym rest)
  by_test false e g more =
      let apart : j ≡ i → ⊥ = eqb-false j i e in
      let kept : without_field (object_id n) i (link_of n b j y ++ links_in n b es) ≡ link_of n b j y ++ without_field (object_id n) i (links_in n b es) =
      without_append n i (link_of n b j y) (links_in n b es) ∙ ap (λ ls. ls ++ without_field (object_id n) i (links_in n b es)) (all_kept n i (link_of n b j y) (other_entry n i b j y apart)) in
      ap in_order (assoc (link_of n b j y) (links_in n b (renumbered i (Some x) es)) ks)
      ∙ order_behind (new_link n i b x) (link_of n b j y) (links_in n b (renumbered i (Some x) es) ++ ks) (without_field (object_id n) i (links_in n b es) ++ ks) (one_below x n b j y below.0) (more g)
      ∙ ap (λ ls. in_order ls ++ new_link n i b x ∷ []) (sym (assoc (link_of n b j y) (without_field (object_id n) i (links_in n b es)) ks) ∙ ap (λ ls. ls ++ ks) (sym kept))

-- an object's sets have nothing to do with what its fields have
same_fields : (j : ℕ) (c : Object) (ns : List (ℕ × Option ℕ)) (es : List (ℕ × Option ℕ)) → links_in j (record c { set_numbers = ns }) es ≡ links_in j c es
same_fields j c ns [] = refl
same_fields j c ns ((x, None) ∷ es) = same_fields j c ns es
same_fields j c ns ((x, Some y) ∷ es) = ap (λ ls. record { source = source_of (slice_index_or c.fields x empty); sink = object_id j; field = x; number = y } ∷ ls) (same_fields j c ns es)

-- each object's Sets are numbered below the next number, each variable has one, and a Collection has none
pub record Fits (x : ℕ) (b : Object) : Type 0 where
  pub once : OnceIn b.set_numbers
  pub below : NumbersBelow x b.set_numbers
  pub plain : b.class ≡ 0 → b.set_numbers ≡ []

abbrev pub AllFit : ℕ → List (Option Object) → Type 0
AllFit x [] = Unit {0}
AllFit x (None ∷ bs) = AllFit x bs
AllFit x (Some b ∷ bs) = Fits x b × AllFit x bs

pub all_below : (x k : ℕ) (bs : List (Option Object)) → AllFit x bs → AllBelow x (links_from k bs)
all_below x k [] h = tt
all_below x k (None ∷ bs) h = all_below x (suc k) bs h
all_below x k (Some b ∷ bs) h = below_append x (own_links k b) (links_from (suc k) bs) (own_below x k b b.set_numbers h.0.below) (all_below x (suc k) bs h.1)

pub number_on : (k n o i x : ℕ) (bs : List (Option Object)) → n ≡ k + o → AllFit x bs → is_with_events i (at_number bs o).set_numbers ≡ true
    → in_order (links_from k (slice_set bs o (Some (record (at_number bs o) { set_numbers = renumbered i (Some x) (at_number bs o).set_numbers }))))
    ≡ in_order (without_field (object_id n) i (links_from k bs)) ++ new_link n i (at_number bs o) x ∷ []
number_on k n zero i x [] e h is = absurd cc
number_on k n (suc o) i x [] e h is = absurd cc
number_on k n zero i x (None ∷ bs) e h is = absurd cc
number_on k n zero i x (Some b ∷ bs) e h is =
    let same : n ≡ k = omega (arith, e) in
    let more = links_from (suc k) bs in
    let rest : without_field (object_id k) i more ≡ more = all_kept k i more (none_of k i more (from_sinks (suc k) bs k (omega arith))) in
    subst (λ j. in_order (links_in k (record b { set_numbers = renumbered i (Some x) b.set_numbers }) (renumbered i (Some x) b.set_numbers) ++ more)
    ≡ in_order (without_field (object_id j) i (own_links k b ++ more)) ++ new_link j i b x ∷ []) (sym same)
    (ap (λ ls. in_order (ls ++ more)) (same_fields k b (renumbered i (Some x) b.set_numbers) (renumbered i (Some x) b.set_numbers))
    ∙ on_links k i x b b.set_numbers more is h.0.once h.0.below (all_below x (suc k) bs h.1)
    ∙ ap (λ ls. in_order ls ++ new_link k i b x ∷ []) (ap (λ ls. without_field (object_id k) i (own_links k b) ++ ls) (sym rest) ∙ sym (without_append k i (own_links k b) more)))
number_on k n (suc o) i x (None ∷ bs) e h is = number_on (suc k) n o i x bs (omega (arith, e)) h is
number_on k n (suc o) i x (Some c ∷ bs) e h is =
    let apart : k ≡ n → ⊥ = λ f. absurd (omega (arith, e, f)) in
    order_behind (new_link n i (at_number bs o) x) (own_links k c) _ (without_field (object_id n) i (links_from (suc k) bs)) (own_below x k c c.set_numbers h.0.below) (number_on (suc k) n o i x bs (omega (arith, e)) h.1 is)
    ∙ ap (λ ls. in_order ls ++ new_link n i (at_number bs o) x ∷ []) (ap (λ ls. ls ++ without_field (object_id n) i (links_from (suc k) bs)) (sym (all_kept n i (own_links k c) (others_of n k i c c.set_numbers apart)))
    ∙ sym (without_append n i (own_links k c) (links_from (suc k) bs)))
