-- The links of a source are a range of the map by sources.
use Rattle.std.proofs.Common.{◌≡◌, ℕ, ◌<◌, Bool, true, false, cond, not, List, [], ◌∷◌, map, refl, sym, ap, ◌∙◌, arith}
use Rattle.std.specs.Prelude.{◌&&◌, nat_lt, ◌==◌}
use Rattle.std.specs.List.{filter, AllByRecursion}
use Rattle.std.specs.List.Sorted.{IsStrictlySortedBy}
use Rattle.std.specs.Map.{keys_of}
use Rattle.std.specs.BTreeMap.Range.{entries_between}
use Rattle.std.specs.Ordering.{is_eq, is_le, is_gt, ordering_then, nat_cmp}
use Rattle.std.specs.declared.cmp.Ordering.{Ordering}
use Rattle.std.specs.declared.cmp.Ordering.TheVariants.{Less, Equal, Greater}
use Rattle.std.specs.declared.ops.Bound.TheVariants.{Included, Excluded}
use Rattle.std.proofs.lemmas.Bool.{ltb-true, ltb-false, le-ltb, eq-eqb, ne_eqb}
use Rattle.std.proofs.lemmas.Map.Keys.{sorted_head, sorted_tail}
use mathlib.Core.Bool.{true≢false}
use Rattle.vba_values.specs.declared.object.ObjRef.{ObjRef}
use Rattle.vba_values.specs.contracts.object.ObjRefOrd.TheImpl as object
use Rattle.vba_events.specs.Kept.{SourceKey, SinkKey, by_source, links_kept, AreKept}
use Rattle.vba_events.specs.Links.{links_of}
use Rattle.vba_values.specs.Objects.{same_object}
use Rattle.vba_events.specs.Order.{in_order, AllBelow}
use Rattle.vba_events.proofs.Entries.{filter_links}
use Rattle.vba_events.proofs.Keys.{source_cmp, object_tied, same_object_itself, same_object_true}
use Rattle.vba_events.proofs.Order.{filter_order, order_rising, Rising, AllAbove}

from_zero : (n : ℕ) → is_le (nat_cmp 0 n) ≡ true
from_zero n = by_less (nat_lt 0 n) refl where
  by_less : (b : Bool) → nat_lt 0 n ≡ b → is_le (cond b Less (cond (0 == n) Equal Greater)) ≡ true
  by_less true e = refl
  by_less false e = ap (λ b. is_le (cond b Equal Greater)) (eq-eqb 0 n (omega (arith, ltb-false 0 n e)))

past : (n next : ℕ) → n < next → nat_cmp next n ≡ Greater
past n next lt =
    ap (λ b. cond b Less (cond (next == n) Equal Greater)) (le-ltb next n (omega (arith, lt)))
    ∙ ap (λ b. cond b Equal Greater) (ne_eqb next n (λ same. absurd (omega (arith, lt, same))))

in_range : (o : Ordering) (n next : ℕ) → n < next → (is_le (ordering_then o (nat_cmp 0 n)) && not (is_le (ordering_then o (nat_cmp next n)))) ≡ is_eq o
in_range Less n next lt = refl
in_range Equal n next lt = ap (λ b. b && not (is_le (nat_cmp next n))) (from_zero n) ∙ ap (λ o. not (is_le o)) (past n next lt)
in_range Greater n next lt = refl

-- the range of a source has the links of that source
between : (source : ObjRef) (next : ℕ) (sources : List (SourceKey × SinkKey)) → AllBelow next (map by_source sources)
    → entries_between source_cmp (Included (source, 0)) (Excluded (source, next)) sources ≡ filter (λ e. same_object source e.0.0) sources
between source next [] below = refl
between source next (e ∷ es) below =
    ap (λ b. cond b (e ∷ entries_between source_cmp (Included (source, 0)) (Excluded (source, next)) es) (entries_between source_cmp (Included (source, 0)) (Excluded (source, next)) es))
    (in_range (object.ghosts.cmp source e.0.0) e.0.1 next below.0 ∙ object_tied source e.0.0)
    ∙ ap (λ t. cond (same_object source e.0.0) (e ∷ t) t) (between source next es below.1)

equal_from : (o : Ordering) → is_eq o ≡ true → o ≡ Equal
equal_from Less h = absurd (true≢false (sym h))
equal_from Equal h = refl
equal_from Greater h = absurd (true≢false (sym h))

compared : (a b source : ObjRef) → same_object source a ≡ true → same_object source b ≡ true → object.ghosts.cmp a b ≡ Equal
compared a b source h k =
    equal_from (object.ghosts.cmp a b) (object_tied a b ∙ ap (λ o. same_object o b) (sym (same_object_true source a h)) ∙ k)

less_from : (m n : ℕ) → nat_cmp m n ≡ Less → m < n
less_from m n h = by_less (nat_lt m n) refl h where
  by_equal : (b : Bool) → cond b Equal Greater ≡ Less → m < n
  by_equal true h = absurd (true≢false (ap is_eq h))
  by_equal false h = absurd (true≢false (ap is_gt h))

  by_less : (b : Bool) → nat_lt m n ≡ b → cond b Less (cond (m == n) Equal Greater) ≡ Less → m < n
  by_less true e h = ltb-true m n e
  by_less false e h = by_equal (m == n) h

above : (source : ObjRef) (k : SourceKey) → same_object source k.0 ≡ true → (es : List (SourceKey × SinkKey)) → AllByRecursion (λ y. source_cmp k y ≡ Less) (keys_of es)
    → AllAbove k.1 (map by_source (filter (λ e. same_object source e.0.0) es))
above source k is [] h = tt
above source k is (e ∷ es) h = by_test (same_object source e.0.0) refl (above source k is es h.1) where
  by_test : (b : Bool) → same_object source e.0.0 ≡ b → AllAbove k.1 (map by_source (filter (λ e. same_object source e.0.0) es))
      → AllAbove k.1 (map by_source (cond b (e ∷ filter (λ e. same_object source e.0.0) es) (filter (λ e. same_object source e.0.0) es)))
  by_test true is' later = (less_from k.1 e.0.1 (ap (λ o. ordering_then o (nat_cmp k.1 e.0.1)) (sym (compared k.0 e.0.0 source is is')) ∙ h.0), later)
  by_test false is' later = later

rising : (source : ObjRef) (es : List (SourceKey × SinkKey)) → IsStrictlySortedBy source_cmp (keys_of es) → Rising (map by_source (filter (λ e. same_object source e.0.0) es))
rising source [] sorted = tt
rising source (e ∷ es) sorted = by_test (same_object source e.0.0) refl (rising source es (sorted_tail source_cmp e.0 (keys_of es) sorted)) where
  by_test : (b : Bool) → same_object source e.0.0 ≡ b → Rising (map by_source (filter (λ e. same_object source e.0.0) es))
      → Rising (map by_source (cond b (e ∷ filter (λ e. same_object source e.0.0) es) (filter (λ e. same_object source e.0.0) es)))
  by_test true is later = (above source e.0 is es (sorted_head source_cmp e.0 (keys_of es) sorted), later)
  by_test false is later = later

-- the range as links is the links of the source, in order
pub links_between : (source : ObjRef) (next : ℕ) (sources : List (SourceKey × SinkKey)) (sinks : List (SinkKey × SourceKey)) → AreKept sources sinks next → IsStrictlySortedBy source_cmp (keys_of sources)
    → map by_source (entries_between source_cmp (Included (source, 0)) (Excluded (source, next)) sources) ≡ links_of source (links_kept sinks)
links_between source next sources sinks kept sorted =
    let found = filter (λ e. same_object source e.0.0) sources in
    ap (map by_source) (between source next sources kept.sources_below)
    ∙ sym (order_rising (map by_source found) (rising source sources sorted))
    ∙ ap in_order (sym (filter_links by_source (λ l. same_object source l.source) sources))
    ∙ sym (filter_order (λ l. same_object source l.source) (map by_source sources))
    ∙ ap (links_of source) kept.same

-- a range from 0 runs forward
pub forward : (source : ObjRef) (next : ℕ) → is_gt (source_cmp (source, 0) (source, next)) ≡ false
forward source next =
    ap (λ o. is_gt (ordering_then o (nat_cmp 0 next))) (equal_from (object.ghosts.cmp source source) (object_tied source source ∙ same_object_itself source))
    ∙ not_greater (nat_cmp 0 next) (from_zero next) where
      not_greater : (o : Ordering) → is_le o ≡ true → is_gt o ≡ false
      not_greater Less h = refl
      not_greater Equal h = refl
      not_greater Greater h = sym h
