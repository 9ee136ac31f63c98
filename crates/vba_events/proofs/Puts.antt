-- What a new link leaves in the two maps.
use Rattle.std.proofs.Common.{◌≡◌, ℕ, ◌+◌, ◌<◌, Bool, true, false, cond, not, List, [], ◌∷◌, ◌++◌, map, Some, None, refl, sym, ap, subst, ◌∙◌, arith}
use Rattle.std.specs.Prelude.{◌||◌, ◌&&◌}
use Rattle.std.specs.List.{filter, list_any}
use Rattle.std.specs.List.Sorted.{IsStrictlySortedBy}
use Rattle.std.specs.Map.{keys_of, lookup, remove_entry}
use Rattle.std.specs.BTreeMap.{insert_entry, is_at}
use Rattle.std.proofs.lemmas.Bool.{ne_eqb}
use Rattle.std.proofs.lemmas.Map.{NonePasses, none_passes_from_lookup}
use mathlib.Core.Bool.{true≢false}
use Rattle.vba_events.specs.declared.linked.Linked.{Linked}
use Rattle.vba_events.specs.Kept.{SourceKey, SinkKey, by_source, by_sink, links_kept, AreKept, ArePut}
use Rattle.vba_events.specs.Links.{is_of_field, same_link}
use Rattle.vba_values.specs.Objects.{same_object}
use Rattle.vba_events.specs.Order.{in_order, AllBelow}
use Rattle.vba_events.proofs.Changes.{and_false, at_source, at_sink, sources_distinct, sinks_distinct, kept_out, none_out, source_out, sink_out, found_stands}
use Rattle.vba_events.proofs.Entries.{removed_again, inserted_new, inserted_over, inserted_below}
use Rattle.vba_events.proofs.Keys.{source_cmp, sink_cmp, source_tied, sink_tied, sink_total, source_itself, source_true, sink_true}
use Rattle.vba_events.proofs.Order.{below_more, below_filter, filter_order, any_order, filter_append}

abbrev source_key : Linked → SourceKey
source_key l = (l.source, l.number)

abbrev sink_key : Linked → SinkKey
sink_key l = (l.sink, l.field)

abbrev put_source : Linked → List (SourceKey × SinkKey) → List (SourceKey × SinkKey)
put_source l sources = insert_entry source_cmp sources (source_key l) (sink_key l)

abbrev put_sink : Linked → List (SinkKey × SourceKey) → List (SinkKey × SourceKey)
put_sink l sinks = insert_entry sink_cmp sinks (sink_key l) (source_key l)

abbrev SourcesSorted : List (SourceKey × SinkKey) → Type 0
SourcesSorted sources = IsStrictlySortedBy source_cmp (keys_of sources)

abbrev SinksSorted : List (SinkKey × SourceKey) → Type 0
SinksSorted sinks = IsStrictlySortedBy sink_cmp (keys_of sinks)

-- no key has a number that is above all
source_absent : (l : Linked) (sources : List (SourceKey × SinkKey)) → AllBelow l.number (map by_source sources) → NonePasses (is_at (source_cmp (source_key l))) sources
source_absent l [] below = tt
source_absent l (e ∷ es) below = (
  source_tied (source_key l) e.0 ∙ ap (λ t. same_object l.source e.0.0 && t) (ne_eqb l.number e.0.1 (λ same. absurd (omega (arith, below.0, same)))) ∙ and_false (same_object l.source e.0.0),
  source_absent l es below.1,
)

-- nothing is put in without memory
pub put_back : (l : Linked) (sources : List (SourceKey × SinkKey)) → AllBelow l.number (map by_source sources) → remove_entry (is_at (source_cmp (source_key l))) (put_source l sources) ≡ sources
put_back l sources below =
    removed_again by_source source_cmp (source_key l) (sink_key l) sources (source_tied (source_key l) (source_key l) ∙ source_itself (source_key l)) (source_absent l sources below)

source_tight : (k x : SourceKey) → is_at (source_cmp k) x ≡ true → x ≡ k
source_tight k x h = sym (source_true k x (sym (source_tied k x) ∙ h))

sink_tight : (k x : SinkKey) → is_at (sink_cmp k) x ≡ true → x ≡ k
sink_tight k x h = sym (sink_true k x (sym (sink_tied k x) ∙ h))

put_source_last : (l : Linked) (sources : List (SourceKey × SinkKey)) → AllBelow l.number (map by_source sources) → in_order (map by_source (put_source l sources)) ≡ in_order (map by_source sources) ++ l ∷ []
put_source_last l sources below = inserted_new by_source source_cmp (source_key l) (sink_key l) sources (source_absent l sources below) below

put_source_below : (l : Linked) (sources : List (SourceKey × SinkKey)) → AllBelow l.number (map by_source sources) → AllBelow (l.number + 1) (map by_source (put_source l sources))
put_source_below l sources below =
    inserted_below by_source (l.number + 1) source_cmp (source_key l) (sink_key l) (source_tight (source_key l)) sources (omega arith)
    (below_more l.number (l.number + 1) (map by_source sources) (omega arith) below)

put_sink_below : (l : Linked) (sinks : List (SinkKey × SourceKey)) → AllBelow l.number (map by_sink sinks) → AllBelow (l.number + 1) (map by_sink (put_sink l sinks))
put_sink_below l sinks below =
    inserted_below by_sink (l.number + 1) sink_cmp (sink_key l) (source_key l) (sink_tight (sink_key l)) sinks (omega arith)
    (below_more l.number (l.number + 1) (map by_sink sinks) (omega arith) below)

put_first : (l : Linked) (sources : List (SourceKey × SinkKey)) (sinks : List (SinkKey × SourceKey)) → AreKept sources sinks l.number
    → lookup (is_at (sink_cmp (sink_key l))) sinks ≡ None → SourcesSorted (put_source l sources) → SinksSorted (put_sink l sinks) → ArePut l sinks (put_source l sources) (put_sink l sinks)
put_first l sources sinks kept none sorted sorted' =
    let last = inserted_new by_sink sink_cmp (sink_key l) (source_key l) sinks (none_passes_from_lookup (is_at (sink_cmp (sink_key l))) sinks none) kept.sinks_below in (
      record {
        same = put_source_last l sources kept.sources_below ∙ ap (λ t. t ++ l ∷ []) kept.same ∙ sym last;
        sources_below = put_source_below l sources kept.sources_below;
        sinks_below = put_sink_below l sinks kept.sinks_below;
        sources_once = sources_distinct (put_source l sources) sorted;
        sinks_once = sinks_distinct (put_sink l sinks) sorted';
      },
      last ∙ ap (λ t. t ++ l ∷ []) (none_out l.sink l.field sinks kept.sinks_once none),
    )

-- a field that had no link
pub put_new : (l : Linked) (sources sources' : List (SourceKey × SinkKey)) (sinks sinks' : List (SinkKey × SourceKey)) → AreKept sources sinks l.number
    → lookup (is_at (sink_cmp (sink_key l))) sinks ≡ None → sources' ≡ put_source l sources → sinks' ≡ put_sink l sinks → SourcesSorted sources' → SinksSorted sinks' → ArePut l sinks sources' sinks'
put_new l sources sources' sinks sinks' kept none is is' =
    subst (λ x. SourcesSorted x → SinksSorted sinks' → ArePut l sinks x sinks') (sym is)
    (subst (λ y. SourcesSorted (put_source l sources) → SinksSorted y → ArePut l sinks (put_source l sources) y) (sym is') (put_first l sources sinks kept none))

any_left : (p : Linked → Bool) (ls ks : List Linked) → list_any p ls ≡ true → list_any p (ls ++ ks) ≡ true
any_left p [] ks h = absurd (true≢false (sym h))
any_left p (l ∷ ls) ks h = by_test (p l) h (any_left p ls ks) where
  by_test : (b : Bool) → (b || list_any p ls) ≡ true → (list_any p ls ≡ true → list_any p (ls ++ ks) ≡ true) → (b || list_any p (ls ++ ks)) ≡ true
  by_test true h later = refl
  by_test false h later = later h

found_below : (n : ℕ) (test : SinkKey → Bool) (at : SourceKey) (sinks : List (SinkKey × SourceKey)) → AllBelow n (map by_sink sinks) → lookup test sinks ≡ Some at → at.1 < n
found_below n test at [] below found = absurd (none_some found) where
  none_some : None ≡ Some at → ⊥
  none_some h = cc
found_below n test at (e ∷ es) below found = by_test (test e.0) found (found_below n test at es below.1) where
  some_same : Some e.1 ≡ Some at → e.1 ≡ at
  some_same h = cc

  by_test : (b : Bool) → cond b (Some e.1) (lookup test es) ≡ Some at → (lookup test es ≡ Some at → at.1 < n) → at.1 < n
  by_test true h later = subst (λ k. k.1 < n) (some_same h) below.0
  by_test false h later = later h

number_differs : (a b : Linked) → a.number < b.number → same_link a b ≡ false
number_differs a b lt =
    ap (λ t. same_object a.source b.source && (is_of_field a.sink a.field b && t)) (ne_eqb a.number b.number (λ same. absurd (omega (arith, lt, same))))
    ∙ ap (λ t. same_object a.source b.source && t) (and_false (is_of_field a.sink a.field b)) ∙ and_false (same_object a.source b.source)

put_second : (l : Linked) (at : SourceKey) (sources : List (SourceKey × SinkKey)) (sinks : List (SinkKey × SourceKey)) → AreKept sources sinks l.number
    → lookup (is_at (sink_cmp (sink_key l))) sinks ≡ Some at → SinksSorted sinks → SourcesSorted (put_source l sources)
    → let sources' = remove_entry (is_at (source_cmp at)) (put_source l sources) in
    SourcesSorted sources' → SinksSorted (put_sink l sinks) → ArePut l sinks sources' (put_sink l sinks)
put_second l at sources sinks kept found was_sorted put_sorted sorted sorted' =
    let old : Linked = by_sink (sink_key l, at) in
    let p : Linked → Bool = λ m. not (same_link old m) in
    let found' = sym (ap (λ test. lookup test sinks) (at_sink (sink_key l))) ∙ found in
    let there = found_stands l.sink l.field at sinks kept.sinks_once found' in
    let in_sinks = sym (any_order (same_link old) (map by_sink sinks)) ∙ there in
    let last = put_source_last l sources kept.sources_below ∙ ap (λ t. t ++ l ∷ []) kept.same in
    let in_sources =
    sym (any_order (same_link old) (map by_source (put_source l sources))) ∙ ap (list_any (same_link old)) last
    ∙ any_left (same_link old) (links_kept sinks) (l ∷ []) there in
    let from_sources =
    ap (λ test. map by_source (remove_entry test (put_source l sources))) (at_source at)
    ∙ source_out old (put_source l sources) (sources_distinct (put_source l sources) put_sorted) in_sources in
    let from_sinks = ap (λ test. map by_sink (remove_entry test sinks)) (at_sink (sink_key l)) ∙ sink_out old sinks kept.sinks_once in_sinks in
    let over = inserted_over by_sink sink_cmp sink_total (sink_key l) (source_key l) (sink_tight (sink_key l)) sinks was_sorted kept.sinks_below in
    let stays : filter p (l ∷ []) ≡ l ∷ [] =
    ap (λ b. cond (not b) (l ∷ []) []) (number_differs old l (found_below l.number (is_at (sink_cmp (sink_key l))) at sinks kept.sinks_below found)) in (
      record {
        same = ap in_order from_sources ∙ sym (filter_order p (map by_source (put_source l sources))) ∙ ap (filter p) last
            ∙ filter_append p (links_kept sinks) (l ∷ []) ∙ ap (λ t. filter p (links_kept sinks) ++ t) stays
            ∙ ap (λ t. t ++ l ∷ []) (filter_order p (map by_sink sinks) ∙ sym (ap in_order from_sinks)) ∙ sym over;
        sources_below = subst (AllBelow (l.number + 1)) (sym from_sources) (below_filter (l.number + 1) p (map by_source (put_source l sources)) (put_source_below l sources kept.sources_below));
        sinks_below = put_sink_below l sinks kept.sinks_below;
        sources_once = sources_distinct (remove_entry (is_at (source_cmp at)) (put_source l sources)) sorted;
        sinks_once = sinks_distinct (put_sink l sinks) sorted';
      },
      over ∙ ap (λ test. links_kept (remove_entry test sinks) ++ l ∷ []) (at_sink (sink_key l)) ∙ ap (λ t. t ++ l ∷ []) (kept_out l.sink l.field sinks kept.sinks_once),
    )

-- a field that had a link
pub put_over : (l : Linked) (at : SourceKey) (sources put sources' : List (SourceKey × SinkKey)) (sinks sinks' : List (SinkKey × SourceKey)) → AreKept sources sinks l.number
    → lookup (is_at (sink_cmp (sink_key l))) sinks ≡ Some at → put ≡ put_source l sources → sources' ≡ remove_entry (is_at (source_cmp at)) put → sinks' ≡ put_sink l sinks
    → SinksSorted sinks → SourcesSorted put → SourcesSorted sources' → SinksSorted sinks' → ArePut l sinks sources' sinks'
put_over l at sources put sources' sinks sinks' kept found is_put is is' was_sorted put_sorted =
    let put_sorted' = subst SourcesSorted is_put put_sorted in
    let is_all = is ∙ ap (remove_entry (is_at (source_cmp at))) is_put in
    let all = remove_entry (is_at (source_cmp at)) (put_source l sources) in
    subst (λ x. SourcesSorted x → SinksSorted sinks' → ArePut l sinks x sinks') (sym is_all)
    (subst (λ y. SourcesSorted all → SinksSorted y → ArePut l sinks all y) (sym is') (put_second l at sources sinks kept found was_sorted put_sorted'))
