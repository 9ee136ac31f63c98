-- What each change of the two maps leaves.
use Rattle.std.proofs.Common.{◌≡◌, ℕ, Bool, true, false, not, List, [], map, Some, None, inl, inr, refl, sym, ap, subst, ◌∙◌}
use Rattle.std.specs.Prelude.{◌&&◌, nat_eq}
use Rattle.std.specs.List.{filter, list_any, IsDistinct}
use Rattle.std.specs.List.Sorted.{IsStrictlySortedBy}
use Rattle.std.specs.Map.{keys_of, lookup, remove_entry}
use Rattle.std.specs.BTreeMap.{is_at}
use Rattle.std.proofs.lemmas.Map.{none_passes_from_lookup}
use Rattle.std.proofs.lemmas.Map.Keys.{IsDistinct-from_sorted}
use Rattle.vba_values.specs.declared.object.ObjId.{ObjId}
use Rattle.vba_events.specs.declared.linked.Linked.{Linked}
use Rattle.vba_events.specs.Kept.{SourceKey, SinkKey, same_source_key, same_sink_key, by_source, by_sink, links_kept, AreKept, AreTakenOut}
use Rattle.vba_events.specs.Links.{is_of_field, same_link, without_field, stands}
use Rattle.vba_values.specs.Objects.{same_object}
use Rattle.vba_events.specs.Order.{in_order, AllBelow}
use Rattle.vba_events.proofs.Entries.{remove_absent, removed, finds, any_found}
use Rattle.vba_events.proofs.Keys.{source_cmp, sink_cmp, source_tied, sink_tied, source_itself, source_alike, sink_alike}
use Rattle.vba_events.proofs.Order.{below_filter, filter_order, any_order}

-- the tests of a key are the same
pub at_source : (k : SourceKey) → is_at (source_cmp k) ≡ same_source_key k
at_source k = λ i x. source_tied k x i

pub at_sink : (k : SinkKey) → is_at (sink_cmp k) ≡ same_sink_key k
at_sink k = λ i x. sink_tied k x i

pub sources_distinct : (sources : List (SourceKey × SinkKey)) → IsStrictlySortedBy source_cmp (keys_of sources) → IsDistinct same_source_key (keys_of sources)
sources_distinct sources sorted =
    subst (λ same. IsDistinct same (keys_of sources)) (λ i x y. source_tied x y i) (IsDistinct-from_sorted source_cmp (keys_of sources) sorted)

pub sinks_distinct : (sinks : List (SinkKey × SourceKey)) → IsStrictlySortedBy sink_cmp (keys_of sinks) → IsDistinct same_sink_key (keys_of sinks)
sinks_distinct sinks sorted =
    subst (λ same. IsDistinct same (keys_of sinks)) (λ i x y. sink_tied x y i) (IsDistinct-from_sorted sink_cmp (keys_of sinks) sorted)

-- a link that isn't of the key isn't the link
pub and_false : (a : Bool) → (a && false) ≡ false
and_false true = refl
and_false false = refl

and_swap : (a b c : Bool) → (a && (b && c)) ≡ (b && (a && c))
and_swap true b c = refl
and_swap false true c = refl
and_swap false false c = refl

other_source : (l : Linked) (e : SourceKey × SinkKey) → same_source_key (l.source, l.number) e.0 ≡ false → same_link l (by_source e) ≡ false
other_source l e differs = by_cases (same_object l.source e.0.0) (is_of_field l.sink l.field (by_source e)) (nat_eq l.number e.0.1) differs where
  by_cases : (a b c : Bool) → (a && c) ≡ false → (a && (b && c)) ≡ false
  by_cases true true c h = h
  by_cases true false c h = refl
  by_cases false b c h = refl

other_sink : (l : Linked) (e : SinkKey × SourceKey) → same_sink_key (l.sink, l.field) e.0 ≡ false → same_link l (by_sink e) ≡ false
other_sink l e differs = ap (λ t. same_object l.source e.1.0 && (t && nat_eq l.number e.1.1)) differs ∙ and_false (same_object l.source e.1.0)

-- whether that very link stands, by what is kept at its sink and field
pub stands_found : (l : Linked) (sinks : List (SinkKey × SourceKey)) → IsDistinct same_sink_key (keys_of sinks)
    → stands l (links_kept sinks) ≡ finds by_sink same_sink_key (l.sink, l.field) (sink_alike (l.sink, l.field)) (same_source_key (l.source, l.number)) (lookup (same_sink_key (l.sink, l.field)) sinks)
stands_found l sinks once =
    any_order (same_link l) (map by_sink sinks)
    ∙ any_found by_sink same_sink_key (l.sink, l.field) (sink_alike (l.sink, l.field)) (same_link l) (same_source_key (l.source, l.number))
    (λ e. and_swap (same_object l.source e.1.0) (same_sink_key (l.sink, l.field) e.0) (nat_eq l.number e.1.1)) sinks once

-- without the key of a field the links are those without that field
pub field_out : (sink : ObjId) (field : ℕ) (sinks : List (SinkKey × SourceKey)) → IsDistinct same_sink_key (keys_of sinks)
    → map by_sink (remove_entry (same_sink_key (sink, field)) sinks) ≡ without_field sink field (map by_sink sinks)
field_out sink field sinks once =
    removed by_sink same_sink_key (sink, field) (sink_alike (sink, field)) (is_of_field sink field) (λ e h. h) sinks once (inl (λ e h. h))

pub kept_out : (sink : ObjId) (field : ℕ) (sinks : List (SinkKey × SourceKey)) → IsDistinct same_sink_key (keys_of sinks)
    → links_kept (remove_entry (same_sink_key (sink, field)) sinks) ≡ without_field sink field (links_kept sinks)
kept_out sink field sinks once = ap in_order (field_out sink field sinks once) ∙ sym (filter_order (λ link. not (is_of_field sink field link)) (map by_sink sinks))

-- without the key of a link the links are those but it
pub source_out : (l : Linked) (sources : List (SourceKey × SinkKey)) → IsDistinct same_source_key (keys_of sources) → list_any (same_link l) (map by_source sources) ≡ true
    → map by_source (remove_entry (same_source_key (l.source, l.number)) sources) ≡ filter (λ k. not (same_link l k)) (map by_source sources)
source_out l sources once any =
    removed by_source same_source_key (l.source, l.number) (source_alike (l.source, l.number)) (same_link l) (other_source l) sources once (inr any)

pub sink_out : (l : Linked) (sinks : List (SinkKey × SourceKey)) → IsDistinct same_sink_key (keys_of sinks) → list_any (same_link l) (map by_sink sinks) ≡ true
    → map by_sink (remove_entry (same_sink_key (l.sink, l.field)) sinks) ≡ filter (λ k. not (same_link l k)) (map by_sink sinks)
sink_out l sinks once any =
    removed by_sink same_sink_key (l.sink, l.field) (sink_alike (l.sink, l.field)) (same_link l) (other_sink l) sinks once (inr any)

-- the link that is found at a field stands
pub found_stands : (sink : ObjId) (field : ℕ) (at : SourceKey) (sinks : List (SinkKey × SourceKey)) → IsDistinct same_sink_key (keys_of sinks)
    → lookup (same_sink_key (sink, field)) sinks ≡ Some at → stands (by_sink ((sink, field), at)) (links_kept sinks) ≡ true
found_stands sink field at sinks once found =
    stands_found (by_sink ((sink, field), at)) sinks once
    ∙ ap (λ o. finds by_sink same_sink_key (sink, field) (sink_alike (sink, field)) (same_source_key at) o) found ∙ source_itself at

found_out : (sink : ObjId) (field : ℕ) (at : SourceKey) (sources : List (SourceKey × SinkKey)) (sinks : List (SinkKey × SourceKey)) (next : ℕ)
    → AreKept sources sinks next → lookup (is_at (sink_cmp (sink, field))) sinks ≡ Some at
    → let sources' = remove_entry (is_at (source_cmp at)) sources in let sinks' = remove_entry (is_at (sink_cmp (sink, field))) sinks in
    IsStrictlySortedBy source_cmp (keys_of sources') → IsStrictlySortedBy sink_cmp (keys_of sinks') → AreTakenOut sink field sinks next sources' sinks'
found_out sink field at sources sinks next kept found sorted sorted' =
    let k : SinkKey = (sink, field) in
    let l : Linked = by_sink (k, at) in
    let found' = sym (ap (λ test. lookup test sinks) (at_sink k)) ∙ found in
    let there = found_stands sink field at sinks kept.sinks_once found' in
    let in_sinks = sym (any_order (same_link l) (map by_sink sinks)) ∙ there in
    let in_sources = sym (any_order (same_link l) (map by_source sources)) ∙ ap (list_any (same_link l)) kept.same ∙ there in
    let out = λ (ls : List Linked). filter (λ m. not (same_link l m)) ls in
    let from_sources = ap (λ test. map by_source (remove_entry test sources)) (at_source at) ∙ source_out l sources kept.sources_once in_sources in
    let from_sinks = ap (λ test. map by_sink (remove_entry test sinks)) (at_sink k) ∙ sink_out l sinks kept.sinks_once in_sinks in (
      record {
        same = ap in_order from_sources ∙ sym (filter_order (λ m. not (same_link l m)) (map by_source sources)) ∙ ap out kept.same
            ∙ filter_order (λ m. not (same_link l m)) (map by_sink sinks) ∙ sym (ap in_order from_sinks);
        sources_below = subst (AllBelow next) (sym from_sources) (below_filter next (λ m. not (same_link l m)) (map by_source sources) kept.sources_below);
        sinks_below = subst (AllBelow next) (sym from_sinks) (below_filter next (λ m. not (same_link l m)) (map by_sink sinks) kept.sinks_below);
        sources_once = sources_distinct (remove_entry (is_at (source_cmp at)) sources) sorted;
        sinks_once = sinks_distinct (remove_entry (is_at (sink_cmp k)) sinks) sorted';
      },
      ap (λ test. links_kept (remove_entry test sinks)) (at_sink k) ∙ kept_out sink field sinks kept.sinks_once,
    )

-- a field that had a link
pub taken_out : (sink : ObjId) (field : ℕ) (at : SourceKey) (sources sources' : List (SourceKey × SinkKey)) (sinks sinks' : List (SinkKey × SourceKey)) (next : ℕ)
    → AreKept sources sinks next → lookup (is_at (sink_cmp (sink, field))) sinks ≡ Some at
    → sources' ≡ remove_entry (is_at (source_cmp at)) sources → sinks' ≡ remove_entry (is_at (sink_cmp (sink, field))) sinks
    → IsStrictlySortedBy source_cmp (keys_of sources') → IsStrictlySortedBy sink_cmp (keys_of sinks') → AreTakenOut sink field sinks next sources' sinks'
taken_out sink field at sources sources' sinks sinks' next kept found is is' =
    let all = remove_entry (is_at (source_cmp at)) sources in
    subst (λ x. IsStrictlySortedBy source_cmp (keys_of x) → IsStrictlySortedBy sink_cmp (keys_of sinks') → AreTakenOut sink field sinks next x sinks') (sym is)
    (subst (λ y. IsStrictlySortedBy source_cmp (keys_of all) → IsStrictlySortedBy sink_cmp (keys_of y) → AreTakenOut sink field sinks next all y) (sym is')
    (found_out sink field at sources sinks next kept found))

-- where no link is found, none is left out
pub none_out : (sink : ObjId) (field : ℕ) (sinks : List (SinkKey × SourceKey)) → IsDistinct same_sink_key (keys_of sinks) → lookup (is_at (sink_cmp (sink, field))) sinks ≡ None
    → links_kept sinks ≡ without_field sink field (links_kept sinks)
none_out sink field sinks once none =
    let k : SinkKey = (sink, field) in
    let none' = sym (ap (λ test. lookup test sinks) (at_sink k)) ∙ none in
    ap links_kept (sym (remove_absent by_sink (same_sink_key k) sinks (none_passes_from_lookup (same_sink_key k) sinks none')))
    ∙ kept_out sink field sinks once

-- a field that had no link
pub none_taken : (sink : ObjId) (field : ℕ) (sources : List (SourceKey × SinkKey)) (sinks sinks' : List (SinkKey × SourceKey)) (next : ℕ)
    → AreKept sources sinks next → lookup (is_at (sink_cmp (sink, field))) sinks ≡ None → sinks' ≡ sinks → AreTakenOut sink field sinks next sources sinks'
none_taken sink field sources sinks sinks' next kept none is =
    subst (AreTakenOut sink field sinks next sources) (sym is) (kept, none_out sink field sinks kept.sinks_once none)

-- two empty maps
pub nothing_kept : (next : ℕ) (sources : List (SourceKey × SinkKey)) (sinks : List (SinkKey × SourceKey)) → sources ≡ [] → sinks ≡ []
    → IsStrictlySortedBy source_cmp (keys_of sources) → IsStrictlySortedBy sink_cmp (keys_of sinks) → AreKept sources sinks next
nothing_kept next sources sinks none none' sorted sorted' = record {
  same = ap (λ es. in_order (map by_source es)) none ∙ sym (ap links_kept none');
  sources_below = subst (λ es. AllBelow next (map by_source es)) (sym none) tt;
  sinks_below = subst (λ es. AllBelow next (map by_sink es)) (sym none') tt;
  sources_once = sources_distinct sources sorted;
  sinks_once = sinks_distinct sinks sorted';
}
