-- Serves the code: how links are kept: under their source and number, and under their sink and field.
use Rattle.std.specs.Prelude.{◌≡◌, ℕ, ◌+◌, Bool, ◌&&◌, nat_eq, List, [], ◌∷◌, ◌++◌, map}
use Rattle.std.specs.List.{IsDistinct}
use Rattle.std.specs.Map.{keys_of}
use Rattle.vba_values.specs.declared.object.ObjId.{ObjId}
use Rattle.vba_values.specs.declared.object.ObjRef.{ObjRef}
use Rattle.vba_events.specs.declared.linked.Linked.{Linked}
use Rattle.vba_events.specs.Links.{without_field}
use Rattle.vba_values.specs.Objects.{same_object}
use Rattle.vba_events.specs.Order.{in_order, AllBelow}

-- a source and a set number
abbrev pub SourceKey : Type 0
SourceKey = ObjRef × ℕ

-- an object and a field of it
abbrev pub SinkKey : Type 0
SinkKey = ObjId × ℕ

abbrev pub same_source_key : SourceKey → SourceKey → Bool
same_source_key a b = same_object a.0 b.0 && nat_eq a.1 b.1

abbrev pub same_sink_key : SinkKey → SinkKey → Bool
same_sink_key a b = nat_eq a.0.0 b.0.0 && nat_eq a.1 b.1

-- the link that is kept under its source
abbrev pub by_source : SourceKey × SinkKey → Linked
by_source e = record { source = e.0.0; sink = e.1.0; field = e.1.1; number = e.0.1 }

-- the link that is kept under its sink
abbrev pub by_sink : SinkKey × SourceKey → Linked
by_sink e = record { source = e.1.0; sink = e.0.0; field = e.0.1; number = e.1.1 }

-- the links that are kept under their sinks, in order
abbrev pub links_kept : List (SinkKey × SourceKey) → List Linked
links_kept sinks = in_order (map by_sink sinks)

-- both keep the same links, each once, with numbers below the next one
pub record AreKept (sources : List (SourceKey × SinkKey)) (sinks : List (SinkKey × SourceKey)) (next : ℕ) : Type 0 where
  pub same : in_order (map by_source sources) ≡ links_kept sinks
  pub sources_below : AllBelow next (map by_source sources)
  pub sinks_below : AllBelow next (map by_sink sinks)
  pub sources_once : IsDistinct same_source_key (keys_of sources)
  pub sinks_once : IsDistinct same_sink_key (keys_of sinks)

-- the new link was put in, and that of its field was taken out
abbrev pub ArePut : Linked → List (SinkKey × SourceKey) → List (SourceKey × SinkKey) → List (SinkKey × SourceKey) → Type 0
ArePut link sinks sources' sinks' =
    AreKept sources' sinks' (link.number + 1) × (links_kept sinks' ≡ without_field link.sink link.field (links_kept sinks) ++ link ∷ [])

-- the link of the field was taken out
abbrev pub AreTakenOut : ObjId → ℕ → List (SinkKey × SourceKey) → ℕ → List (SourceKey × SinkKey) → List (SinkKey × SourceKey) → Type 0
AreTakenOut sink field sinks next sources' sinks' = AreKept sources' sinks' next × (links_kept sinks' ≡ without_field sink field (links_kept sinks))
