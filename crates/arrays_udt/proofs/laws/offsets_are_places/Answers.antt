use Rattle.arrays_udt.proofs.Places.{layout_below, place_at-layout, is_place-place_at, layout-place_at}
use Rattle.arrays_udt.proofs.laws.offsets_are_places.Goals as goal

pub returns : goal.returns
returns c = record { inside = layout_below; place = place_at-layout; within = is_place-place_at; offset = layout-place_at }
