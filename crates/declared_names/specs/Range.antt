-- Serves the code: the parts that stand in a range.
use Rattle.std.specs.Prelude.{◌-◌, ◌&&◌, nat_le, List, [], length, take, drop, if◌then◌else◌}
use Rattle.module_parts.specs.declared.part.Part.{Part}
use Rattle.declared_names.specs.declared.range.PartRange.{PartRange}

-- the parts from one place up to another, or none where these aren't there
abbrev pub range_items : PartRange → List Part
range_items r =
    if nat_le r.start r.end && nat_le r.end (length r.all.now.items) then take (r.end - r.start) (drop r.start r.all.now.items) else []
