use Rattle.std.proofs.Common.{sym, ◌∙◌}
use Rattle.bound_names.proofs.properties.part_of.Goals as goal

pub returns : goal.returns
returns c = record { is = sym c.property_in.ensures ∙ c.in-Some.is; writer = record { found = sym c.in-Some-property_with.ensures.is; entry = c.in-Some-property_with.ensures.entry } }
