use Rattle.bound_actions.proofs.late_items.is_as_place.Goals as goal

pub returns-in-ValueAsPlace : goal.returns-in-ValueAsPlace
returns-in-ValueAsPlace c = c.in-ValueAsPlace.is
