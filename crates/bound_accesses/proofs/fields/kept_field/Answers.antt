use Rattle.std.proofs.Common.{option_map, sym, ap}
use Rattle.bound_names.specs.View.{within_view}
use Rattle.bound_accesses.proofs.fields.kept_field.Goals as goal

pub kept_of_class-requires-clause-class : goal.kept_of_class-requires-clause-class
kept_of_class-requires-clause-class c = sym c.in-Some-class_in.ensures

pub kept_of_class-requires-clause-within : goal.kept_of_class-requires-clause-within
kept_of_class-requires-clause-within c = ap (λ o. option_map within_view o) c.in-Some.is

pub kept_plain-requires-clause-class : goal.kept_plain-requires-clause-class
kept_plain-requires-clause-class c = sym c.in-None.ensures

pub kept_plain-requires-clause-within : goal.kept_plain-requires-clause-within
kept_plain-requires-clause-within c = ap (λ o. option_map within_view o) c.in-Some.is
