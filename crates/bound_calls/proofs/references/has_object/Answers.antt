use Rattle.std.proofs.Common.{sym, ◌∙◌}
use Rattle.bound_calls.proofs.LastNodes.{gives_some}
use Rattle.bound_calls.proofs.references.has_object.Goals as goal

pub returns : goal.returns
returns c = gives_some c.args.ending c.kind_gives.result (sym c.is_variant.ensures ∙ c.if-not-is_variant.false) c.kind_gives.ensures
