use Rattle.std.proofs.Common.{sym, ◌∙◌}
use Rattle.bound_calls.proofs.TypedNodes.{host_breaks, typed_breaks}
use Rattle.bound_calls.proofs.references.default_rule.Goals as goal

pub returns-then-is_typed_kind : goal.returns-then-is_typed_kind
returns-then-is_typed_kind c = typed_breaks c.args.ending c.type_rule.result (sym c.is_typed_kind.ensures ∙ c.if-is_typed_kind.true) c.type_rule.ensures

pub returns-in-HostObject : goal.returns-in-HostObject
returns-in-HostObject c = host_breaks c.args.ending c.in-HostObject.reference c.object_rule.result c.in-HostObject.is c.object_rule.ensures
