use Rattle.std.proofs.Common.{◌≡◌, ◌+◌, length, drop}
use Rattle.module_parts.specs.View.{parts_view}
use Rattle.binder.specs.Declarations.{body_of}
use Rattle.declared_names.proofs.body.body_length.Given as goal

abbrev pub invariant-loop-number : goal.invariant-loop-number
invariant-loop-number l = length (body_of (parts_view l.parts)) ≡ l.number + length (body_of (parts_view (drop l.number l.parts)))
