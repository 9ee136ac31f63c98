use Rattle.std.proofs.Common.{◌≡◌, map, drop}
use Rattle.project_tables.specs.Signed.{signed_view}
use Rattle.project_tables.specs.Steps.{parameters_at}
use Rattle.project_tables.proofs.signing.parameters_at.Given as goal

abbrev pub invariant-loop-signature : goal.invariant-loop-signature
invariant-loop-signature l = parameters_at (map signed_view (drop l.signature-index l.signatures)) l.number ≡ parameters_at (map signed_view l.signatures) l.number
