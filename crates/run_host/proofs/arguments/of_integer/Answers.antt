use Rattle.std.proofs.Common.{◌≡◌, arith, w32, to_z, of_z}
use Rattle.std.specs.Prelude.{FitsSigned}
use Rattle.std.proofs.lemmas.Int.{ints}
use Rattle.vba_values.specs.declared.types.WholeKind.TheVariants as kind
use Rattle.vba_values.proofs.TwoNumbers.{fits_long}
use Rattle.run_host.proofs.Parts.{whole_itself}
use Rattle.run_host.proofs.arguments.of_integer.Goals as goal

pub returns : goal.returns
returns c =
    let same : to_z w32 (of_z w32 c.from.result) ≡ c.args.number = omega (arith, ints) in
    let fits : FitsSigned w32 c.args.number = omega (arith, ints) in
    λ m. rw same (whole_itself kind.Integer c.args.number m (fits_long c.args.number fits))
