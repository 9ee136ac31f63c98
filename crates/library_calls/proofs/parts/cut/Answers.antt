use Rattle.std.proofs.Common.{◌≡◌, ◌<◌, ◌+◌, ◌-◌, length, take, drop, arith}
use Rattle.std.proofs.lemmas.Grind.{common_steps}
use Rattle.library_calls.proofs.PartsLaws.{parts_cut}
use Rattle.library_calls.proofs.parts.cut.Goals as goal

pub returns-clause-parts : goal.returns-clause-parts
returns-clause-parts c =
    let units = c.args.units.now in
    let behind = c.first_place-place.result - 1 + length c.args.separator.now in
    let some : 0 < c.first_place-place.result = omega arith in
    let whole : take (length units - behind) (drop behind units) ≡ drop behind units = grind (arith, common_steps) in
    rw whole (parts_cut _ _ _ c.requires some c.first_place-place.ensures.value)
