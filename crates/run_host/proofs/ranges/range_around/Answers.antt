use Rattle.std.proofs.Common.{◌≡◌, arith}
use Rattle.run_host.proofs.Parts.{spanned_joined}
use Rattle.run_host.proofs.ranges.range_around.Goals as goal

pub returns : goal.returns
returns c =
    let first : c.args.first.sheet.0 ≡ c.args.sheet = omega arith in
    let last : c.args.last.sheet.0 ≡ c.args.sheet = omega arith in
    λ m. rw (spanned_joined c.args.sheet c.args.first c.args.last m first last, ← c.area_around.ensures.area) (c.area_found.ensures m)
