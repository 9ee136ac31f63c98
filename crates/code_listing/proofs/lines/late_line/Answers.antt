use Rattle.std.proofs.Common.{ℕ, sym, ap, length, ◌∙◌}
use Rattle.bound_project.specs.Pieces.{name_in, order_in}
use Rattle.bound_project.proofs.Lists.{flags_count}
use Rattle.pcode.specs.View.{tables_of}
use Rattle.code_listing.specs.Listing.{listed_as}
use Rattle.code_listing.proofs.lines.late_line.Goals as goal

pub returns : goal.returns
returns c =
    let t = tables_of c.args.code.now in
    c.name_line.ensures ∙ ap (λ (k : ℕ). listed_as c.args.op (length (name_in t c.args.member.name)) k) (sym (flags_count c.args.member.arguments (order_in t c.args.member.given)))
