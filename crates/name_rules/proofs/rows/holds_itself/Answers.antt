use Rattle.std.proofs.Common.{◌≡◌, ℕ, List, Bool, length, map, ap, ◌∙◌, arith}
use Rattle.std.specs.Prelude.{Vec}
use Rattle.std.specs.declared.alloc.Global.{Global}
use Rattle.name_rules.specs.Rows.{told, row_of}
use Rattle.name_rules.proofs.RowsTold.{row_told}
use Rattle.name_rules.proofs.Inside.{mapped_length}
use Rattle.name_rules.proofs.rows.holds_itself.Goals as goal

pub returns : goal.returns
returns c =
    let types = map (λ (v : Vec ℕ Global). v.items) c.args.types.now in
    let same : length types ≡ length c.args.types.now = mapped_length (λ (v : Vec ℕ Global). v.items) c.args.types.now in
    let at : c.loop-round._round ≡ length types = omega (arith, same) in
    c.told.ensures
    ∙ ap (λ (row : List Bool). told row c.args.number) (c.as_slice-2.ensures.value ∙ (c.loop-round.invariant ∙ ap (λ (k : ℕ). row_of k types c.args.number) at))
    ∙ row_told (length types) types c.args.number c.args.number
