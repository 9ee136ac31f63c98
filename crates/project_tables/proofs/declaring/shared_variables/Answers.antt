use Rattle.std.proofs.Common.{ℕ, ◌<◌, subst, sym}
use Rattle.project_tables.proofs.Places.{module_here, rows_within}
use Rattle.project_tables.proofs.declaring.shared_variables.Goals as goal

pub index-requires : goal.index-requires
index-requires c =
    subst (λ (n : ℕ). c.loop-number.number < n) (sym c.args.rows.now.of.ok.0)
    (rows_within c.args.spaces.now c.args.rows.now c.loop-number.number c.requires.rows c.loop-number-test.true)

pub push_shared-requires : goal.push_shared-requires
push_shared-requires c =
    module_here c.args.spaces.now c.args.rows.now c.loop-number.number c.index-spaces-number.result c.index.result.now c.as_slice-of.result.now
    c.requires.numbered c.requires.rows c.loop-number-test.true c.index-spaces-number.is c.index.ensures c.as_slice-of.ensures.value
