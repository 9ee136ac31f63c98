use Rattle.std.proofs.Common.{◌++◌, ◌∷◌, [], length, sym, ap, subst, ◌∙◌}
use Rattle.field_table.specs.Table.{RiseTo, pieces}
use Rattle.field_table.proofs.Pieces.{piece_opened, rise_more}
use Rattle.field_table.proofs.table.FieldTable.push_row.Goals as goal

pub invariant_of-self-2 : goal.invariant_of-self-2
invariant_of-self-2 c =
    subst (RiseTo (length c.self.inside.fields)) (sym (c.in_ok-push.ensures.items ∙ ap (λ k. c.self.inside.rows.items ++ k ∷ []) c.len.ensures))
    (rise_more (length c.self.inside.fields) c.self.inside.rows.items c.self.invariant)

pub returns-clause-ok : goal.returns-clause-ok
returns-clause-ok c =
    ap (pieces c.self.inside.fields) (c.in_ok-push.ensures.items ∙ ap (λ k. c.self.inside.rows.items ++ k ∷ []) c.len.ensures)
    ∙ piece_opened c.self.inside.fields c.self.inside.rows.items c.self.invariant
    ∙ ap (λ rows. rows ++ [] ∷ []) c.self.view_is
