-- The last row has the last field.
use Rattle.std.proofs.Common.{◌-◌, ◌++◌, ◌∷◌, [], length, sym, ap, subst, ◌∙◌, arith}
use Rattle.std.proofs.lemmas.List.{length-append}
use Rattle.std.specs.Prelude.{slice_index_or, slice_set}
use Rattle.field_table.specs.Table.{RiseTo, pieces}
use Rattle.field_table.proofs.Pieces.{length_pieces, piece_grown, rise_later}
use Rattle.field_table.proofs.table.FieldTable.push_field.Goals as goal

pub invariant_of-self-2 : goal.invariant_of-self-2
invariant_of-self-2 c =
    subst (λ n. RiseTo n c.self.inside.rows.items) (sym (ap length c.in_ok-push.ensures.ok))
    (rise_later (length c.self.inside.fields) (length (c.self.inside.fields ++ c.args.text.now ∷ [])) c.self.inside.rows.items
    (omega (arith, length-append c.self.inside.fields (c.args.text.now ∷ []))) c.self.invariant)

pub returns-clause-ok : goal.returns-clause-ok
returns-clause-ok c =
    let last = length c.args.self.now - 1 in
    ap (λ fields. pieces fields c.self.inside.rows.items) c.in_ok-push.ensures.ok
    ∙ piece_grown c.self.inside.fields (c.args.text.now ∷ []) c.self.inside.rows.items last c.self.invariant
    (omega (arith, length_pieces c.self.inside.fields c.self.inside.rows.items, ap length c.self.view_is, c.requires))
    ∙ ap (λ old. slice_set old last (slice_index_or old last [] ++ c.args.text.now ∷ [])) c.self.view_is
