use Rattle.std.proofs.Common.{◌≡◌, ◌<◌, ◌-◌, List, true, length, map, sym, ap, ◌∙◌, arith, rules}
use Rattle.std.specs.List.{list_all}
use Rattle.vba_values.specs.Val.{udt, vals_of}
use Rattle.arrays_udt.specs.Fields.{Field, field_of, types_of}
use Rattle.arrays_udt.specs.Fresh.{field_by, udt_within}
use Rattle.arrays_udt.specs.Nesting.{field_nested, udt_nested}
use Rattle.arrays_udt.specs.declared.udt.UdtType.{UdtType}
use Rattle.arrays_udt.proofs.Inner.{view_udt_of}
use Rattle.arrays_udt.proofs.Nested.{all_map_at, nested_inside, udt_inside, fields_at_index, length_types}
use Rattle.arrays_udt.proofs.initial.+fresh.Goals as goal

pub fresh_fields-fresh_field-requires : goal.fresh_fields-fresh_field-requires
fresh_fields-fresh_field-requires t c =
    let nested : list_all (field_nested (udt_nested c.args.depth (types_of c.args.types.now.items))) (map field_of c.deref-field-items.result.now) ≡ true = rw c.deref-field-items.ensures.value c.requires in
    let at = all_map_at (field_nested (udt_nested c.args.depth (types_of c.args.types.now.items))) field_of c.deref-field-items.result.now c.loop-field.field-index c.field-item.result (omega arith) nested in
    (search rules, rw c.field-item.is at)

pub fresh_udt-returns : goal.fresh_udt-returns
fresh_udt-returns t c =
    let types = types_of c.args.types.now.items in
    let nested = nested_inside c.args.depth (types_of c.args.types.now.items) c.args.number c.requires in
    let some : 0 < c.args.depth = nested.0 in
    let known : c.args.number < length (types_of c.args.types.now.items) = nested.1 in
    let below : c.args.number < length c.args.types.now.items = omega (arith, length_types c.args.types.now.items) in
    view_udt_of _
    ∙ ap (udt c.args.number) c.in_ok-fields.ensures
    ∙ ap (λ (u : UdtType). udt c.args.number (vals_of (map (field_by (udt_within (c.args.depth - 1) types)) (map field_of u.fields.items)))) c.index-udt.ensures
    ∙ ap (λ (fields : List Field). udt c.args.number (vals_of (map (field_by (udt_within (c.args.depth - 1) types)) fields))) (sym (fields_at_index c.args.types.now.items c.args.number c.index-udt.result.now below))
    ∙ sym (udt_inside c.args.depth types c.args.number some)
