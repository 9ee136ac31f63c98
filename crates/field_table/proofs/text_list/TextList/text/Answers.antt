-- The place is one of the frames, so its mark is there, and the frames from the mark on are whole.
use Rattle.std.proofs.Common.{◌<◌, [], length, sym, ap, ◌∙◌, arith}
use Rattle.std.specs.Prelude.{slice_index_or}
use Rattle.field_table.proofs.Frames.{behind_mark, length_texts, mark_below, mark_inside, text_at, whole_at, whole_from_mark}
use Rattle.field_table.proofs.text_list.TextList.text.Goals as goal

pub frames_from-requires-clause-marked : goal.frames_from-requires-clause-marked
frames_from-requires-clause-marked c =
    let inside : c.args.place < c.self.inside.count = omega (arith, length_texts c.self.inside.count c.self.inside.units.items, ap length c.self.view_is) in
    rw c.deref-2.ensures.value (mark_inside c.self.inside.count c.args.place c.self.inside.units.items c.self.inside.marks.items c.self.invariant inside)

pub frames_from-requires-clause-below : goal.frames_from-requires-clause-below
frames_from-requires-clause-below c =
    let inside : c.args.place < c.self.inside.count = omega (arith, length_texts c.self.inside.count c.self.inside.units.items, ap length c.self.view_is) in
    rw (c.deref.ensures.value, c.deref-2.ensures.value) (mark_below c.self.inside.count c.args.place c.self.inside.units.items c.self.inside.marks.items
    c.self.invariant inside)

pub frames_from-requires-clause-whole : goal.frames_from-requires-clause-whole
frames_from-requires-clause-whole c =
    let inside : c.args.place < c.self.inside.count = omega (arith, length_texts c.self.inside.count c.self.inside.units.items, ap length c.self.view_is) in
    rw (c.deref.ensures.value, c.deref-2.ensures.value) (whole_from_mark c.self.inside.count c.args.place c.self.inside.units.items c.self.inside.marks.items
    c.self.invariant inside)

pub first_text-requires : goal.first_text-requires
first_text-requires c =
    let inside : c.args.place < c.self.inside.count = omega (arith, length_texts c.self.inside.count c.self.inside.units.items, ap length c.self.view_is) in
    rw (
      c.frames_from.ensures,
      c.deref.ensures.value,
      c.deref-2.ensures.value,
      behind_mark c.self.inside.count c.args.place c.self.inside.units.items
          c.self.inside.marks.items c.self.invariant inside,
    )
    (whole_at c.self.inside.count c.args.place c.self.inside.units.items c.self.invariant.whole inside)

pub returns : goal.returns
returns c =
    let inside : c.args.place < c.self.inside.count = omega (arith, length_texts c.self.inside.count c.self.inside.units.items, ap length c.self.view_is) in
    rw (
      c.first_text.ensures,
      c.frames_from.ensures,
      c.deref.ensures.value,
      c.deref-2.ensures.value,
      behind_mark c.self.inside.count c.args.place
          c.self.inside.units.items c.self.inside.marks.items c.self.invariant inside,
    )
    (sym (text_at c.self.inside.count c.args.place c.self.inside.units.items inside) ∙ ap (λ texts. slice_index_or texts c.args.place []) c.self.view_is)
