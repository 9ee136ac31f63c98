-- The last frame stands behind those that there were.
use Rattle.std.proofs.Common.{rules, ◌≡◌, ◌<◌, ◌+◌, ◌^◌, ◌++◌, ◌∷◌, [], length, ap, ◌∙◌, arith}
use Rattle.field_table.specs.Frames.{frame, texts_in}
use Rattle.field_table.proofs.Frames.{frame_added, frames_fit, texts_with}
use Rattle.field_table.proofs.text_list.TextList.push.Goals as goal

pub overflow_add-self : goal.overflow_add-self
overflow_add-self c =
    let marked = c.in_ok-mark_frame.ensures.ok in
    let longer : c.mark_frame.new.units.items ≡ c.self.inside.units.items ++ frame c.args.text.now = marked.0 ∙ c.in_ok-push_frame.ensures.ok in
    let fit : length c.mark_frame.new.units.items < 2 ^ 32 = omega (arith, ap length marked.0, c.in_ok-push_frame.ensures.fit) in
    omega (
      arith,
      frames_fit c.self.inside.count c.self.inside.units.items c.mark_frame.new.units.items c.self.inside.marks.items c.args.text.now
          c.self.invariant longer fit,
    )

pub invariant_of-self-2 : goal.invariant_of-self-2
invariant_of-self-2 c =
    let begin : c.len-begin.result ≡ length c.self.inside.units.items = search rules in
    let marked = c.in_ok-mark_frame.ensures.ok in
    let longer : c.mark_frame.new.units.items ≡ c.self.inside.units.items ++ frame c.args.text.now = marked.0 ∙ c.in_ok-push_frame.ensures.ok in
    frame_added c.self.inside.count c.len-begin.result c.self.inside.units.items c.mark_frame.new.units.items c.self.inside.marks.items
    c.mark_frame.new.marks.items c.args.text.now
    c.self.invariant longer (omega (arith, ap length marked.0, c.in_ok-push_frame.ensures.fit)) begin marked.1

pub returns-clause-ok : goal.returns-clause-ok
returns-clause-ok c =
    let longer : c.mark_frame.new.units.items ≡ c.self.inside.units.items ++ frame c.args.text.now = c.in_ok-mark_frame.ensures.ok.0
    ∙ c.in_ok-push_frame.ensures.ok in
    ap (texts_in (c.self.inside.count + 1)) longer
    ∙ texts_with c.self.inside.count c.self.inside.units.items c.args.text.now c.self.invariant.whole c.self.invariant.all
    ∙ ap (λ texts. texts ++ c.args.text.now ∷ []) c.self.view_is
