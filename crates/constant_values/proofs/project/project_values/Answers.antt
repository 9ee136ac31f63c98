use Rattle.std.proofs.Common.{◌≡◌, ◌∷◌, ◌++◌, [], List, Option, map, refl, sym, ap, ◌∙◌}
use Rattle.std.specs.declared.alloc.Global.{Global}
use Rattle.std.specs.declared.vec.Vec.{Vec}
use Rattle.declared_names.specs.Outside.{the_outside}
use Rattle.declared_names.specs.View.{space_view}
use Rattle.constant_values.specs.declared.known.Known.{Known as Slot}
use Rattle.constant_values.specs.Names.{values, entries_by}
use Rattle.constant_values.specs.Slots.{are_same_tables}
use Rattle.constant_values.specs.View.{tables_view}
use Rattle.constant_values.proofs.Kept.{rounds_first, rounds_next, rounds_rest, none_kept, one_kept, few_kept}
use Rattle.constant_values.proofs.project.project_values.Goals as goal

pub loop-left-init : goal.loop-left-init
loop-left-init c =
    (rounds_first _ _ _ c.new-earlier.ensures.items c.in_ok-last.ensures, none_kept _ _ c.new-earlier.ensures.items)

pub loop-left-preserved : goal.loop-left-preserved
loop-left-preserved c =
    let spaces = map space_view c.args.spaces.now in
    let earlier = c.loop-left.earlier.items in
    let last = c.loop-left.last in
    let more : c.push.new.self.items ≡ earlier ++ last ∷ [] =
    c.in_ok-push.ensures.items ∙ ap (λ (t : Vec (Vec (Option Slot) Global) Global). earlier ++ t ∷ []) c.replace.ensures.value in (
      rounds_next spaces earlier c.push.new.self.items last c.replace.new.dest.items c.requires c.loop-left.invariant.0
          (ap (λ (t : Vec (Vec (Option Slot) Global) Global). tables_view t.items) c.replace.ensures.after
          ∙ (c.in_ok-next.ensures ∙ ap (λ (t : List (Vec (Option Slot) Global)). entries_by (values (tables_view t) []) the_outside spaces) c.as_slice.ensures.value)) more,
      one_kept earlier c.push.new.self.items last c.loop-left.left _ _ more c.loop-left.invariant.1 c.loop-left-test.true refl,
    )

pub returns-then-are_same_tables : goal.returns-then-are_same_tables
returns-then-are_same_tables c =
    let spaces = map space_view c.args.spaces.now in
    let last = c.loop-left.last in
    let next = c.in_ok-next.next in
    rounds_rest spaces _ next.items c.requires c.loop-left.invariant.0
    (c.in_ok-next.ensures ∙ ap (λ (t : List (Vec (Option Slot) Global)). entries_by (values (tables_view t) []) the_outside spaces) c.as_slice.ensures.value)
    (ap (λ (t : List (Vec (Option Slot) Global)). are_same_tables (tables_view t) (tables_view last.items)) (sym c.as_slice-in-loop-left.ensures.value)
    ∙ (ap (λ (t : List (Vec (Option Slot) Global)). are_same_tables (tables_view c.as_slice-in-loop-left.result.now) (tables_view t))
    (sym c.as_slice-in-loop-left-2.ensures.value)
    ∙ (sym c.are_same_tables.ensures ∙ c.if-are_same_tables.true)))
    (few_kept _ _ _ _ c.loop-left.invariant.1 c.in_ok-most.ensures) refl
