use Rattle.std.proofs.Common.{◌≡◌, suc, true, Some, sym, subst, ap, ◌∙◌, arith}
use Rattle.std.specs.Prelude.{Bool, option_map}
use Rattle.vba_values.specs.View.{view}
use Rattle.bound_project.specs.View.{variable_view}
use Rattle.vba_meaning.specs.Memory.{found, top}
use Rattle.vba_meaning.specs.Effects.{Effect}
use Rattle.run_memory.specs.Acts.{Acts}
use Rattle.run_memory.specs.View.{memory_view}
use Rattle.run_arrays.specs.Walks.{item_walked, walk_of}
use Rattle.run_arrays.proofs.Walked.{next_more}
use Rattle.run_arrays.proofs.each.each_next.Goals as goal

pub returns : goal.returns
returns c =
    let m = memory_view c.args.memory.now in
    let kept = found (top m).keeps c.args.header in
    let P : Effect Bool → Type 0 = λ e. Acts (λ (further : Bool). further) c.item_taken.result (memory_view c.item_taken.new.memory) e in
    let walked : walk_of kept ≡ Some (true, c.in-Some-true-default.next) =
    sym (ap (λ (b : Bool). Some (b, c.in-Some-true-default.next)) (sym c.in-Some-true-default.field-0-0-test) ∙ c.in-Some-true-default.ensures.walk) in
    let item : item_walked kept m ≡ Some (view c.in-Some.item) = sym c.in_ok-item.ensures ∙ ap (option_map view) c.in-Some.is in
    let behind : c.in-Some-checked_add.behind ≡ suc c.in-Some-true-default.next =
    let sum = c.in-Some-checked_add.ensures {u = tt} in omega arith in
    subst P (sym (next_more kept (variable_view c.args.control) c.args.header c.in-Some-true-default.next c.in-Some-checked_add.behind (view c.in-Some.item) m walked item behind)) c.item_taken.ensures
