use Rattle.std.proofs.Common.{◌≡◌, true, false, length, map, refl, sym, arith, ◌∙◌}
use Rattle.std.specs.Prelude.{nat_lt, ◌∷◌}
use Rattle.vba_values.specs.View.{view}
use Rattle.vba_meaning.specs.Memory.{error_here}
use Rattle.vba_meaning.specs.Defaults.{then_call}
use Rattle.run_memory.specs.View.{memory_view, slot_view}
use Rattle.run_defaults.specs.View.{tasks_view}
use Rattle.pcode.specs.Machine.{enters, follows, raised}
use Rattle.pcode.specs.View.{code_view}
use Rattle.pcode_vm.specs.View.{operands_view, back_view, backs_view, state_view}
use Rattle.pcode_vm.proofs.Carried.{from_other}
use Rattle.pcode_vm.proofs.Following.{follows_over, follows_full, follows_entered}
use Rattle.pcode_vm.proofs.machine.Machine.call_within.Goals as goal

pub returns-then-left-eq0 : goal.returns-then-left-eq0
returns-then-left-eq0 c =
    let old = c.args.self.now in
    let none : c.args.left ≡ 0 = omega arith in
    from_other c.args.turns
    (follows (code_view c.args.code.now) c.args.place c.args.left c.args.next (operands_view old.operands) (backs_view old.backs)
    (then_call c.args.procedure (view c.args.me) (map slot_view c.args.arguments.items) (tasks_view c.args.tasks.items)) (state_view old))
    (raised (error_here 450 (memory_view old.memory)) (backs_view old.backs) (state_view old))
    old old c.raise_number.new.self c.raise_number.result
    (follows_over (code_view c.args.code.now) c.args.place c.args.left c.args.next (operands_view old.operands) (backs_view old.backs)
    c.args.procedure (view c.args.me) (map slot_view c.args.arguments.items) (tasks_view c.args.tasks.items) (state_view old) none) refl c.raise_number.ensures

pub returns-then-not-has_room : goal.returns-then-not-has_room
returns-then-not-has_room c =
    let old = c.args.self.now in
    let some : (c.args.left ≡ 0 → ⊥) = (λ e. absurd (omega arith)) in
    let full : nat_lt (length (memory_view old.memory).frames) 2000 ≡ false = sym c.has_room.ensures ∙ c.if-not-has_room.true in
    from_other c.args.turns
    (follows (code_view c.args.code.now) c.args.place c.args.left c.args.next (operands_view old.operands) (backs_view old.backs)
    (then_call c.args.procedure (view c.args.me) (map slot_view c.args.arguments.items) (tasks_view c.args.tasks.items)) (state_view old))
    (raised (error_here 28 (memory_view old.memory)) (backs_view old.backs) (state_view old))
    old old c.raise_number-then-not-has_room.new.self c.raise_number-then-not-has_room.result
    (follows_full (code_view c.args.code.now) c.args.place c.args.left c.args.next (operands_view old.operands) (backs_view old.backs)
    c.args.procedure (view c.args.me) (map slot_view c.args.arguments.items) (tasks_view c.args.tasks.items) (state_view old) some full) refl c.raise_number-then-not-has_room.ensures

pub returns : goal.returns
returns c =
    let old = c.args.self.now in
    let new = c.wait_within-back.new.self in
    let some : (c.args.left ≡ 0 → ⊥) = (λ e. absurd (omega arith)) in
    let room : nat_lt (length (memory_view old.memory).frames) 2000 ≡ true = sym c.has_room.ensures ∙ c.if-not-has_room.false in
    let back = back_view c.wait_within-back.result in
    let xs = map slot_view c.args.arguments.items in
    from_other c.args.turns
    (follows (code_view c.args.code.now) c.args.place c.args.left c.args.next (operands_view old.operands) (backs_view old.backs)
    (then_call c.args.procedure (view c.args.me) xs (tasks_view c.args.tasks.items)) (state_view old))
    (enters (code_view c.args.code.now) true c.args.procedure (view c.args.me) xs (back ∷ backs_view new.backs) (state_view new))
    old new c.enter_before.new.self c.enter_before.result
    (follows_entered (code_view c.args.code.now) c.args.place c.args.left c.args.next (operands_view old.operands) back (backs_view old.backs) (backs_view new.backs)
    c.args.procedure (view c.args.me) xs (tasks_view c.args.tasks.items) (state_view old) (state_view new)
    some room c.wait_within-back.ensures.back c.wait_within-back.ensures.backs c.wait_within-back.ensures.state)
    (sym c.wait_within-back.ensures.told) c.enter_before.ensures
