use Rattle.std.proofs.Common.{◌≡◌, ◌↔◌, ◌<◌, Bool, true, Some, length, sym, ◌∙◌, arith}
use Rattle.std.proofs.lemmas.Bool.{iff_false}
use Rattle.std.proofs.lemmas.List.{length-map}
use Rattle.std.proofs.lemmas.Result.{IfOk-weaker}
use Rattle.bound_project.specs.View.{procedure_view}
use Rattle.pcode.specs.View.{code_view}
use Rattle.pcode.specs.WellFormed.{along_all, no_way, WellFormed}
use Rattle.code_check.proofs.Tests.{refused}
use Rattle.code_check.proofs.checked.is_well_formed.Goals as goal

pub returns-then-not-is_led_by_leave : goal.returns-then-not-is_led_by_leave
returns-then-not-is_led_by_leave c = refused (λ well. iff_false c.is_led_by_leave.ensures c.if-not-is_led_by_leave.true (well.leave, well.first))

pub returns-then-not-are_counted : goal.returns-then-not-are_counted
returns-then-not-are_counted c = refused (λ well. iff_false c.are_counted.ensures c.if-not-are_counted.true well.counted)

pub starts_agree-requires : goal.starts_agree-requires
starts_agree-requires c = let counted = c.are_counted.ensures.0 c.if-not-are_counted.false in counted.0 ∙ sym counted.1

pub returns-then-not-starts_agree : goal.returns-then-not-starts_agree
returns-then-not-starts_agree c = refused (λ well. iff_false c.starts_agree.ensures c.if-not-starts_agree.true well.starts)

pub returns-then-not-tables_begin : goal.returns-then-not-tables_begin
returns-then-not-tables_begin c = refused (λ well. iff_false c.tables_begin.ensures c.if-not-tables_begin.true well.entries)

pub returns-then-not-tables_go_on : goal.returns-then-not-tables_go_on
returns-then-not-tables_go_on c = refused (λ well. iff_false c.tables_go_on.ensures c.if-not-tables_go_on.true well.nexts)

pub returns-then-not-classes_end : goal.returns-then-not-classes_end
returns-then-not-classes_end c = refused (λ well. iff_false c.classes_end.ensures c.if-not-classes_end.true well.ends)

pub returns-then-len-code : goal.returns-then-len-code
returns-then-len-code c =
    let d = c.args.code.now.declared in
    refused (λ well. omega (arith, well.begin, length-map d.procedures.items procedure_view, c.len.ensures, d.procedures.ok.0))

pub numbers_are_sound-requires : goal.numbers_are_sound-requires
numbers_are_sound-requires c = c.tables_begin.ensures.0 c.if-not-tables_begin.false

pub returns-then-not-numbers_are_sound : goal.returns-then-not-numbers_are_sound
returns-then-not-numbers_are_sound c = refused (λ well. iff_false c.numbers_are_sound.ensures c.if-not-numbers_are_sound.true well.sound)

pub returns : goal.returns
returns c =
    let code = code_view c.args.code.now in
    let d = c.args.code.now.declared in
    let led = c.is_led_by_leave.ensures.0 c.if-not-is_led_by_leave.false in
    let begin : code.startup < length code.declared.procedures = omega (arith, length-map d.procedures.items procedure_view, c.len.ensures, d.procedures.ok.0) in
    IfOk-weaker c.operands_are_found.result (λ (b : Bool). (b ≡ true) ↔ (along_all code.instrs no_way ≡ Some no_way)) (λ (b : Bool). (b ≡ true) ↔ WellFormed code) (λ b f. (
      λ t. record {
        leave = led.0;
        first = led.1;
        operands = f.0 t;
        sound = c.numbers_are_sound.ensures.0 c.if-not-numbers_are_sound.false;
        entries = c.tables_begin.ensures.0 c.if-not-tables_begin.false;
        starts = c.starts_agree.ensures.0 c.if-not-starts_agree.false;
        nexts = c.tables_go_on.ensures.0 c.if-not-tables_go_on.false;
        counted = c.are_counted.ensures.0 c.if-not-are_counted.false;
        ends = c.classes_end.ensures.0 c.if-not-classes_end.false;
        begin = begin;
      },
      λ well. f.1 well.operands,
    )) c.operands_are_found.ensures
