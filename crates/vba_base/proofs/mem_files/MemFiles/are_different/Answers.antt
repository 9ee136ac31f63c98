use Rattle.std.proofs.Common.{is_some, sym, ap, ◌∙◌}
use Rattle.vba_base.proofs.Entries.{different_first}
use Rattle.vba_base.proofs.mem_files.MemFiles.are_different.Goals as goal

pub returns-then-is_some : goal.returns-then-is_some
returns-then-is_some c =
    sym (different_first _ _ c.in-Some.first.now c.in-Some.others.now _ c.in-Some.ensures.cases.0 c.as_str.ensures.value (sym (ap is_some c.place_of.ensures) ∙ sym c.is_some.ensures ∙ c.if-is_some.true)) ∙ c.loop-first.invariant

pub loop-first-preserved : goal.loop-first-preserved
loop-first-preserved c =
    sym (different_first _ _ c.in-Some.first.now c.in-Some.others.now _ c.in-Some.ensures.cases.0 c.as_str.ensures.value (sym (ap is_some c.place_of.ensures) ∙ sym c.is_some.ensures ∙ c.if-is_some.false)) ∙ c.loop-first.invariant
