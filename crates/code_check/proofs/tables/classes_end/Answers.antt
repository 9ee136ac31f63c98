use Rattle.std.proofs.Common.{List, map, sym, subst}
use Rattle.std.proofs.lemmas.Bool.{iff_false}
use Rattle.bound_project.specs.declared.declarations.Class.{Class}
use Rattle.bound_project.specs.View.{class_view, declarations_view}
use Rattle.bound_project.specs.Whole.{All, WholeClass}
use Rattle.code_check.proofs.Tests.{refused}
use Rattle.code_check.proofs.Entries.{all_at}
use Rattle.code_check.proofs.tables.classes_end.Goals as goal

pub returns-then-not-class_ends : goal.returns-then-not-class_ends
returns-then-not-class_ends c =
    let d = declarations_view c.args.code.now.declared in
    refused (λ all. (
    let items = subst (λ (l : List Class). All (WholeClass d) (map class_view l)) (sym c.deref-class-items.ensures.value) all in
    let here = all_at (WholeClass d) class_view c.deref-class-items.result.now c.loop-class.class-index c.class-item.result c.loop-class-test.true items in
    iff_false c.class_ends.ensures c.if-not-class_ends.true (subst (λ (x : Class). WholeClass d (class_view x)) (sym c.class-item.is) here)))
