use Rattle.std.proofs.Common.{ℕ, List, length, map, sym, subst}
use Rattle.std.proofs.lemmas.Bool.{iff_false}
use Rattle.bound_project.specs.declared.declarations.NamedMember.{NamedMember}
use Rattle.bound_project.specs.Project.{Named}
use Rattle.bound_project.specs.View.{class_view, declarations_view, named_view}
use Rattle.bound_project.specs.Whole.{All, WholeMember}
use Rattle.code_check.proofs.Tests.{refused}
use Rattle.code_check.proofs.Entries.{all_at}
use Rattle.code_check.proofs.tables.are_whole_members.Goals as goal

pub returns-then-not-is_whole_member : goal.returns-then-not-is_whole_member
returns-then-not-is_whole_member c =
    let d = declarations_view c.args.code.now.declared in
    let P : Named → Type 0 = λ (x : Named). WholeMember d (length (class_view c.args.class.now).fields) x.member in
    refused (λ all. (
    let items = subst (λ (l : List NamedMember). All P (map named_view l)) (sym c.deref-named-items.ensures.value) all in
    let here = all_at P named_view c.deref-named-items.result.now c.loop-named.named-index c.named-item.result c.loop-named-test.true items in
    iff_false c.is_whole_member.ensures c.if-not-is_whole_member.true
    (subst (λ (n : ℕ). WholeMember d n (named_view c.named-item.result).member) (sym c.field_count-fields.ensures) (subst (λ (x : NamedMember). P (named_view x)) (sym c.named-item.is) here))))
