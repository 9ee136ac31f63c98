use Rattle.std.proofs.Common.{Option, subst}
use Rattle.bound_project.specs.DraftView.{draft_view}
use Rattle.bound_project.specs.declared.declared_type.DeclaredType.{DeclaredType}
use Rattle.bound_members.specs.bound_calls.specs.Steps.{PushesOperand}
use Rattle.bound_operands.proofs.ElementEnds.{adds_number}
use Rattle.bound_operands.proofs.indexing.add_number.Goals as goal

pub returns : goal.returns
returns c =
    let d = draft_view c.args.draft.now in
    let e = draft_view c.push_operand.new.draft in
    let A : Option DeclaredType → Type 0 = λ (o : Option DeclaredType). PushesOperand c.args.tree d e o in
    adds_number c.args.indexed c.args.tree c.in-Some._found c.in_ok-count.count d e c.requires.plain c.requires.unled c.in_ok-count.ensures (subst A c.in-Some.is c.in_ok-_found.ensures)
