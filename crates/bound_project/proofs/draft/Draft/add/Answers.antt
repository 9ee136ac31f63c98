use Rattle.std.proofs.Common.{◌≡◌, List, [], ◌∷◌, ◌++◌, length, ap, ◌∙◌, arith}
use Rattle.bound_project.specs.declared.node.Node.{Node}
use Rattle.bound_project.specs.declared.statement.StatementNode.{StatementNode}
use Rattle.bound_project.specs.Drafts.{tables_in, drafted}
use Rattle.bound_project.proofs.Drafts.{nodes_more, statement_more}
use Rattle.bound_project.proofs.draft.Draft.add.Goals as goal

pub invariant_of-self-in-Break-branch-2 : goal.invariant_of-self-in-Break-branch-2
invariant_of-self-in-Break-branch-2 c =
    let d = c.args.self.now in
    let t = tables_in d.constants.items d.orders.items in
    let more = (nodes_more t d.scratch.items d.nodes.items d.scratch.items d.statements.items d.bodies.items d.kept d.kept.0).0 in
    record { kept = rw (c.in_err-push.ensures.items, c.in_ok-extend_from_slice.ensures.items, c.deref.ensures.value) more }

pub invariant_of-self-2 : goal.invariant_of-self-2
invariant_of-self-2 c =
    let d = c.args.self.now in
    let t = tables_in d.constants.items d.orders.items in
    let s : StatementNode = record { action = c.args.action; first_node = c.in-Ok.first_node; nodes = c.in-Ok-try_from.nodes; place = c.args.place; next = c.args.next } in
    let first : s.first_node ≡ length d.nodes.items = omega (arith, c.in-Ok.ensures, c.len.ensures, d.nodes.ok.0) in
    let count : s.nodes ≡ length d.scratch.items = omega (arith, c.in-Ok-try_from.ensures, c.len-2.ensures, d.scratch.ok.0) in
    let more = (statement_more t d.scratch.items d.nodes.items d.statements.items d.bodies.items s d.kept c.requires.named first count c.requires.fit).0 in
    record { kept = rw (c.clear.ensures.items, c.in_ok-push.ensures.items, c.in_ok-extend_from_slice.ensures.items, c.deref.ensures.value) more }

pub returns : goal.returns
returns c =
    let d = c.args.self.now in
    let t = tables_in d.constants.items d.orders.items in
    let s : StatementNode = record { action = c.args.action; first_node = c.in-Ok.first_node; nodes = c.in-Ok-try_from.nodes; place = c.args.place; next = c.args.next } in
    let first : s.first_node ≡ length d.nodes.items = omega (arith, c.in-Ok.ensures, c.len.ensures, d.nodes.ok.0) in
    let count : s.nodes ≡ length d.scratch.items = omega (arith, c.in-Ok-try_from.ensures, c.len-2.ensures, d.scratch.ok.0) in
    ap (λ (l : List Node). drafted t l c.extend_from_slice.new.self.items c.push.new.self.items d.bodies.items) c.clear.ensures.items
    ∙ ap (λ (l : List StatementNode). drafted t [] c.extend_from_slice.new.self.items l d.bodies.items) c.in_ok-push.ensures.items
    ∙ ap (λ (l : List Node). drafted t [] l (d.statements.items ++ s ∷ []) d.bodies.items) (c.in_ok-extend_from_slice.ensures.items ∙ ap (λ (l : List Node). d.nodes.items ++ l) c.deref.ensures.value)
    ∙ (statement_more t d.scratch.items d.nodes.items d.statements.items d.bodies.items s d.kept c.requires.named first count c.requires.fit).1
