use Rattle.std.proofs.Common.{sym}
use Rattle.bound_project.specs.DraftView.{draft_view}
use Rattle.bound_project.specs.View.{declarations_view}
use Rattle.bound_calls.proofs.Referring.{behind_named, gives_refers, pushes_default, refers_may}
use Rattle.bound_calls.proofs.references.push_default.Goals as goal

pub reference_ending-requires-clause-refers : goal.reference_ending-requires-clause-refers
reference_ending-requires-clause-refers c = refers_may c.args.term (gives_refers c.args.term c.requires.gives)

pub push_node-requires-2 : goal.push_node-requires-2
push_node-requires-2 c =
    behind_named (draft_view c.push_node.new.draft).tables c.in_ok-found.found c.args.place c.in-Some.behind (sym c.in-Some.ensures)

pub returns : goal.returns
returns c =
    pushes_default (declarations_view c.args.declared.now) c.args.term c.args.place (draft_view c.args.draft.now) (draft_view c.reference_ending.new.draft) (draft_view c.push_node.new.draft) (draft_view c.push_node-2.new.draft)
    c.in_ok-ending.ending c.in_ok-found.found c.in-Some.behind c.requires.gives c.in_ok-ending.ensures c.in_ok-found.ensures (sym c.in-Some.ensures) c.in_ok-push_node.ensures c.in_ok-push_node-2.ensures
