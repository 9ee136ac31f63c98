use Rattle.std.proofs.Common.{subst}
use Rattle.bound_project.specs.DraftView.{draft_view}
use Rattle.bound_members.specs.bound_calls.specs.declared.term.Ending.{Ending}
use Rattle.bound_operands.specs.Indexing.{HasElements}
use Rattle.bound_operands.proofs.Elements.{opens_place}
use Rattle.bound_operands.proofs.indexing.open_element.Goals as goal

pub returns : goal.returns
returns c = λ env known.
    let H : Ending → Type 0 = λ (v : Ending). HasElements c.args.has_class (draft_view c.args.draft.now).tables v c.in-Some.element in
    opens_place env c.args.has_class c.args.tree c.args.at c.in-Some.element (draft_view c.args.draft.now) (draft_view c.push_target.new.draft) c.in_ok-target.target known (subst H c.read_ending.ensures c.in-Some.ensures) c.in_ok-target.ensures
