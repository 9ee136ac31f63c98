use Rattle.std.proofs.lemmas.Result.{on_ok_weaker}
use Rattle.bound_project.specs.DraftView.{draft_view}
use Rattle.statement_terms.proofs.Placing.{with_pushed}
use Rattle.statement_terms.proofs.places.with_place.Goals as goal

pub returns : goal.returns
returns c =
    on_ok_weaker c.push_node.result (λ h. with_pushed c.args.kind c.args.of c.args.place (draft_view c.args.draft.now) (draft_view c.push_node.new.draft) c.requires.plain h) c.push_node.ensures
