use Rattle.std.proofs.Common.{sym, ◌∙◌}
use Rattle.bound_project.specs.DraftView.{draft_view}
use Rattle.bound_calls.proofs.Taking.{loads_some}
use Rattle.bound_calls.proofs.take.load.Goals as goal

pub returns : goal.returns
returns c =
    loads_some c.args.kind c.args.of c.args.makes c.args.place (draft_view c.args.draft.now) (draft_view c.push.new.self) c.read_kind.result c.read_kind.ensures (sym c.is_object.ensures ∙ c.if-is_object.false) c.in_ok-push.ensures
