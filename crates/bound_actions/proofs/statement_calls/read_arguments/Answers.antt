use Rattle.std.proofs.Common.{◌≡◌, [], sym, ◌∙◌}
use Rattle.std.proofs.lemmas.Bool.{eqb-true}
use Rattle.std.proofs.lemmas.List.{nil_from_length}
use Rattle.bound_project.specs.DraftView.{draft_view}
use Rattle.bound_project.specs.View.{parameter_view}
use Rattle.std.specs.Prelude.{map}
use Rattle.bound_terms.specs.bound_accesses.specs.bound_names.specs.View.{env_view}
use Rattle.statement_terms.proofs.NamedCalls.{reads_plain}
use Rattle.bound_actions.proofs.statement_calls.read_arguments.Goals as goal

pub returns-then-is_empty : goal.returns-then-is_empty
returns-then-is_empty c =
    let read = c.in_ok-passed in
    let v = read.named in
    let empty : v.items ≡ [] = nil_from_length v.items (sym v.ok.0 ∙ eqb-true v.len 0 (sym c.if-is_empty.ensures)) in
    reads_plain (env_view c.args.env) c.args.nodes.now (map parameter_view c.args.parameters.now) read.passed v.items (draft_view c.args.draft.now) (draft_view c.read_named.new.draft) empty read.ensures
