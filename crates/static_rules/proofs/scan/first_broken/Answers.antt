use Rattle.std.proofs.Common.{List, None, ap, ◌∙◌}
use Rattle.bound_project.specs.declared.project.Body.{Body}
use Rattle.static_rules.specs.Broken.{least_of}
use Rattle.static_rules.specs.Scan.{bodies_places}
use Rattle.static_rules.proofs.Statements.{project_found}
use Rattle.static_rules.proofs.scan.first_broken.Goals as goal

pub returns : goal.returns
returns c =
    c.note_bodies.ensures ∙ ap (λ (bs : List Body). least_of None (bodies_places bs)) c.deref.ensures.value ∙ project_found c.args.project.now c.requires
